use Rattle.std.proofs.Common.{arith}
use Rattle.sqlite_wal.specs.Recovery.{frames_len}
use Rattle.desk_database.proofs.log_fit.version_offset.Goals as goal

pub returns : goal.returns
unfolding frames_len
returns c = omega arith
