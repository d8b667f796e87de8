use Rattle.desk_cli.proofs.StateLines.{version_one_read_back}
use Rattle.desk_cli.proofs.law.version_one_reads_back.Goals as goal

pub returns : goal.returns
returns c = version_one_read_back
