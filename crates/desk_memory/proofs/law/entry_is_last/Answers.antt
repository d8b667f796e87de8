use Rattle.desk_memory.proofs.Noted.{entry_is_last}
use Rattle.desk_memory.proofs.law.entry_is_last.Goals as goal

pub returns : goal.returns
returns c = entry_is_last
