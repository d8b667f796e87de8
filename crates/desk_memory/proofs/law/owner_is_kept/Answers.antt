use Rattle.desk_memory.proofs.Noted.{owner_is_kept}
use Rattle.desk_memory.proofs.law.owner_is_kept.Goals as goal

pub returns : goal.returns
returns c = owner_is_kept
