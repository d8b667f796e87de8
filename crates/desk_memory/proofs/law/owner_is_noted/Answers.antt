use Rattle.desk_memory.proofs.Noted.{owner_is_noted}
use Rattle.desk_memory.proofs.law.owner_is_noted.Goals as goal

pub returns : goal.returns
returns c = owner_is_noted
