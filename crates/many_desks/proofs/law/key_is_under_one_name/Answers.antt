use Rattle.many_desks.proofs.law.key_is_under_one_name.Goals as goal
use Rattle.many_desks.proofs.OneName.{key_is_under_one_name}

pub returns : goal.returns
returns c = key_is_under_one_name
