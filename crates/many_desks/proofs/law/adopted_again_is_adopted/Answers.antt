use Rattle.many_desks.proofs.law.adopted_again_is_adopted.Goals as goal
use Rattle.many_desks.proofs.Again.{adopted_again_is_adopted}

pub returns : goal.returns
returns c = adopted_again_is_adopted
