use Rattle.many_desks.proofs.law.answer_is_repeated.Goals as goal
use Rattle.many_desks.proofs.AsOne.{answer_is_repeated}

pub returns : goal.returns
returns c = answer_is_repeated
