use Rattle.many_desks.proofs.law.device_is_answered_as_one.Goals as goal
use Rattle.many_desks.proofs.AsOne.{device_is_answered_as_one}

pub returns : goal.returns
returns c = device_is_answered_as_one
