use Rattle.many_desks.proofs.law.desks_are_as_one.Goals as goal
use Rattle.many_desks.proofs.AsOne.{desks_are_as_one}

pub returns : goal.returns
returns c = desks_are_as_one
