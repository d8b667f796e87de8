use Rattle.many_desks.proofs.law.lines_are_adopted_once.Goals as goal
use Rattle.many_desks.proofs.Again.{lines_are_adopted_once}

pub returns : goal.returns
returns c = lines_are_adopted_once
