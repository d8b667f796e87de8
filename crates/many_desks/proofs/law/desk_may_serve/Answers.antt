use Rattle.many_desks.proofs.law.desk_may_serve.Goals as goal
use Rattle.many_desks.proofs.Possible.{desk_may_serve}

pub returns : goal.returns
returns c = desk_may_serve
