use Rattle.many_desks.proofs.law.device_has_one_home.Goals as goal
use Rattle.many_desks.proofs.AsOne.{device_has_one_home}

pub returns : goal.returns
returns c = device_has_one_home
