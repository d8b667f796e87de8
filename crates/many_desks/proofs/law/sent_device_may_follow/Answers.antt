use Rattle.many_desks.proofs.law.sent_device_may_follow.Goals as goal
use Rattle.many_desks.proofs.Possible.{sent_device_may_follow}

pub returns : goal.returns
returns c = sent_device_may_follow
