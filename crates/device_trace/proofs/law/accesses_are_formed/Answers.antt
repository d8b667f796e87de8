use Rattle.device_trace.proofs.FormedAccess.{trace-formed}
use Rattle.device_trace.proofs.law.accesses_are_formed.Goals as goal

pub returns : goal.returns
returns c = trace-formed
