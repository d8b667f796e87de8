use Rattle.trusted_execution.proofs.StillTime.{shown-is}
use Rattle.trusted_execution.proofs.law.calls_leave_aux.Goals as goal

pub returns : goal.returns
returns c = shown-is
