use Rattle.trusted_execution.proofs.StillTime.{decision-trusted_run}
use Rattle.trusted_execution.proofs.law.aux_after_call_means_trusted_run.Goals as goal

pub returns : goal.returns
returns c = decision-trusted_run
