use Rattle.trusted_execution.proofs.StillTime.{denial-trusted_run}
use Rattle.trusted_execution.proofs.law.aux_at_denial_means_trusted_run.Goals as goal

pub returns : goal.returns
returns c = denial-trusted_run
