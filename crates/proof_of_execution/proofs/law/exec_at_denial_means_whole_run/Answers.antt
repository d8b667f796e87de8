use Rattle.proof_of_execution.proofs.Plays.{denial-whole_run}
use Rattle.proof_of_execution.proofs.law.exec_at_denial_means_whole_run.Goals as goal

pub returns : goal.returns
returns c = denial-whole_run
