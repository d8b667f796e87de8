use Rattle.proof_of_execution.proofs.Plays.{decision-whole_run}
use Rattle.proof_of_execution.proofs.law.exec_after_call_means_whole_run.Goals as goal

pub returns : goal.returns
returns c = decision-whole_run
