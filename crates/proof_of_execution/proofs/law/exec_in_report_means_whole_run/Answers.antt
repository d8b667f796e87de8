use Rattle.proof_of_execution.proofs.Plays.{report-whole_run}
use Rattle.proof_of_execution.proofs.law.exec_in_report_means_whole_run.Goals as goal

pub returns : goal.returns
returns c = report-whole_run
