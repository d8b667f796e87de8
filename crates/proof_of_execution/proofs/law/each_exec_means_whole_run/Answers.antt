use Rattle.proof_of_execution.proofs.Plays.{report-whole_run}
use Rattle.proof_of_execution.proofs.law.each_exec_means_whole_run.Goals as goal

pub returns : goal.returns
returns c start play later earlier parts report = report-whole_run start earlier report
