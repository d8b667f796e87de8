use Rattle.trusted_execution.proofs.StillTime.{report-trusted_run}
use Rattle.trusted_execution.proofs.law.aux_in_report_means_trusted_run.Goals as goal

pub returns : goal.returns
returns c = report-trusted_run
