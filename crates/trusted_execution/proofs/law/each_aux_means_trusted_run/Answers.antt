use Rattle.trusted_execution.proofs.StillTime.{report-trusted_run}
use Rattle.trusted_execution.proofs.law.each_aux_means_trusted_run.Goals as goal

pub returns : goal.returns
returns c start play is_aux later earlier parts report =
    report-trusted_run start earlier report is_aux
