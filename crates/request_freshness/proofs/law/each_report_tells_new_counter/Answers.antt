use Rattle.request_freshness.proofs.Reports.{report-new}
use Rattle.request_freshness.proofs.law.each_report_tells_new_counter.Goals as goal

pub returns : goal.returns
returns c flag digest key image play device_key bytes later earlier parts report =
    report-new flag digest key image earlier report device_key bytes
