use Rattle.mac_coverage.proofs.Plays.{report-covered}
use Rattle.mac_coverage.proofs.law.mac_covers_each_report.Goals as goal

pub returns : goal.returns
returns c flag digest key image play device_key bytes later earlier parts report =
    report-covered flag digest key image earlier report device_key bytes
