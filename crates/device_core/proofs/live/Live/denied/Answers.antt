use Rattle.device_core.proofs.{OneLine.denial-decided, ReportLaws.decided-covered}
use Rattle.device_core.proofs.live.Live.denied.Goals as goal

pub returns-in-Some-Denied-clause-covered : goal.returns-in-Some-Denied-clause-covered
returns-in-Some-Denied-clause-covered g c = λ key image device_key bytes play stands.
    decided-covered _ _ key image play device_key bytes
    (denial-decided c.in-Some-Denied.decision _
    (rw (c.in-Some-Denied.is, c.in-Some-Denied.field-0-is) at
    (c.line.ensures _ play stands).denied))
