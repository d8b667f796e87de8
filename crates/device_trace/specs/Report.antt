-- The reports of a play.
use Rattle.std.specs.Prelude.{◌≡◌, Some, IsTrue, ◌++◌}
use Rattle.device_types.specs.Report.{ReportFields}
use Rattle.device_trace.specs.{Start.Start, Text.last_report, Trace.{trace, Play}, RegionRun.{TrustedRun, WholeRun}}

-- Moments of a play.

-- this holds at each moment of a play, from power-on to its end: of the play up to it
abbrev pub EachMoment : Play → (Play → Type 0) → Type 0
EachMoment play holds = (later earlier : Play) → play ≡ later ++ earlier → holds earlier

-- this holds of every report that a play makes, and of the play up to it
abbrev pub EachReport : Start → Play → (ReportFields → Play → Type 0) → Type 0
EachReport start play holds =
    EachMoment play (λ earlier.
    (report : ReportFields) → last_report start earlier ≡ Some report → holds report earlier)

-- a report whose EXEC is 1 comes after a whole run of the region that it names
abbrev pub ExecMeansWholeRun : Start → ReportFields → Play → Type 0
ExecMeansWholeRun start report play = IsTrue report.exec → WholeRun report.bounds (trace start play)

-- and one whose AUX is 1 after a trusted run, where the second flag is that of trusted interrupts
abbrev pub AuxMeansTrustedRun : Start → ReportFields → Play → Type 0
AuxMeansTrustedRun start report play =
    IsTrue report.aux → TrustedRun report.bounds (trace start play)
