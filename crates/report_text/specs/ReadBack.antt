-- The line of a report is read as that report, and the line of a verdict as none.
use Rattle.std.specs.Prelude.{◌≡◌, ◌<◌, ◌^◌, ℕ, Bool, false, List, [], ◌∷◌, length, Ok, IfSome, IsTrue}
use Rattle.hex.specs.Hex.{IsBytes}
use Rattle.device_types.specs.{declared.version.Version.{Version, TheVariants.{One, Two}}, Bounds.AreWords, Report.ReportFields}
use Rattle.printed_lines.specs.Line.{report_line}
use Rattle.report_verifier.specs.declared.verdict.Verdict.{Verdict}
use Rattle.report_text.specs.{ReportFile.{output_fits, reports_of}, VerdictLine.verdict_line}

-- 32 bytes
pub record IsBlock (bytes : List ℕ) : Type 0 where
  pub size : length bytes ≡ 32
  pub fits : IsBytes bytes

-- the second flag and the counter of a report: in version 1 there are none
abbrev pub IsRequest : Version → Bool → ℕ → Type 0
IsRequest One aux count = (aux ≡ false) × (count ≡ 0)
IsRequest Two aux count = count < 2 ^ 32

-- a report whose numbers fit, and whose output fits its bounds
pub record IsPrintable (report : ReportFields) : Type 0 where
  pub request : IsRequest report.version report.aux report.count
  pub step : report.step < 2 ^ 32
  pub chal : IsBlock report.chal
  pub bounds : AreWords report.bounds
  pub output : IfSome report.output IsBytes
  pub fits : IsTrue (output_fits report.version report.bounds report.output)
  pub mac : IsBlock report.mac

-- the file of its line is the list of that one report
abbrev pub IsReadBack : Type 0
IsReadBack =
    (report : ReportFields) → IsPrintable report
    → reports_of (report_line report) ≡ Ok (report ∷ [])

-- the file of a verdict's line has no report
abbrev pub IsPassedOver : Type 0
IsPassedOver =
    (number : ℕ) (verdict : Verdict) → number < 2 ^ 32
    → reports_of (verdict_line number verdict) ≡ Ok []
