-- A report file: the reports of its lines, or the first fault.
use Rattle.std.specs.Prelude.{ℕ, ◌==◌, ◌&&◌, ◌+◌, ◌-◌, Bool, not, List, [], ◌∷◌, ◌++◌, length, if◌then◌else◌, codes, Option, Some, None, Result, Ok, Err}
use Rattle.device_types.specs.{declared.{bounds.Bounds.Bounds, version.Version.{Version, TheVariants.Two}}, Report.ReportFields}
use Rattle.text_scan.specs.{declared.{fault_at.FaultAt.FaultAt, fault_kind.FaultKind.{FaultKind, TheVariants.Output}}, LineFold.text_fold, Reader.◌>>=◌, Word.{words_of, keyword_of, end_of}}
use Rattle.report_verifier.specs.Validity.{are_valid_for}
use Rattle.report_text.specs.ReportLine.{report_line_of, report_of}

-- with valid bounds there are the bytes of the output region, else there are none
abbrev pub output_fits : Version → Bounds → Option (List ℕ) → Bool
output_fits version bounds None = not (are_valid_for version bounds)
output_fits version bounds (Some bytes) =
    are_valid_for version bounds && (length bytes == bounds.or_max + 2 - bounds.or_min)

abbrev pub with_output : ReportFields → Result ReportFields FaultKind
with_output report =
    if output_fits report.version report.bounds report.output then Ok report else Err Output

abbrev pub with_report :
    List ReportFields → Option ReportFields → Result (List ReportFields) FaultKind
with_report reports None = Ok reports
with_report reports (Some report) = do
  whole ← with_output report
  Ok (reports ++ whole ∷ [])

unfoldable pub with_line : List ReportFields → List ℕ → Result (List ReportFields) FaultKind
with_line reports line = do
  entry ← report_line_of (words_of line)
  with_report reports entry

abbrev pub reports_of : List ℕ → Result (List ReportFields) FaultAt
reports_of text = text_fold with_line [] text

-- the report of the words of one line of version 2, or their first fault
unfoldable pub report2_of : List (List ℕ) → Result ReportFields FaultKind
report2_of words = do
  rest ← keyword_of (codes "report2") words
  report ← report_of Two rest
  end ← end_of report.1
  with_output report.0
