-- A report is made where a call has decided to attest, of what the logs tell.
use Rattle.std.{proofs.{Common.{◌≡◌, ℕ, [], ◌∷◌, length, Option, Some, None, ap}, lemmas.Bool.eqb-true}, specs.Prelude.◌==◌}
use Rattle.device_types.specs.Report.{ReportFields}
use Rattle.part_definitions.specs.Request.{ATTESTS}
use Rattle.device_trace.specs.{Trace.{Play, logs_after}, Logs.Logs, Start.Start, Text.{last_decision, last_report, report_of, report_where}}
use Rattle.trace_facts.proofs.ExecFlag.{some_where}

pub record IsMade (start : Start) (logs : Logs) (decision : Option ℕ) (report : ReportFields)
    : Type 0 where
  pub attests : decision ≡ Some ATTESTS
  pub step : ℕ
  pub same : report_of start logs step ≡ report

made_where : (start : Start) (logs : Logs) (step : ℕ) (decision : Option ℕ) (report : ReportFields)
    → report_where start logs step decision ≡ Some report → IsMade start logs decision report
made_where start logs step None report is = absurd (cc)
made_where start logs step (Some decision) report is =
    let both = some_where (decision == ATTESTS) (report_of start logs step) report is in
    record { attests = ap Some (eqb-true decision ATTESTS both.0); step = step; same = both.1 }

pub last_report-made : (start : Start) (play : Play) (report : ReportFields)
    → last_report start play ≡ Some report
    → IsMade start (logs_after start play) (last_decision start play) report
last_report-made start [] report is = absurd (cc)
last_report-made start (events ∷ play) report is =
    made_where start (logs_after start (events ∷ play)) (length play)
    (last_decision start (events ∷ play)) report is
