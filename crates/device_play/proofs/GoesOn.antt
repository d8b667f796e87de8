-- What a watcher says of a play goes on from what it says of the steps before.
use Rattle.std.{proofs.{Common.{◌≡◌, ◌++◌, ◌∷◌, ◌∙◌, ℕ, List, true, false, refl, ap, sym, append_assoc}, lemmas.Bool.false≢true}, specs.Prelude.{◌&&◌, [], Option, Some, None, is_none, length}}
use Rattle.device_types.specs.{declared.{event.Event.Event, bus_record.BusRecord.BusRecord, rule.Rule.Rule}, Report.ReportFields}
use Rattle.device_trace.specs.{Trace.{Play, trace, logs_after}, Start.Start, Text.{lines_of, lines_of_step, byte_sent_in, last_byte_sent, last_decision, last_report, report_in, report_where, denial_where, some_line}, Logs.Logs, Step.next_record}
use Rattle.trace_files.specs.{WaveText.{header, steps_text}, TraceText.{trace_lines, trace_text}, WaveSamples.wave_samples}
use Rattle.device_play.specs.{Account.GoesOn, Accounts.{change_text, dump_account, line_account, trace_account, wave_account}}
use Rattle.printed_lines.specs.Line.{sent_line, reset_line, report_line, denied_line}
use Rattle.device_core.specs.Silence.{last_rule, is_silent}

-- There is nothing to say of a silent step.

no-pieces :
    (step : ℕ) (tx : Option ℕ) (rule : Option Rule) (decision : Option ℕ)
    (report : Option ReportFields)
    → (is_none decision ≡ true → report ≡ None)
    → (is_none tx && is_none rule && is_none decision) ≡ true
    → some_line (sent_line step) tx ++ some_line (reset_line step) rule
    ++ some_line report_line report ++ some_line (denied_line step) (denial_where decision) ≡ []
no-pieces step None None None report none silent =
    ap (λ (made : Option ReportFields). some_line report_line made ++ []) (none refl)
no-pieces step None None (Some word) report none silent = absurd (false≢true silent)
no-pieces step None (Some rule) decision report none silent = absurd (false≢true silent)
no-pieces step (Some byte) rule decision report none silent = absurd (false≢true silent)

no-decision :
    (tx : Option ℕ) (rule : Option Rule) (decision : Option ℕ)
    → (is_none tx && is_none rule && is_none decision) ≡ true
    → is_none decision ≡ true
no-decision None None decision silent = silent
no-decision None (Some rule) decision silent = absurd (false≢true silent)
no-decision (Some byte) rule decision silent = absurd (false≢true silent)

no-report :
    (start : Start) (logs : Logs) (step : ℕ) (decision : Option ℕ)
    → is_none decision ≡ true → report_where start logs step decision ≡ None
no-report start logs step None none = refl
no-report start logs step (Some word) none = absurd (false≢true none)

-- it has no lines
pub silent-lines :
    (start : Start) (events : List Event) (play : Play)
    → is_silent start (events ∷ play) ≡ true
    → lines_of_step start events play ≡ []
unfolding trace
silent-lines start events play silent =
    let entry : BusRecord = next_record start (logs_after start play) events in
    let logs : Logs = logs_after start (events ∷ play) in
    no-pieces (length play) (byte_sent_in entry) entry.reset logs.decision
    (report_in start logs (length play)) (no-report start logs (length play) logs.decision) silent

-- and makes no report
pub silent-report :
    (start : Start) (events : List Event) (play : Play)
    → is_silent start (events ∷ play) ≡ true
    → last_report start (events ∷ play) ≡ None
silent-report start events play silent =
    no-report start (logs_after start (events ∷ play)) (length play)
    (last_decision start (events ∷ play))
    (no-decision (last_byte_sent (trace start (events ∷ play)))
    (last_rule (trace start (events ∷ play))) (last_decision start (events ∷ play)) silent)

lines-next : (start : Start) (events : List Event) (play : Play)
    → lines_of start (events ∷ play) ≡ lines_of start play ++ lines_of_step start events play
unfolding lines_of
lines-next start events play = refl

pub lines-go_on : (start : Start) (events : List Event) (play : Play)
    → GoesOn line_account false start events play
lines-go_on start events play =
    record {
      same_text = lines-next start events play;
      same_cuts = λ cut has. has;
      no_text = λ passed. silent-lines start events play passed.1;
      same_tally = λ tally passed is. tt;
    }

pub dump-goes_on : (start : Start) (events : List Event) (play : Play)
    → GoesOn dump_account false start events play
dump-goes_on start events play =
    let same = lines-go_on start events play in
    record {
      same_text = same.same_text;
      same_cuts = same.same_cuts;
      no_text = same.no_text;
      same_tally = same.same_tally;
    }

trace-next : (start : Start) (events : List Event) (play : Play)
    → trace_text start (events ∷ play)
    ≡ trace_text start play ++ trace_account.step_text start events play
unfolding trace_lines
trace-next start events play = refl

pub trace-goes_on : (start : Start) (events : List Event) (play : Play)
    → GoesOn trace_account true start events play
trace-goes_on start events play =
    record {
      same_text = trace-next start events play;
      same_cuts = λ cut has. has;
      no_text = λ passed. absurd (cc (passed.0));
      same_tally = λ tally passed is. absurd (cc (passed.0));
    }

wave-next : (start : Start) (events : List Event) (play : Play)
    → steps_text (wave_samples start (events ∷ play))
    ≡ steps_text (wave_samples start play) ++ change_text start events play
unfolding wave_samples steps_text
wave-next start events play = refl

pub wave-goes_on : (start : Start) (events : List Event) (play : Play)
    → GoesOn wave_account true start events play
wave-goes_on start events play =
    record {
      same_text = ap (λ (text : List ℕ). header ++ text) (wave-next start events play)
          ∙ sym (append_assoc header (steps_text (wave_samples start play))
          (change_text start events play));
      same_cuts = λ cut has. has;
      no_text = λ passed. absurd (cc (passed.0));
      same_tally = λ tally passed is. absurd (cc (passed.0));
    }
