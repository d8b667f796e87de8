-- The text of a play: a line for each step that sent a byte, reset the device or finished a call,
-- and an end line.
use Rattle.std.specs.Prelude.{◌==◌, ◌++◌, ℕ, List, [], ◌∷◌, Option, Some, None, length, option_map, unwrap_or, if◌then◌else◌}
use Rattle.device_types.specs.{declared.{access.Access.{Access, TheVariants.Write}, bus_record.BusRecord.BusRecord, event.Event.Event, rule.Rule.Rule, bounds.Bounds.Bounds, version.Version.TheVariants.Two}, Report.ReportFields, Bounds.are_valid, Address.{Contents, Bytes}}
use Rattle.part_definitions.specs.{Metadata.{counter_bytes, little_endian}, Request.ATTESTS, Region.{challenge_bytes, mac_bytes, output_bytes}, Serial.byte_sent}
use Rattle.printed_lines.specs.Line.{sent_line, reset_line, report_line, denied_line, end_line}
use Rattle.device_trace.specs.{Logs.{Logs, exec_of, aux_of, logged_byte, logged_bounds}, Progress.next_pc_of, Start.Start, Step.next_record, Trace.{logs_after, Play}}

-- the byte that an access which was not refused sent by the serial port
abbrev pub byte_sent_by : Option Rule → Option Access → Option ℕ
byte_sent_by None (Some (Write place size number)) = byte_sent place size number
byte_sent_by rule access = None

abbrev pub byte_sent_in : BusRecord → Option ℕ
byte_sent_in entry = byte_sent_by entry.reset entry.cpu

-- the byte that the last step of a history sent
abbrev pub last_byte_sent : List BusRecord → Option ℕ
last_byte_sent [] = None
last_byte_sent (entry ∷ history) = byte_sent_in entry

-- the bytes of OR, where the bounds are valid
abbrev pub reported_output : Contents → Bounds → Option Bytes
reported_output bytes bounds =
    if are_valid bounds then Some (output_bytes bytes bounds) else None

-- the report of a call that this step finished, from what stands after it
abbrev pub report_of : Start → Logs → ℕ → ReportFields
report_of start logs step =
    record {
      version = Two;
      step = step;
      exec = exec_of logs;
      aux = aux_of start logs;
      count = little_endian (counter_bytes (logged_byte start logs));
      chal = challenge_bytes (logged_byte start logs);
      bounds = logged_bounds start logs;
      output = reported_output (logged_byte start logs) (logged_bounds start logs);
      mac = mac_bytes (logged_byte start logs);
    }

-- a call that attests makes a report, and any other is denied
abbrev pub report_where : Start → Logs → ℕ → Option ℕ → Option ReportFields
report_where start logs step None = None
report_where start logs step (Some decision) =
    if decision == ATTESTS then Some (report_of start logs step) else None

abbrev pub denial_where : Option ℕ → Option ℕ
denial_where None = None
denial_where (Some decision) = if decision == ATTESTS then None else Some decision

-- the report that the last step made, whose number is given, and the decision with which it denied
abbrev pub report_in : Start → Logs → ℕ → Option ReportFields
report_in start logs step = report_where start logs step logs.decision

abbrev pub denial_in : Logs → Option ℕ
denial_in logs = denial_where logs.decision

abbrev pub last_report : Start → Play → Option ReportFields
last_report start [] = None
last_report start (events ∷ play) =
    report_in start (logs_after start (events ∷ play)) (length play)

abbrev pub last_decision : Start → Play → Option ℕ
last_decision start play = (logs_after start play).decision

abbrev pub last_denial : Start → Play → Option ℕ
last_denial start play = denial_in (logs_after start play)

-- the line of what there is
abbrev pub some_line : {A : Type 0} → (A → Bytes) → Option A → Bytes
some_line line one = unwrap_or (option_map line one) []

-- the lines of one step, of its number, its record and the logs after it
abbrev pub step_lines : Start → ℕ → BusRecord → Logs → Bytes
step_lines start step entry logs =
    some_line (sent_line step) (byte_sent_in entry) ++ some_line (reset_line step) entry.reset
    ++ some_line report_line (report_in start logs step)
    ++ some_line (denied_line step) (denial_in logs)

-- of a step with these events, after a play
abbrev pub lines_of_step : Start → List Event → Play → Bytes
lines_of_step start events play =
    step_lines start (length play) (next_record start (logs_after start play) events)
    (logs_after start (events ∷ play))

-- the lines of a play in the order of its steps, which are numbered from 0
unfoldable pub lines_of : Start → Play → Bytes
lines_of start [] = []
lines_of start (events ∷ play) = lines_of start play ++ lines_of_step start events play

abbrev pub end_line_after : ℕ → Logs → Bytes
end_line_after steps logs = end_line steps (next_pc_of logs.progress) (exec_of logs)

unfoldable pub play_text : Start → Play → Bytes
play_text start play = lines_of start play ++ end_line_after (length play) (logs_after start play)
