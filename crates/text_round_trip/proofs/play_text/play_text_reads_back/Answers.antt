-- The lines of a play, read one after another.
use Rattle.std.{proofs.{Common.{◌∙◌, ℕ, ◌%◌, ◌<◌, Bool, true, false, List, [], ◌∷◌, ◌++◌, Option, Some, None, IfSome, Ok, length, append-nil, ap, subst, arith, ◌≡◌, ◌&&◌, ◌⊎◌, inl, inr, refl, sym}, lemmas.Bool.and_parts}, specs.{Prelude.{◌==◌, ◌^◌, if◌then◌else◌, not, nat_le, is_none}, Option.option_to_list, Str.bytes_eq}}
use Rattle.device_types.specs.{declared.{access.Access.{Access, TheVariants.Write}, bus_record.BusRecord.BusRecord, rule.Rule.Rule}, Report.ReportFields, ExecFlag.SeenHistory, Address.{Bytes, Contents}, Kind.is_rom, Map.ROM_EXIT}
use Rattle.part_definitions.specs.{Request.{ATTESTS, request_decision, right_token}, Serial.SERIAL_SEND, PeripheralRegister.covers, Hmac.Digest, Metadata.{counter_in, token_in, little_endian}}
use Rattle.device_trace.specs.{Trace.{Play, logs_after, trace}, Logs.{Logs, exec_of, logged_byte, step_progress, with_events, with_record}, Progress.next_pc_of, Start.{Start, with_key}, Step.next_record, Text.{byte_sent_by, byte_sent_in, report_of, report_where, report_in, denial_in, some_line, step_lines, lines_of, play_text, end_line_after, denial_where, last_decision, last_denial}}
use Rattle.printed_lines.specs.Line.{sent_line, reset_line, report_line, denied_line}
use Rattle.mac_coverage.{specs.Coverage.{IsDeviceKey, IsOfBytes, ends_in_call, ends_finished, MacCoversCall}, proofs.{Device.{PowerOnBytes, byte_after-byte}, Words.are_bytes, Covers.decision_after-finishes, Plays.mac_covers_call}}
use Rattle.report_text.{specs.ReadBack.IsPrintable, proofs.ReadLines.{ReadsAs, reads-none, reads-both, reads-whole, reads-report, reads-sent, reads-reset, reads-denied, reads-end}}
use Rattle.text_round_trip.{specs.ReadBack.{play_reports, FitsItsLines, IsPlayReadBack}, proofs.PrintableReport.printable-report}
use Rattle.text_round_trip.proofs.play_text.play_text_reads_back.Goals as goal

-- A call that denies has decided 2 or 3.

abbrev IsDenial : ℕ → Type 0
IsDenial decision = (decision ≡ 2) ⊎ (decision ≡ 3)

-- what a request decides denies with 2 or 3, or attests
denies-where : (differs is_old : Bool)
    → IfSome (denial_where (Some (if differs then 3 else if is_old then 2 else ATTESTS))) IsDenial
denies-where true is_old = inr refl
denies-where false true = inl refl
denies-where false false = tt

request_decision-denies : (digest : Digest) (key metadata kept : List ℕ)
    → IfSome (denial_where (Some (request_decision digest key metadata kept))) IsDenial
request_decision-denies digest key metadata kept =
    denies-where (not (bytes_eq (token_in metadata) (right_token digest key metadata)))
    (nat_le (little_endian (counter_in metadata)) (little_endian kept))

-- a step with a decision finishes a call
last_decision-finishes : (start : Start) (play : Play) (decision : ℕ)
    → last_decision start play ≡ Some decision
    → (ends_in_call (trace start play) ≡ true) × (ends_finished (trace start play) ≡ true)
unfolding trace logs_after with_record
last_decision-finishes start [] decision is = absurd (cc)
last_decision-finishes start (events ∷ play) decision is =
    let logs : Logs = with_events (logs_after start play) events in
    let entry : BusRecord = next_record start (logs_after start play) events in
    let finishes = (decision_after-finishes (step_progress logs entry.kind) entry decision is).0 in
    let parts = and_parts (is_rom entry.kind && (entry.pc == ROM_EXIT)) (is_none entry.reset)
    finishes in
    ((and_parts (is_rom entry.kind) (entry.pc == ROM_EXIT) parts.0).0, finishes)

last_denial-is : (flag : SeenHistory → Bool) (digest : Digest) (key : Bytes) (image : Contents)
    (play : Play)
    → IsDeviceKey key → IsOfBytes image
    → IfSome (last_denial (with_key flag digest key image) play) IsDenial
last_denial-is flag digest key image play device_key bytes =
    by_decision (last_decision start play) refl
  where
    start : Start
    start = with_key flag digest key image

    by_decision : (decision : Option ℕ) → last_decision start play ≡ decision
        → IfSome (denial_where decision) IsDenial
    by_decision None is = tt
    by_decision (Some decision) is =
        let ends = last_decision-finishes start play decision is in
        let covers : MacCoversCall digest key start play =
        mac_covers_call flag digest key image play device_key bytes ends.0 in
        subst (λ (told : Option ℕ). IfSome (denial_where told) IsDenial)
        (sym (covers.told ends.1) ∙ is)
        (request_decision-denies digest key covers.contents.metadata covers.kept)

-- what is sent is a byte
sent_if : (test : Bool) (number : ℕ)
    → IfSome (if test then Some (number % 256) else None) (λ byte. byte < 256)
sent_if true number = omega arith
sent_if false number = tt

sent_byte : (rule : Option Rule) (access : Option Access)
    → IfSome (byte_sent_by rule access) (λ byte. byte < 256)
sent_byte None (Some (Write place size number)) = sent_if (covers place size SERIAL_SEND) number
sent_byte rule access = tt

reads-sent_lines : (step : ℕ) (sent : Option ℕ) → step < 2 ^ 32
    → IfSome sent (λ byte. byte < 256) → ReadsAs (some_line (sent_line step) sent) []
reads-sent_lines step None within fits = reads-none
reads-sent_lines step (Some byte) within fits = reads-sent step byte within fits

reads-reset_lines : (step : ℕ) (rule : Option Rule) → step < 2 ^ 32
    → ReadsAs (some_line (reset_line step) rule) []
reads-reset_lines step None within = reads-none
reads-reset_lines step (Some rule) within = reads-reset step rule within

reads-report_lines : (made : Bool) (report : ReportFields) → IsPrintable report
    → ReadsAs (some_line report_line (if made then Some report else None))
    (option_to_list (if made then Some report else None))
reads-report_lines true report printable = reads-report report printable
reads-report_lines false report printable = reads-none

reads-decision : (start : Start) (logs : Logs) (step : ℕ) (decision : Option ℕ)
    → IsPrintable (report_of start logs step)
    → ReadsAs (some_line report_line (report_where start logs step decision))
    (option_to_list (report_where start logs step decision))
reads-decision start logs step None printable = reads-none
reads-decision start logs step (Some decision) printable =
    reads-report_lines (decision == ATTESTS) (report_of start logs step) printable

reads-denied_lines : (step : ℕ) (denial : Option ℕ) → step < 2 ^ 32 → IfSome denial IsDenial
    → ReadsAs (some_line (denied_line step) denial) []
reads-denied_lines step None within denies = reads-none
reads-denied_lines step (Some decision) within denies = reads-denied step decision within denies

reads-step : (start : Start) (step : ℕ) (entry : BusRecord) (logs : Logs) → step < 2 ^ 32
    → ((place : ℕ) → logged_byte start logs place < 256)
    → IfSome (denial_in logs) IsDenial
    → ReadsAs (step_lines start step entry logs)
    (option_to_list (report_in start logs step))
reads-step start step entry logs within small denies =
    let sent : List ℕ = some_line (sent_line step) (byte_sent_in entry) in
    let reset : List ℕ = some_line (reset_line step) entry.reset in
    let report : List ℕ = some_line report_line (report_in start logs step) in
    let reports : List ReportFields = option_to_list (report_in start logs step) in
    subst (λ (all : List ReportFields). ReadsAs (step_lines start step entry logs) all)
    (append-nil reports)
    (reads-both (sent ++ reset ++ report) (some_line (denied_line step) (denial_in logs)) reports []
    (reads-both (sent ++ reset) report [] reports
    (reads-both sent reset [] []
    (reads-sent_lines step (byte_sent_in entry) within (sent_byte entry.reset entry.cpu))
    (reads-reset_lines step entry.reset within))
    (reads-decision start logs step logs.decision (printable-report start logs step small within)))
    (reads-denied_lines step (denial_in logs) within denies))

power-bytes : (flag : SeenHistory → Bool) (digest : Digest) (key : Bytes) (image : Contents)
    → IsDeviceKey key → IsOfBytes image → PowerOnBytes (with_key flag digest key image).power
power-bytes flag digest key image device_key bytes =
    record { key = are_bytes key device_key.bytes; image = bytes }

reads-lines : (flag : SeenHistory → Bool) (digest : Digest) (key : Bytes) (image : Contents)
    (play : Play)
    → IsDeviceKey key → IsOfBytes image → length play < 2 ^ 32
    → ReadsAs (lines_of (with_key flag digest key image) play)
    (play_reports (with_key flag digest key image) play)
unfolding lines_of play_reports
reads-lines flag digest key image [] device_key bytes within = reads-none
reads-lines flag digest key image (events ∷ play) device_key bytes within =
    let start : Start = with_key flag digest key image in
    let entry : BusRecord = next_record start (logs_after start play) events in
    let logs : Logs = logs_after start (events ∷ play) in
    let before : length play < 2 ^ 32 = omega (arith, within) in
    let power : PowerOnBytes start.power = power-bytes flag digest key image device_key bytes in
    reads-both (lines_of start play) (step_lines start (length play) entry logs)
    (play_reports start play) (option_to_list (report_in start logs (length play)))
    (reads-lines flag digest key image play device_key bytes before)
    (reads-step start (length play) entry logs before
    (λ place. byte_after-byte start (events ∷ play) place power)
    (last_denial-is flag digest key image (events ∷ play) device_key bytes))

read_back : (flag : SeenHistory → Bool) (digest : Digest) (key : Bytes) (image : Contents)
    (play : Play)
    → IsDeviceKey key → IsOfBytes image
    → FitsItsLines (with_key flag digest key image) play
    → IsPlayReadBack (with_key flag digest key image) play
unfolding play_text
read_back flag digest key image play device_key bytes fits =
    let start : Start = with_key flag digest key image in
    let logs : Logs = logs_after start play in
    let end : Bytes = end_line_after (length play) logs in
    reads-whole (lines_of start play ++ end) (play_reports start play ++ [])
    (reads-both (lines_of start play) end (play_reports start play) []
    (reads-lines flag digest key image play device_key bytes fits.steps)
    (reads-end (length play) (next_pc_of logs.progress) (exec_of logs) fits.steps fits.end))
    ∙ ap (λ (reports : List ReportFields). Ok reports) (append-nil (play_reports start play))

pub returns : goal.returns
returns c = read_back
