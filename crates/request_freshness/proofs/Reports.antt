-- The counters in the reports of a play grow.
use Rattle.std.{proofs.{Common.{◌≡◌, ℕ, suc, ◌≤◌, Bool, true, false, List, [], ◌∷◌, ◌++◌, append-nil, inl, inr, Option, Some, length, ap, sym, ◌∙◌, arith, subst}, lemmas.Bool.{and_parts, cond-true}}, specs.Prelude.{slice_get, ◌==◌, ◌&&◌, is_none, is_some, if◌then◌else◌}}
use Rattle.device_types.specs.{declared.{bus_record.BusRecord.BusRecord, event.Event.Event, kind.Kind.TheVariants.Rom, rule.Rule.Rule}, Kind.is_rom, Map.ROM_EXIT, Report.ReportFields, ExecFlag.SeenHistory, Address.{Bytes, Contents}}
use Rattle.part_definitions.specs.{Attestation.{call_item, is_return, word_passed}, Hmac.Digest}
use Rattle.device_trace.specs.{Trace.{Play, logs_after, trace}, Logs.{Logs, finishes_call, step_progress, vector_of, with_events}, Progress.{InCall, after_return, call_after}, Signals.step_kind, Start.with_key, Text.last_report, Step.{asks_reset, next_record}}
use Rattle.trace_facts.proofs.ExecFlag.{none_there}
use Rattle.mac_coverage.{specs.Coverage.{ends_finished, ends_in_call, last_call, mac_written, IsDeviceKey, IsOfBytes, call_length}, proofs.{CallItems.exit_returns, Device.{Device, start_of}, Plays.{Reports, last_report-finishes, outcome_at, rom_kind, record_of-on_call}, Calls.{entry_at, log_at}, PlaySteps.{IsTurnOfCall, entry-kind, entry-pc, entry-step}, Steps.{IsOfCall, OnCall, progress-call_step, rom_step-of_call}}}
use Rattle.request_freshness.{specs.Freshness.{Attests, TellsNewCounter}, proofs.{Moments.later_or_first, Grows.{counters-grow, device_of}}}

-- the progress after a step of a call that is not refused
record CallProgress (device : Device) (play : Play) (events : List Event)
    : Type 0 where
  regs : List ℕ
  words : List ℕ
  word : ℕ
  is : (logs_after (start_of device) (events ∷ play)).progress ≡ call_after regs words word
  returns : finishes_call (entry_at device play events) ≡ true
      → is_return (call_item words) ≡ true

call-progress : (device : Device) (play : Play) (events : List Event)
    → step_kind (log_at device play events) ≡ Rom
    → is_some (entry_at device play events).reset ≡ false
    → CallProgress device play events
unfolding logs_after with_events
call-progress device play events rom no_reset =
    let entry : BusRecord = entry_at device play events in
    let logs : Logs = log_at device play events in
    let call : IsOfCall logs.progress (step_progress logs (step_kind logs)) =
    rom_step-of_call logs.progress (vector_of logs) rom in
    let turn : IsTurnOfCall device play events call.regs call.words =
    record { kind = rom; progress = call.is } in
    let step = entry-step device play events call.regs call.words turn
    (none_there entry.reset no_reset) in
    record {
      regs = call.regs;
      words = call.words;
      word = word_passed entry.cpu entry.value;
      is = progress-call_step (start_of device) logs call.regs call.words entry step rom call.is;
      returns = λ finishes.
          let parts = and_parts (is_rom entry.kind && (entry.pc == ROM_EXIT)) (is_none entry.reset)
          finishes in
          let place = and_parts (is_rom entry.kind) (entry.pc == ROM_EXIT) parts.0 in
          exit_returns (call_item call.words)
          (ap (λ (pc : ℕ). pc == ROM_EXIT)
          (sym (entry-pc device play events call.regs call.words turn))
          ∙ place.1);
    }

-- a call that begins after a play has made no more steps than there are since
abbrev BeganAfter : Device → Play → Play → Type 0
BeganAfter device later earlier =
    OnCall (λ regs words. call_length (start_of device) (later ++ earlier) ≤ length later)
    (logs_after (start_of device) (later ++ earlier)).progress

-- after a finished call there is none
return-no_call : (Holds : Type 0) (regs words : List ℕ) (word : ℕ)
    → is_return (call_item words) ≡ true
    → OnCall (λ regs words. Holds) (call_after regs words word)
return-no_call Holds regs words word returns =
    subst (OnCall (λ regs words. Holds))
    (sym (cond-true (is_return (call_item words)) (after_return regs word) _ returns)) tt

not_refused : (rule : Option Rule) (ends : Bool) → (ends && is_none rule) ≡ true
    → is_some rule ≡ false
not_refused rule ends finishes = grind arith

finished-no_call : (device : Device) (play : Play)
    → ends_finished (trace (start_of device) play) ≡ true
    → BeganAfter device [] play
unfolding trace
finished-no_call device [] finishes = absurd (cc)
finished-no_call device (events ∷ play) finishes =
    let entry : BusRecord = entry_at device play events in
    let both = and_parts (is_rom entry.kind && (entry.pc == ROM_EXIT)) (is_none entry.reset)
    finishes in
    let place = and_parts (is_rom entry.kind) (entry.pc == ROM_EXIT) both.0 in
    let rom : step_kind (log_at device play events) ≡ Rom =
    sym (entry-kind device play events) ∙ rom_kind entry.kind place.0 in
    let after = call-progress device play events rom
    (not_refused entry.reset (is_rom entry.kind && (entry.pc == ROM_EXIT)) finishes) in
    let Holds : Type 0 = call_length (start_of device) (events ∷ play) ≤ 0 in
    subst (OnCall (λ regs words. Holds)) (sym after.is)
    (return-no_call Holds after.regs after.words after.word (after.returns finishes))

call_after-holds : (Holds : Type 0) (regs words : List ℕ) (word : ℕ) → Holds
    → OnCall (λ regs words. Holds) (call_after regs words word)
call_after-holds Holds regs words word holds = by_test (is_return (call_item words))
  where
    by_test : (test : Bool)
        → OnCall (λ regs words. Holds)
        (if test then after_return regs word else InCall regs (words ++ word ∷ []))
    by_test true = tt
    by_test false = holds

-- with one step more
length-began : (device : Device) (later earlier : Play) (events : List Event)
    → BeganAfter device later earlier
    → step_kind (log_at device (later ++ earlier) events) ≡ Rom
    → call_length (start_of device) (events ∷ later ++ earlier) ≤ suc (length later)
length-began device later earlier events began rom =
    elim (later_or_first device (later ++ earlier) events rom) [
      | inl first ↦ omega (arith, first)
      | inr more ↦
          (let so_far : call_length (start_of device) (later ++ earlier) ≤ length later =
          subst
          (OnCall
          (λ regs words. call_length (start_of device) (later ++ earlier) ≤ length later))
          more.progress began in
          let count = more.count in
          omega (arith, so_far, count))
    ]

began_after : (device : Device) (later earlier : Play)
    → BeganAfter device [] earlier → BeganAfter device later earlier
unfolding logs_after next_record
began_after device [] earlier none = none
began_after device (events ∷ later) earlier none =
    let play : Play = later ++ earlier in
    let Holds : Type 0 = call_length (start_of device) (events ∷ play) ≤ length (events ∷ later) in
    record_of-on_call (λ regs words. Holds) (start_of device) (log_at device play events)
    (asks_reset events)
    (λ unrefused rom.
    let after = call-progress device play events rom
    (ap (λ (rule : Option Rule). is_some rule) unrefused) in
    subst (OnCall (λ regs words. Holds)) (sym after.is)
    (call_after-holds Holds after.regs after.words after.word
    (length-began device later earlier events (began_after device later earlier none) rom)))

call-began : (device : Device) (later earlier : Play)
    → ends_finished (trace (start_of device) earlier) ≡ true
    → 1 ≤ length later
    → ends_in_call (trace (start_of device) (later ++ earlier)) ≡ true
    → call_length (start_of device) (later ++ earlier) ≤ length later
unfolding trace
call-began device [] earlier finishes some in_call = absurd (omega (arith, some))
call-began device (events ∷ later) earlier finishes some in_call =
    let play : Play = later ++ earlier in
    let rom : step_kind (log_at device play events) ≡ Rom =
    sym (entry-kind device play events) ∙ rom_kind (entry_at device play events).kind in_call in
    length-began device later earlier events
    (began_after device later earlier (finished-no_call device earlier finishes)) rom

-- a report tells the counter of a request that its call attests
report-attests : (device : Device) (play : Play) (report : ReportFields)
    → Reports (start_of device) play report → Attests (start_of device) play report.count
report-attests device play report reports =
    let covers = (outcome_at device play reports.in_call).covers in
    let whole = covers.whole reports.finished in
    let written : mac_written (last_call (trace (start_of device) play)) ≡ _ =
    sym (append-nil (mac_written (last_call (trace (start_of device) play))))
    ∙ (ap (λ (later : List ℕ). mac_written (last_call (trace (start_of device) play)) ++ later)
    (sym whole)
    ∙ covers.words) in
    record {
      in_call = reports.in_call;
      unrefused = reports.refused;
      decision =
          ap (λ (words : List ℕ). slice_get words 0) written
          ∙ (sym (covers.told reports.finished)
          ∙ reports.attests);
      request = sym reports.count;
    }

pub report-new : (flag : SeenHistory → Bool) (digest : Digest) (key : Bytes) (image : Contents)
    (play : Play) (report : ReportFields)
    → IsDeviceKey key → IsOfBytes image
    → last_report (with_key flag digest key image) play ≡ Some report
    → TellsNewCounter (with_key flag digest key image) report play
report-new flag digest key image play report device_key bytes is later earlier older parts some
    is_older =
    let device : Device = device_of flag digest key image device_key bytes in
    let whole : last_report (start_of device) (later ++ earlier) ≡ Some report =
    ap (last_report (start_of device)) (sym parts) ∙ is in
    let reports = last_report-finishes (start_of device) earlier older is_older in
    let reports_later = last_report-finishes (start_of device) (later ++ earlier) report whole in
    counters-grow device later earlier older.count report.count
    (report-attests device earlier older reports)
    (report-attests device (later ++ earlier) report reports_later)
    (call-began device later earlier reports.finished some reports_later.in_call)
