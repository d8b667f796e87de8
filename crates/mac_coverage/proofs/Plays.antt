-- In every play the MAC covers the last call.
use Rattle.std.{proofs.{Common.{◌≡◌, ℕ, ◌<◌, Bool, true, false, List, [], ◌∷◌, inl, inr, Option, Some, None, length, refl, ap, sym, ◌∙◌, arith, ◌+◌, ◌≤◌, ◌++◌, subst}, lemmas.{Bool.{and_parts, cases_Bool, and_from, and_right, cases_lt, cond-false, cond-true, lt-ltb}, List.length_push}}, specs.Prelude.{◌==◌, ◌&&◌, is_none, is_some, IsTrue, nat_lt, if◌then◌else◌}}
use Rattle.device_types.specs.{declared.{bus_record.BusRecord.BusRecord, kind.Kind.{Kind, TheVariants.{Boot, Cpu, Idle, Irq, Rom}}, rule.Rule.Rule, access.Access.Access, event.Event.Event}, Kind.is_rom, Map.{ROM_EXIT, ROM_ENTRY}, Report.ReportFields, ExecFlag.SeenHistory, Address.{Bytes, Contents}}
use Rattle.part_definitions.{specs.{Metadata.{counter_bytes, little_endian}, Region.mac_bytes, Request.ATTESTS, Hmac.Digest, Attestation.{CallItem, KeptWrite, bounds_read, call_item, decision_read, is_return, item_access, region_words}, CpuRegister.sp_of}, proofs.CallItems.{first_pc, item_after}}
use Rattle.device_trace.specs.{Trace.{Play, byte_after, logs_after, trace}, Logs.{Logs, progress_after, step_progress, vector_of, with_events, with_record, call_decision, finishes_call}, Signals.{step_kind, signals_at}, Start.{Start, with_key}, Step.{next_record, record_of, asks_reset}, Text.{last_decision, last_report}, Progress.{Progress, InCall, after_return}}
use Rattle.mac_coverage.{specs.{AttestedBytes.{tag_of, AttestedBytes}, Coverage.{ends_finished, ends_in_call, ends_refused, last_call, Gives32Bytes, IsDeviceKey, IsOfBytes, MacCoversCall, MacCoversReport, attested_after, begins_call, mac_written, kept_after}}, proofs.{Covers.{decision_after-finishes, covers_refused, covers_so_far}, Device.{Device, start_of}, Calls.{entry_at, log_at, CallGoes, CallSoFar, call-goes_on, call-returns, earlier_records, return-is_last, word_in}, PlaySteps.{CallGoesOn, PlayStands, entry-kind, IsTurnOfCall, LastWroteHighWord, WritesHighWord, all_earlier, after_step-alike, after_step-same, entry-pc, entry-step, first_step, last-in_rom, later_step, none_earlier, plan_of}, Steps.{OnCall, other_step-no_call, IsCallStep, IsOfCall, progress-call_step, rom_step-of_call}, Words.are_bytes, CallItems.{exit_returns, high_word_item, only_first_enters}, Passes.{decision_words, mac_count, words_written}, WordPlan.{ArePlanned, Plan, call_item-planned, decision_read-planned, first_mac_words, planned_decision, planned_region}}}
use Rattle.trace_facts.proofs.{LastReport.last_report-made, ExecFlag.none_there}

-- What a step of the ROM leads to.

-- the MAC covers the call, and if it goes on, it is one so far
pub record Outcome (device : Device) (play : Play) : Type 0 where
  pub covers : MacCoversCall device.digest device.key (start_of device) play
  pub next : PlayStands device play
  -- the first word that the call writes to the MAC is the decision
  pub timed : ends_refused (trace (start_of device) play) ≡ false
      → 1 ≤ length (mac_written (last_call (trace (start_of device) play)))
      → 77 ≤ length (last_call (trace (start_of device) play))

-- after a step of a call, and so after one that goes on, one that returns and one that is refused
step-next : (device : Device) (play : Play) (events : List Event)
    (regs words : List ℕ) (next : Progress)
    → IsTurnOfCall device play events regs words
    → IsCallStep (start_of device) (log_at device play events) regs words
    (entry_at device play events)
    → (if is_return (call_item words) then after_return regs (word_in device play events)
    else InCall regs (words ++ word_in device play events ∷ []))
    ≡ next
    → OnCall (λ regs words. CallGoesOn device (events ∷ play) words) next
    → PlayStands device (events ∷ play)
unfolding logs_after
step-next device play events regs words next turn step is stands =
    subst (OnCall (λ regs words. CallGoesOn device (events ∷ play) words))
    (sym (progress-call_step (start_of device) (log_at device play events) regs words
    (entry_at device play events) step turn.kind turn.progress
    ∙ is))
    stands

goes_on-next : (device : Device) (play : Play) (events : List Event)
    (regs words : List ℕ)
    → IsTurnOfCall device play events regs words
    → IsCallStep (start_of device) (log_at device play events) regs words
    (entry_at device play events)
    → is_return (call_item words) ≡ false
    → CallGoesOn device (events ∷ play) (words ++ word_in device play events ∷ [])
    → PlayStands device (events ∷ play)
goes_on-next device play events regs words turn step goes_on call =
    let next : Progress = InCall regs (words ++ word_in device play events ∷ []) in
    step-next device play events regs words next turn step
    (cond-false (is_return (call_item words)) (after_return regs (word_in device play events)) next
    goes_on)
    call

returns-next : (device : Device) (play : Play) (events : List Event)
    (regs words : List ℕ)
    → IsTurnOfCall device play events regs words
    → IsCallStep (start_of device) (log_at device play events) regs words
    (entry_at device play events)
    → is_return (call_item words) ≡ true
    → PlayStands device (events ∷ play)
returns-next device play events regs words turn step returns =
    let next : Progress = after_return regs (word_in device play events) in
    step-next device play events regs words next turn step
    (cond-true (is_return (call_item words)) next _ returns) tt

refused-next : (device : Device) (play : Play) (events : List Event)
    → is_some (entry_at device play events).reset ≡ true → PlayStands device (events ∷ play)
unfolding logs_after with_record
refused-next device play events refuses =
    holds (entry_at device play events).reset refuses
  where
    holds : (rule : Option Rule) → is_some rule ≡ true
        → OnCall (λ regs words. CallGoesOn device (events ∷ play) words)
        (progress_after rule (entry_at device play events).kind
        (step_progress (log_at device play events) (entry_at device play events).kind)
        (entry_at device play events).cpu (entry_at device play events).value)
    holds None refuses = absurd (cc)
    holds (Some rule) refuses = tt

-- the step that writes the high word of the kept counter
high_item : (plan : Plan) (words : List ℕ) → ArePlanned plan words → length words ≡ 74
    → call_item words ≡ KeptWrite 1
high_item plan words by_plan count =
    call_item-planned plan words by_plan
    ∙ (ap (item_after (planned_region plan) (planned_decision plan)) count
    ∙ high_word_item (planned_region plan) (planned_decision plan))

wrote_high : (plan : Plan) (play : Play) (events : List Event) (regs words : List ℕ)
    → CallGoes plan play events regs words → length words ≡ 74
    → LastWroteHighWord (trace (start_of plan.device) (events ∷ play))
unfolding trace
wrote_high plan play events regs words goes count = (
  goes.step.rom.none,
  subst WritesHighWord
      (sym (goes.step.cpu
      ∙ ap (λ (i : CallItem). Some (item_access (sp_of regs) (bounds_read words) i
      ((start_of plan.device).call_word
      (length (log_at plan.device play events).released_words) (call_item words) words)))
      (high_item plan words goes.so_far.planned count))) refl,
)

-- before the decision no word is written to the MAC
written-late : (plan : Plan) (index : ℕ) (words : List ℕ)
    → words ≡ words_written plan index → 1 ≤ length words → 77 ≤ index
written-late plan index words is some =
    elim (cases_lt index 77) [
      | inl early ↦
          let none : mac_count plan index ≡ 0 = omega (arith, early) in
          let decision : decision_words plan index ≡ [] =
          cond-true (nat_lt index 77) [] _ (lt-ltb index 77 early) in
          let empty : length words ≡ 0 =
          ap (λ (list : List ℕ). length list) is
          ∙ (λ j. length (decision j ++ first_mac_words plan (none j))) in
          absurd (omega (arith, some, empty))
      | inr past ↦ past
    ]

-- the decision that a finished call tells
told-returns : (device : Device) (play : Play) (events : List Event)
    (regs words : List ℕ)
    → IsTurnOfCall device play events regs words
    → finishes_call (entry_at device play events) ≡ true
    → last_decision (start_of device) (events ∷ play) ≡ Some (decision_read words)
unfolding logs_after with_record
told-returns device play events regs words turn finishes =
    let entry : BusRecord = entry_at device play events in
    let logs : Logs = log_at device play events in
    cond-true (finishes_call entry) (call_decision (step_progress logs entry.kind)) None finishes
    ∙ ap call_decision (ap (step_progress logs) (entry-kind device play events) ∙ turn.progress)

-- a step that was not refused
unrefused_outcome : (plan : Plan) (play : Play) (events : List Event) (regs words : List ℕ)
    → IsTurnOfCall plan.device play events regs words
    → CallGoes plan play events regs words
    → Outcome plan.device (events ∷ play)
unfolding trace
unrefused_outcome plan play events regs words turn goes =
    let device : Device = plan.device in
    let entry : BusRecord = entry_at device play events in
    let call : List BusRecord = earlier_records device play events in
    let so_far = goes.so_far in
    let made = goes.made in
    let exit : finishes_call entry ≡ true → is_return (call_item words) ≡ true =
    λ finishes.
    let parts = and_parts (is_rom entry.kind && (entry.pc == ROM_EXIT)) (is_none entry.reset)
    finishes in
    let place = and_parts (is_rom entry.kind) (entry.pc == ROM_EXIT) parts.0 in
    exit_returns (call_item words)
    (ap (λ (pc : ℕ). pc == ROM_EXIT) (sym (entry-pc device play events regs words turn)) ∙ place.1)
    in
    elim (cases_Bool (is_return (call_item words))) [
      | inl returns ↦
          let last = return-is_last plan play words call so_far returns in
          record {
            covers =
                covers_so_far plan (events ∷ play) words
                (call-returns plan play events regs words goes returns)
                (λ finishes. last)
                (λ finishes.
                told-returns device play events regs words turn finishes
                ∙ ap (λ (decision : ℕ). Some decision)
                (decision_read-planned plan words so_far.planned last.0));
            next = returns-next device play events regs words turn goes.step returns;
            timed = λ unrefused some.
                (let past = last.0 in omega (arith, past, made));
          }
      | inr goes_on ↦
          let passed : List ℕ = words ++ word_in device play events ∷ [] in
          let more : CallSoFar plan (events ∷ play) (entry ∷ call) passed =
          call-goes_on plan play events regs words goes goes_on in
          let size : length passed ≡ length words + 1 =
          length_push words (word_in device play events) in
          record {
            covers =
                covers_so_far plan (events ∷ play) passed more
                (λ finishes. absurd (no_return (exit finishes) goes_on))
                (λ finishes. absurd (no_return (exit finishes) goes_on));
            next =
                goes_on-next device play events regs words turn goes.step goes_on
                (record {
                  contents = plan.contents;
                  kept = plan.kept;
                  so_far = more;
                  made = omega (arith, made, size);
                  high = λ count.
                      wrote_high plan play events regs words goes (omega (arith, count, size));
                  begun = omega (arith, size);
                  last = last-in_rom device play events goes.step.rom;
                });
            timed = λ unrefused some.
                (let past = written-late plan (length passed) (mac_written (entry ∷ call))
                more.written some in
                omega (arith, past, made, size));
          }
    ]
  where
    no_return : is_return (call_item words) ≡ true → is_return (call_item words) ≡ false → ⊥
    no_return returns goes_on = let wrong : true ≡ false = sym returns ∙ goes_on in cc

refused_outcome : (plan : Plan) (play : Play) (events : List Event) (words : List ℕ)
    → is_some (entry_at plan.device play events).reset ≡ true
    → CallSoFar plan play (earlier_records plan.device play events) words
    → Outcome plan.device (events ∷ play)
unfolding trace
refused_outcome plan play events words refuses so_far =
    record {
      covers = covers_refused plan play events words refuses so_far;
      next = refused-next plan.device play events refuses;
      timed = λ unrefused some.
          (let wrong : true ≡ false = sym refuses ∙ unrefused in absurd (cc));
    }

-- the first step of a call, and a later one
first_outcome : (device : Device) (play : Play) (events : List Event) (regs : List ℕ)
    → IsTurnOfCall device play events regs []
    → Outcome device (events ∷ play)
first_outcome device play events regs turn =
    let entry : BusRecord = entry_at device play events in
    let kept : List ℕ = kept_after (start_of device) play in
    let begins : begins_call entry ≡ true =
    and_from (is_rom entry.kind) (entry.pc == ROM_ENTRY)
    (ap is_rom (entry-kind device play events ∙ turn.kind))
    (ap (λ (pc : ℕ). pc == ROM_ENTRY) (entry-pc device play events regs [] turn ∙ first_pc)) in
    elim (cases_Bool (is_some entry.reset)) [
      | inl refuses ↦
          let before : AttestedBytes = attested_after (start_of device) play in
          refused_outcome (plan_of device before kept) play events [] refuses
          (first_step device play events before begins refl)
      | inr no_reset ↦
          let step = entry-step device play events regs [] turn (none_there entry.reset no_reset) in
          let after : AttestedBytes = attested_after (start_of device) (events ∷ play) in
          unrefused_outcome (plan_of device after kept) play events regs [] turn (record {
            step = step;
            so_far =
                first_step device play events after begins
                (after_step-alike device play events step.rom);
            made =
                ap (λ (call : List BusRecord). length call)
                (none_earlier device play events begins);
            stands = λ later. absurd (omega (arith, later));
            after = refl;
          })
    ]

later_outcome : (device : Device) (play : Play) (events : List Event) (regs words : List ℕ)
    → IsTurnOfCall device play events regs words
    → CallGoesOn device play words
    → Outcome device (events ∷ play)
later_outcome device play events regs words turn call =
    let plan : Plan = plan_of device call.contents call.kept in
    let entry : BusRecord = entry_at device play events in
    let apart : (entry.pc == ROM_ENTRY) ≡ false =
    ap (λ (pc : ℕ). pc == ROM_ENTRY) (entry-pc device play events regs words turn)
    ∙ only_first_enters (region_words (bounds_read words)) (decision_read words) (length words)
    call.begun in
    let goes_on : begins_call entry ≡ false =
    and_right (is_rom entry.kind) (entry.pc == ROM_ENTRY) apart in
    let so_far = later_step plan play events words goes_on call.so_far in
    elim (cases_Bool (is_some entry.reset)) [
      | inl refuses ↦ refused_outcome plan play events words refuses so_far
      | inr no_reset ↦
          let step = entry-step device play events regs words turn
          (none_there entry.reset no_reset) in
          let begun = call.begun in
          let made = call.made in
          let stands : attested_after (start_of device) play ≡ call.contents =
          call.so_far.stood.throughout [] play refl (omega (arith, begun, made)) in
          unrefused_outcome plan play events regs words turn (record {
            step = step;
            so_far = so_far;
            made =
                ap (λ (call : List BusRecord). length call)
                (all_earlier device play events goes_on)
                ∙ made;
            stands = λ later. stands;
            after = after_step-same device play events step.rom apart call.last ∙ stands;
          })
    ]

-- a step of the ROM
pub rom_outcome : (device : Device) (play : Play) (events : List Event)
    → step_kind (log_at device play events) ≡ Rom → PlayStands device play
    → Outcome device (events ∷ play)
unfolding with_events
rom_outcome device play events kind stands =
    let logs : Logs = log_at device play events in
    let call : IsOfCall logs.progress (step_progress logs (step_kind logs)) =
    rom_step-of_call logs.progress (vector_of logs) kind in
    elim call.from [
      | inl goes_on ↦
          later_outcome device play events call.regs call.words
          (record { kind = kind; progress = call.is })
          (subst (OnCall (λ regs words. CallGoesOn device play words)) goes_on stands)
      | inr begins ↦
          first_outcome device play events call.regs
          (record { kind = kind; progress = call.is ∙ ap (InCall call.regs) begins })
    ]

pub rom_kind : (kind : Kind) → is_rom kind ≡ true → kind ≡ Rom
rom_kind Rom rom = refl
rom_kind Boot rom = absurd (cc)
rom_kind Cpu rom = absurd (cc)
rom_kind Idle rom = absurd (cc)
rom_kind Irq rom = absurd (cc)

-- what holds in a call holds after each step, where it does after those of the ROM that are not
-- refused
unless_refused : (Holds : List ℕ → List ℕ → Type 0) (rule : Option Rule) (kind : Kind)
    (progress : Progress) (access : Option Access) (value : ℕ)
    → (rule ≡ None → OnCall Holds (progress_after rule kind progress access value))
    → OnCall Holds (progress_after rule kind progress access value)
unless_refused Holds None kind progress access value holds = holds refl
unless_refused Holds (Some rule) kind progress access value holds = tt

pub record_of-on_call : (Holds : List ℕ → List ℕ → Type 0) (start : Start) (logs : Logs)
    (reset : Bool)
    → ((record_of start logs reset).reset ≡ None → step_kind logs ≡ Rom
    → OnCall Holds (with_record start logs (record_of start logs reset)).progress)
    → OnCall Holds (with_record start logs (record_of start logs reset)).progress
unfolding with_record record_of signals_at
record_of-on_call Holds start logs reset holds =
    elim (cases_Bool (is_rom (step_kind logs))) [
      | inl rom ↦
          unless_refused Holds _ (step_kind logs) _ _ _
          (λ none. holds none (rom_kind (step_kind logs) rom))
      | inr other ↦ other_step-no_call Holds logs.progress (vector_of logs) _ _ _ other
    ]

pub play_stands : (device : Device) (play : Play) → PlayStands device play
unfolding logs_after next_record
play_stands device [] = tt
play_stands device (events ∷ play) =
    record_of-on_call (λ regs words. CallGoesOn device (events ∷ play) words) (start_of device)
    (log_at device play events) (asks_reset events)
    (λ none rom. (rom_outcome device play events rom (play_stands device play)).next)

pub outcome_at : (device : Device) (play : Play)
    → ends_in_call (trace (start_of device) play) ≡ true → Outcome device play
unfolding trace
outcome_at device [] in_call = absurd (cc)
outcome_at device (events ∷ play) in_call =
    let rom : step_kind (log_at device play events) ≡ Rom =
    sym (entry-kind device play events) ∙ rom_kind (entry_at device play events).kind in_call in
    rom_outcome device play events rom (play_stands device play)

-- the law
pub mac_covers_call : (flag : SeenHistory → Bool) (digest : Digest) (key : Bytes)
    (image : Contents) (play : Play)
    → IsDeviceKey key → IsOfBytes image
    → IsTrue (ends_in_call (trace (with_key flag digest key image) play))
    → MacCoversCall digest key (with_key flag digest key image) play
mac_covers_call flag digest key image play device_key bytes in_call =
    (outcome_at
    (record {
      flag = flag;
      digest = digest;
      key = key;
      image = image;
      key_size = device_key.size;
      key_bytes = are_bytes key device_key.bytes;
      image_bytes = bytes;
    }) play in_call).covers

pub call_begun : (history : List BusRecord) → ends_in_call history ≡ true
    → 0 < length (last_call history)
call_begun [] in_call = absurd (cc)
call_begun (entry ∷ history) in_call = omega arith

-- where the last step makes a report, it finishes a call that attests, and the report tells what is
-- in memory
pub record Reports (start : Start) (play : Play) (report : ReportFields) : Type 0 where
  pub in_call : ends_in_call (trace start play) ≡ true
  pub refused : ends_refused (trace start play) ≡ false
  pub finished : ends_finished (trace start play) ≡ true
  pub attests : last_decision start play ≡ Some ATTESTS
  pub count : report.count ≡ little_endian (counter_bytes (byte_after start play))
  pub mac : report.mac ≡ mac_bytes (byte_after start play)

pub some_same : {first second : ℕ} → Some first ≡ Some second → first ≡ second
some_same same = cc

some_or_none : (rule : Option Rule) → is_none rule ≡ true → is_some rule ≡ false
some_or_none None none = refl
some_or_none (Some rule) none = absurd (cc)

pub last_report-finishes : (start : Start) (play : Play) (report : ReportFields)
    → last_report start play ≡ Some report → Reports start play report
unfolding trace logs_after with_record
last_report-finishes start [] report is = absurd (cc)
last_report-finishes start (events ∷ play) report is =
    let logs : Logs = with_events (logs_after start play) events in
    let entry : BusRecord = next_record start (logs_after start play) events in
    let made = last_report-made start (events ∷ play) report is in
    let finishes = (decision_after-finishes (step_progress logs entry.kind) entry ATTESTS
    made.attests).0 in
    let parts = and_parts (is_rom entry.kind && (entry.pc == ROM_EXIT)) (is_none entry.reset)
    finishes in
    record {
      in_call = (and_parts (is_rom entry.kind) (entry.pc == ROM_EXIT) parts.0).0;
      refused = some_or_none entry.reset parts.1;
      finished = finishes;
      attests = made.attests;
      count = ap (λ (reports : ReportFields). reports.count) (sym made.same);
      mac = ap (λ (reports : ReportFields). reports.mac) (sym made.same);
    }

pub reported_mac-is_tag : (flag : SeenHistory → Bool) (digest : Digest) (key : Bytes)
    (image : Contents) (play : Play) (report : ReportFields)
    → IsDeviceKey key → IsOfBytes image → Gives32Bytes digest
    → last_report (with_key flag digest key image) play ≡ Some report
    → report.mac ≡ tag_of digest key (attested_after (with_key flag digest key image) play)
reported_mac-is_tag flag digest key image play report device_key bytes gives is =
    let start : Start = with_key flag digest key image in
    let reports : Reports start play report = last_report-finishes start play report is in
    let covers : MacCoversCall digest key start play =
    mac_covers_call flag digest key image play device_key bytes reports.in_call in
    let stands : attested_after start play ≡ covers.contents =
    covers.throughout [] play refl (call_begun (trace start play) reports.in_call)
    (λ refuses. (let wrong : true ≡ false = sym refuses ∙ reports.refused in absurd (cc))) in
    reports.mac
    ∙ (covers.stored reports.finished
    (some_same (sym (covers.told reports.finished) ∙ reports.attests)) gives
    ∙ ap (tag_of digest key) (sym stands))

pub report-covered : (flag : SeenHistory → Bool) (digest : Digest) (key : Bytes) (image : Contents)
    (play : Play) (report : ReportFields)
    → IsDeviceKey key → IsOfBytes image
    → last_report (with_key flag digest key image) play ≡ Some report
    → MacCoversReport digest key (with_key flag digest key image) report play
report-covered flag digest key image play report device_key bytes is =
    let start : Start = with_key flag digest key image in
    let reports : Reports start play report = last_report-finishes start play report is in (
      mac_covers_call flag digest key image play device_key bytes reports.in_call,
      λ gives. reported_mac-is_tag flag digest key image play report device_key bytes gives is,
    )
