-- A call so far: what is attested has stood since its first step, the counter is kept, and the
-- words of the call are the planned ones.
use Rattle.std.{proofs.{Common.{◌≡◌, ℕ, suc, ◌+◌, ◌<◌, ◌≤◌, true, false, List, [], ◌∷◌, ◌++◌, drop, Option, Some, None, length, refl, ap, sym, ◌∙◌, arith, subst}, lemmas.List.length_push}, specs.Prelude.if◌then◌else◌}
use Rattle.device_types.specs.{declared.{access.Access.Access, bounds.Bounds.Bounds, bus_record.BusRecord.BusRecord, event.Event.Event, kind.Kind.{Kind, TheVariants.Rom}, rule.Rule.Rule}}
use Rattle.part_definitions.specs.{Attestation.{CallItem, ReturnRead, bounds_read, call_item, is_return, item_access, word_passed}, CpuRegister.sp_of, Memory.{MemoryWrite, byte_at, is_flag_word, with_access}, Request.ATTESTS}
use Rattle.device_trace.specs.{Trace.{Play, byte_after, logs_after, trace}, Logs.{Logs, flags_of, released_words_after, with_events, with_released_word}, Progress.call_access, Signals.value_read, Start.Start, Step.next_record}
use Rattle.mac_coverage.{specs.{AttestedBytes.{AttestedBytes, without_flag_words}, Coverage.{begins_call, last_call, mac_written, attested_after, call_length, kept_after}}, proofs.{AttestedIs.attested_bytes_in-is, CallItems.{goes_on-attests, is_last, not_last}, Device.{Device, start_of, start_of-bytes, byte_after-byte}, ExecKept.IsRomStep, KeptStored.{kept-alike, kept-early, kept-late}, MacStored.{MacStands, mac-alike}, Passes.{Passes, item-passes, kept_at, mac_count, words_written}, WordPlan.{ArePlanned, IsAttested, IsCounter, Plan, call_item-planned, first_mac_words, planned-more, planned_counter, planned_decision, planned_item, planned_region, planned_tag}, Steps.{IsCallStep, bytes-after}, Words.AreBytes}}
use Rattle.trace_facts.proofs.CallPlaces.{IsItemAt, item_after-at}

-- the logs after the events of a step, its record, and the records of its call before it
abbrev pub log_at : Device → Play → List Event → Logs
log_at device play events = with_events (logs_after (start_of device) play) events

abbrev pub entry_at : Device → Play → List Event → BusRecord
entry_at device play events =
    next_record (start_of device) (logs_after (start_of device) play) events

abbrev pub earlier_records : Device → Play → List Event → List BusRecord
earlier_records device play events =
    if begins_call (entry_at device play events) then []
    else last_call (trace (start_of device) play)

-- the word that passed in the step
abbrev pub word_in : Device → Play → List Event → ℕ
word_in device play events =
    word_passed (entry_at device play events).cpu (entry_at device play events).value

-- this holds after each of the last steps of a play, so many
abbrev pub AfterLast : Play → ℕ → (Play → Type 0) → Type 0
AfterLast play count holds =
    (later earlier : Play) → play ≡ later ++ earlier → length later < count → holds earlier

-- with one step more, before it and after it
pub before-last : (Holds : Play → Type 0) (events : List Event) (play : Play) (count : ℕ)
    → AfterLast play count Holds
    → (later earlier : Play) → events ∷ play ≡ later ++ earlier → length later < suc count
    → 1 ≤ length later → Holds earlier
before-last Holds events play count held [] earlier parts within some =
    absurd (omega (arith, some))
before-last Holds events play count held (last ∷ later) earlier parts within some =
    held later earlier (ap (drop 1) parts) (omega (arith, within))

after-last : (Holds : Play → Type 0) (events : List Event) (play : Play) (count : ℕ)
    → AfterLast play count Holds → Holds (events ∷ play)
    → AfterLast (events ∷ play) (suc count) Holds
after-last Holds events play count held now [] earlier parts within = subst Holds parts now
after-last Holds events play count held now (last ∷ later) earlier parts within =
    before-last Holds events play count held (last ∷ later) earlier parts within (omega arith)

-- what stood in memory since before these records of a call
pub record HasStood (plan : Plan) (play : Play) (call : List BusRecord) : Type 0 where
  pub before :
      without_flag_words (attested_after (start_of plan.device) (drop (length call) play))
      ≡ without_flag_words plan.contents
  pub kept_before : kept_after (start_of plan.device) (drop (length call) play) ≡ plan.kept
  pub kept_is : IsCounter plan.kept
  pub throughout : AfterLast play (length call) (λ moment.
      attested_after (start_of plan.device) moment ≡ plan.contents)
  pub counter : AfterLast play (length call) (λ moment.
      kept_after (start_of plan.device) moment
      ≡ kept_at plan (call_length (start_of plan.device) moment))
  pub now : kept_after (start_of plan.device) play ≡ kept_at plan (length call)

pub record CallSoFar (plan : Plan) (play : Play) (call : List BusRecord) (words : List ℕ)
    : Type 0 where
  pub stood : HasStood plan play call
  pub planned : ArePlanned plan words
  pub fits : length words ≤ 125 + planned_region plan
  -- after the decision only a call that attests has gone on
  pub attests : 78 ≤ length words → planned_decision plan ≡ ATTESTS
  pub written : mac_written call ≡ words_written plan (length words)
  pub stored : AreBytes (planned_tag plan)
      → MacStands (byte_after (start_of plan.device) play) (planned_tag plan)
      (mac_count plan (length words))

-- before its first step
pub call-begins : (plan : Plan) (play : Play)
    → IsCounter plan.kept → kept_after (start_of plan.device) play ≡ plan.kept
    → without_flag_words (attested_after (start_of plan.device) play)
    ≡ without_flag_words plan.contents
    → CallSoFar plan play [] []
call-begins plan play is same alike =
    let none : 0 ≡ mac_count plan 0 = omega arith in
    record {
      stood = record {
        before = alike;
        kept_before = same;
        kept_is = is;
        throughout = λ later earlier parts within. absurd (omega (arith, within));
        counter = λ later earlier parts within. absurd (omega (arith, within));
        now = same;
      };
      planned = λ i within. absurd (omega (arith, within));
      fits = omega arith;
      attests = λ later. absurd (omega (arith, later));
      written = ap (first_mac_words plan) none;
      stored = λ small i within. absurd (omega (arith, within));
    }

-- after one step more
stood-more : (plan : Plan) (play : Play) (events : List Event)
    → HasStood plan play (earlier_records plan.device play events)
    → attested_after (start_of plan.device) (events ∷ play) ≡ plan.contents
    → kept_after (start_of plan.device) (events ∷ play)
    ≡ kept_at plan (suc (length (earlier_records plan.device play events)))
    → HasStood plan (events ∷ play)
    (entry_at plan.device play events ∷ earlier_records plan.device play events)
unfolding trace
stood-more plan play events stood stands counts =
    record {
      before = stood.before;
      kept_before = stood.kept_before;
      kept_is = stood.kept_is;
      throughout = after-last _ events play _ stood.throughout stands;
      counter = after-last _ events play _ stood.counter counts;
      now = counts;
    }

-- what a step adds to the words of the MAC
released-rom : (rule : Option Rule) (kind : Kind) (access : Option Access) (words : List ℕ)
    → rule ≡ None → kind ≡ Rom
    → released_words_after rule kind access words ≡ with_released_word access words
released-rom rule kind access words none rom =
    λ i. released_words_after (none i) (rom i) access words

-- a step of a call that was not refused, from memory to memory
pub record CallGoes (plan : Plan) (play : Play) (events : List Event) (regs words : List ℕ)
    : Type 0 where
  pub step :
      IsCallStep (start_of plan.device) (log_at plan.device play events) regs words
      (entry_at plan.device play events)
  pub so_far : CallSoFar plan play (earlier_records plan.device play events) words
  pub made : length (earlier_records plan.device play events) ≡ length words
  -- what is attested stands before the step, if it is not the first, and after it
  pub stands : 1 ≤ length words → attested_after (start_of plan.device) play ≡ plan.contents
  pub after : attested_after (start_of plan.device) (events ∷ play) ≡ plan.contents

-- its access, and the number that it carries
abbrev access_in : Device → Play → List Event → List ℕ → List ℕ → Access
access_in device play events regs words =
    call_access (start_of device) (length (log_at device play events).released_words) regs words

abbrev value_in : Device → Play → List Event → List ℕ → List ℕ → ℕ
value_in device play events regs words =
    value_read (start_of device) (log_at device play events)
    (Some (access_in device play events regs words))

-- what is attested in the memory after a play is of bytes
pub attested-is : (device : Device) (play : Play) (contents : AttestedBytes)
    → attested_after (start_of device) play ≡ contents → IsAttested contents
attested-is device play contents stands =
    subst IsAttested stands
    (attested_bytes_in-is (byte_after (start_of device) play)
    (λ place. byte_after-byte (start_of device) play place (start_of-bytes device)))

-- what a step of the ROM leaves
after_step-bytes : (device : Device) (play : Play) (events : List Event) (access : Option Access)
    → IsRomStep (entry_at device play events) → (entry_at device play events).cpu ≡ access
    → (p : ℕ) → is_flag_word p ≡ false
    → byte_after (start_of device) (events ∷ play) p
    ≡ byte_at (start_of device).power (flags_of (start_of device) (log_at device play events))
    (with_access access (log_at device play events).memory) p
unfolding logs_after
after_step-bytes device play events access step same p off_flags =
    bytes-after (start_of device) (log_at device play events) (entry_at device play events) step p
    off_flags
    ∙ ap (λ (access : Option Access).
    byte_at (start_of device).power (flags_of (start_of device) (log_at device play events))
    (with_access access (log_at device play events).memory) p) same

item-at : (plan : Plan) (words : List ℕ) → ArePlanned plan words
    → IsItemAt (planned_region plan) (planned_decision plan) (length words) (call_item words)
item-at plan words by_plan =
    subst (IsItemAt (planned_region plan) (planned_decision plan) (length words))
    (sym (call_item-planned plan words by_plan))
    (item_after-at (planned_region plan) (planned_decision plan) (length words))

-- the kept counter before the step
kept-now : (plan : Plan) (play : Play) (events : List Event) (regs words : List ℕ)
    → CallGoes plan play events regs words
    → kept_after (start_of plan.device) play ≡ kept_at plan (length words)
kept-now plan play events regs words goes =
    goes.so_far.stood.now ∙ ap (kept_at plan) goes.made

step-passes : (plan : Plan) (play : Play) (events : List Event) (regs words : List ℕ)
    → CallGoes plan play events regs words → is_return (call_item words) ≡ false
    → Passes plan (length words) (call_item words)
    (access_in plan.device play events regs words) (value_in plan.device play events regs words)
unfolding with_events
step-passes plan play events regs words goes goes_on =
    item-passes plan (log_at plan.device play events) words (sp_of regs) (call_item words)
    (item-at plan words goes.so_far.planned) goes_on
    (record {
      planned = goes.so_far.planned;
      is = attested-is plan.device (events ∷ play) plan.contents goes.after;
      kept_is = goes.so_far.stood.kept_is;
      stands = goes.stands;
      counter = λ early.
          kept-now plan play events regs words goes
          ∙ kept-early plan.kept (planned_counter plan) (length words) early;
    })

-- one that does not return
pub call-goes_on : (plan : Plan) (play : Play) (events : List Event) (regs words : List ℕ)
    → CallGoes plan play events regs words → is_return (call_item words) ≡ false
    → CallSoFar plan (events ∷ play)
    (entry_at plan.device play events ∷ earlier_records plan.device play events)
    (words ++ word_in plan.device play events ∷ [])
unfolding with_events
call-goes_on plan play events regs words goes goes_on =
    let so_far = goes.so_far in
    let made = goes.made in
    let step = goes.step in
    let start : Start = start_of plan.device in
    let entry : BusRecord = entry_at plan.device play events in
    let call : List BusRecord = earlier_records plan.device play events in
    let logs : Logs = log_at plan.device play events in
    let decision : ℕ = planned_decision plan in
    let word : ℕ = word_in plan.device play events in
    let passes = step-passes plan play events regs words goes goes_on in
    let size : length words + 1 ≡ length (words ++ word ∷ []) = sym (length_push words word) in
    let item = item-at plan words so_far.planned in
    let below : length words < 125 + planned_region plan =
    not_last (planned_region plan) decision (length words) (call_item words) item goes_on in
    let after = after_step-bytes plan.device play events
    (Some (access_in plan.device play events regs words)) step.rom step.cpu in
    record {
      stood =
          stood-more plan play events so_far.stood goes.after
          (kept-alike (byte_after start (events ∷ play)) _ after
          ∙ (passes.counter start.power (flags_of start logs) logs.memory
          (kept-now plan play events regs words goes)
          ∙ ap (kept_at plan)
          (let same : length words + 1 ≡ suc (length call) = omega (arith, made) in same)));
      planned =
          planned-more plan words word so_far.planned
          ((λ j. word_passed (step.cpu j) (step.value j))
          ∙ (passes.word
          ∙ ap (planned_item plan) (call_item-planned plan words so_far.planned)));
      fits = omega (arith, size, below);
      attests = λ past.
          goes_on-attests (planned_region plan) decision (length words) (call_item words) item
          goes_on (omega (arith, size, past));
      written =
          released-rom entry.reset entry.kind entry.cpu (mac_written call) step.rom.none
          step.rom.kind
          ∙ (ap (λ (access : Option Access). with_released_word access (mac_written call)) step.cpu
          ∙ (passes.released (mac_written call) so_far.written
          ∙ ap (words_written plan) size));
      stored = λ small.
          subst
          (λ (n : ℕ).
          MacStands (byte_after start (events ∷ play)) (planned_tag plan) (mac_count plan n)) size
          (mac-alike (byte_after start (events ∷ play)) _ (planned_tag plan)
          (mac_count plan (length words + 1)) (omega (arith, below)) after
          (passes.stored start.power (flags_of start logs) logs.memory small
          (so_far.stored small)));
    }

-- at the return the decision is written, and all words of the MAC where the call attests
pub return-is_last : (plan : Plan) (play : Play) (words : List ℕ) (call : List BusRecord)
    → CallSoFar plan play call words
    → is_return (call_item words) ≡ true
    → (77 ≤ length words)
    × ((planned_decision plan ≡ ATTESTS) → mac_count plan (length words) ≡ 16)
return-is_last plan play words call so_far returns =
    let last = is_last (planned_region plan) (planned_decision plan) (length words)
    (call_item words) (item-at plan words so_far.planned) returns in (
      last.0,
      λ decided.
          let fits = so_far.fits in
          let past = last.1 decided in
          omega (arith, fits, past),
    )

-- the return
return-leaves : (sp : ℕ) (bounds : Bounds) (item : CallItem) (number : ℕ)
    → is_return item ≡ true
    → ((words : List ℕ)
    → with_released_word (Some (item_access sp bounds item number)) words ≡ words)
    × ((writes : List MemoryWrite)
    → with_access (Some (item_access sp bounds item number)) writes ≡ writes)
return-leaves sp bounds ReturnRead number returns = (λ words. refl, λ writes. refl)
return-leaves sp bounds item number returns = absurd (cc)

pub call-returns : (plan : Plan) (play : Play) (events : List Event) (regs words : List ℕ)
    → CallGoes plan play events regs words → is_return (call_item words) ≡ true
    → CallSoFar plan (events ∷ play)
    (entry_at plan.device play events ∷ earlier_records plan.device play events) words
unfolding with_events
call-returns plan play events regs words goes returns =
    let so_far = goes.so_far in
    let fits = so_far.fits in
    let made = goes.made in
    let step = goes.step in
    let start : Start = start_of plan.device in
    let entry : BusRecord = entry_at plan.device play events in
    let call : List BusRecord = earlier_records plan.device play events in
    let logs : Logs = log_at plan.device play events in
    let late = kept-late plan.kept (planned_counter plan) in
    let past = (return-is_last plan play words call so_far returns).0 in
    let leaves = return-leaves (sp_of regs) (bounds_read words) (call_item words)
    (start.call_word (length logs.released_words) (call_item words) words) returns in
    let same_bytes : (p : ℕ) → is_flag_word p ≡ false
    → byte_after start (events ∷ play) p ≡ byte_after start play p =
    (λ p off_flags.
    after_step-bytes plan.device play events
    (Some (access_in plan.device play events regs words)) step.rom step.cpu p off_flags
    ∙ ap (λ (writes : List MemoryWrite). byte_at start.power (flags_of start logs) writes p)
    (leaves.1 logs.memory)) in
    record {
      stood =
          stood-more plan play events so_far.stood goes.after
          (kept-alike (byte_after start (events ∷ play)) (byte_after start play) same_bytes
          ∙ (so_far.stood.now
          ∙ (late (length call) (omega (arith, past, made))
          ∙ sym (late (suc (length call)) (omega (arith, past, made))))));
      planned = so_far.planned;
      fits = so_far.fits;
      attests = so_far.attests;
      written =
          released-rom entry.reset entry.kind entry.cpu (mac_written call) step.rom.none
          step.rom.kind
          ∙ (ap (λ (access : Option Access). with_released_word access (mac_written call)) step.cpu
          ∙ (leaves.0 (mac_written call) ∙ so_far.written));
      stored = λ small.
          mac-alike (byte_after start (events ∷ play)) (byte_after start play) (planned_tag plan)
          (mac_count plan (length words)) (omega (arith, fits)) same_bytes (so_far.stored small);
    }
