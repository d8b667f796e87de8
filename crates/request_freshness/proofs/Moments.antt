-- The bytes of the kept counter at the moments of a call, and so what a step does to them.
use Rattle.std.{proofs.{Common.{◌≡◌, ℕ, suc, ◌+◌, ◌-◌, ◌<◌, ◌≤◌, Bool, true, false, not, List, [], ◌∷◌, ◌++◌, take, drop, ◌⊎◌, inl, inr, length, refl, ap, sym, ◌∙◌, arith, subst, ◌*◌, ◌/◌, Option, Some, None}, lemmas.Bool.{and_from, cases_Bool, cases_lt, cond-false, cond-true, eqb-true, leb-false, Decides.nat_tests}}, specs.{Str.bytes_eq, Prelude.{◌==◌, is_some, nat_le, IsTrue, if◌then◌else◌, ◌&&◌, ◌||◌}}}
use Rattle.device_types.specs.{declared.{bus_record.BusRecord.BusRecord, event.Event.Event, kind.Kind.{Kind, TheVariants.Rom}, access.Access.{Access, TheVariants.{Fetch, Read, Write}}, rule.Rule.Rule, signals.Signals.Signals}, Kind.is_rom, Map.{ROM_ENTRY, lies_in, some_touches, stack_region}, Address.Bytes, ExecFlag.last_pc}
use Rattle.part_definitions.{specs.{Metadata.{counter_in, little_endian, token_in, kept_bytes}, Request.{ATTESTS, request_decision, right_token}, Hmac.Digest, CpuState.cpu_pc, FirstRule.first_rule, Memory.{MemoryWrite, first_byte, last_written, takes_write, with_access}, MonitorRule.in_rom}, proofs.CallItems.first_pc}
use Rattle.device_trace.specs.{Trace.{Play, logs_after, trace}, Logs.{Logs, step_progress, vector_of, with_events, logged_byte, memory_after, with_record}, Progress.{InCall, Progress, Held, Runs, access_of, last_registers, next_pc_of}, Signals.{step_kind, signals_at, signals_of, value_read}, Step.{asks_reset, next_record, dma_value_read, record_from, record_of}, Start.Start}
use Rattle.trace_facts.proofs.{SoundPlay.{logs_after-sound, LogsAreSound, within_unrefused}, BreaksNoRule.{BreaksNoRule, first_rule-none}, ExecFlag.first_false, BoundsStay.{MissesPlace, last_written-missed}, Sound.IsWithin}
use Rattle.mac_coverage.{specs.{AttestedBytes.{AttestedBytes, counter_left, decision_of}, Coverage.{begins_call, ends_in_call, ends_refused, last_call, MacCoversCall, attested_after, before_call, call_length, kept_after, kept_within}}, proofs.{Calls.{attested-is, entry_at, log_at}, Device.{Device, start_of}, KeptStored.{kept-early, kept-late, kept-same, takes}, Plays.{outcome_at, play_stands, rom_kind, call_begun}, PlaySteps.{CallGoesOn, LastWroteHighWord, entry-kind, entry-pc, kept-is, plan_of}, Steps.{IsOfCall, OnCall, rom_step-of_call}, WordPlan.{IsCounter, planned_counter-is}}}
use Rattle.word_arith.specs.declared.size.Size.TheVariants.{Byte, Word}

-- A step that is none of a call, or is refused, leaves the kept counter.

-- an access that does not touch the stack
byte_elsewhere : (place i : ℕ) → i < 4 → (lies_in stack_region place || false) ≡ false
    → (place == 0x4060 + i) ≡ false
byte_elsewhere place i within off = grind (arith, nat_tests)

low_elsewhere : (place i : ℕ) → i < 4
    → (lies_in stack_region place || (lies_in stack_region (place + 1) || false)) ≡ false
    → (place / 2 * 2 == 0x4060 + i) ≡ false
low_elsewhere place i within off = grind (arith, nat_tests)

high_elsewhere : (place i : ℕ) → i < 4
    → (lies_in stack_region place || (lies_in stack_region (place + 1) || false)) ≡ false
    → (place / 2 * 2 + 1 == 0x4060 + i) ≡ false
high_elsewhere place i within off = grind (arith, nat_tests)

stack-missed : (access : Option Access) (i : ℕ) → i < 4 → some_touches access stack_region ≡ false
    → MissesPlace access (0x4060 + i)
stack-missed None i within off = tt
stack-missed (Some (Fetch place)) i within off = tt
stack-missed (Some (Read place size)) i within off = tt
stack-missed (Some (Write place Byte number)) i within off = byte_elsewhere place i within off
stack-missed (Some (Write place Word number)) i within off =
    (low_elsewhere place i within off, high_elsewhere place i within off)

-- one of the processor's code outside the ROM, or of a boot
code-missed : (start : Start) (releases : ℕ) (kind : Kind) (progress : Progress) (i : ℕ) → i < 4
    → IsWithin kind progress → is_rom kind ≡ false
    → (some_touches (access_of start releases kind progress) stack_region
    && not (in_rom (next_pc_of progress))) ≡ false
    → MissesPlace (access_of start releases kind progress) (0x4060 + i)
code-missed start releases kind Held i within fits other right = tt
code-missed start releases kind (Runs cpu) i within fits other right =
    stack-missed (access_of start releases kind (Runs cpu)) i within
    (first_false (some_touches (access_of start releases kind (Runs cpu)) stack_region)
    (in_rom (cpu_pc cpu)) right fits)
code-missed start releases kind (InCall regs words) i within fits other right =
    let wrong : true ≡ false = sym (ap is_rom fits) ∙ other in
    absurd (cc)

-- the writes of such a step
abbrev LeavesKept : BusRecord → Type 0
LeavesKept entry =
    (writes : List MemoryWrite) (i before : ℕ) → i < 4
    → last_written (memory_after entry.reset entry.cpu entry.dma writes) (0x4060 + i) before
    ≡ last_written writes (0x4060 + i) before

from-leaves : (start : Start) (logs : Logs) (reset : Bool) (rule : Option Rule)
    → LogsAreSound logs → is_rom (step_kind logs) ≡ false
    → first_rule (last_pc logs.records) (signals_of start logs reset) ≡ rule
    → LeavesKept
    (record_from (last_registers logs.progress) (signals_of start logs reset) rule
    (value_read start logs (signals_of start logs reset).cpu)
    (dma_value_read start logs (signals_of start logs reset)))
unfolding signals_at
from-leaves start logs reset (Some rule) sound other is writes i before within = refl
from-leaves start logs reset None sound other is writes i before within =
    let now : Signals = signals_of start logs reset in
    let breaks_none : BreaksNoRule (last_pc logs.records) now =
    first_rule-none (last_pc logs.records) now is in
    let fits : IsWithin (step_kind logs) (step_progress logs (step_kind logs)) =
    within_unrefused start logs reset sound is in
    last_written-missed now.dma (with_access now.cpu writes) (0x4060 + i) before
    (stack-missed now.dma i within breaks_none.key.k5)
    ∙ last_written-missed now.cpu writes (0x4060 + i) before
    (code-missed start _ (step_kind logs) (step_progress logs (step_kind logs)) i within fits other
    breaks_none.key.k2)

record_of-leaves : (start : Start) (logs : Logs) (reset : Bool)
    → LogsAreSound logs → is_rom (step_kind logs) ≡ false
    → LeavesKept (record_of start logs reset)
unfolding record_of
record_of-leaves start logs reset sound other =
    from-leaves start logs reset (first_rule (last_pc logs.records) (signals_of start logs reset))
    sound other refl

refused-leaves : (entry : BusRecord) (rule : Option Rule) → is_some rule ≡ true
    → LeavesKept (record entry { reset = rule })
refused-leaves entry None refuses writes i before within = absurd (cc)
refused-leaves entry (Some rule) refuses writes i before within = refl

-- so the kept counter stays
kept-left : (start : Start) (logs : Logs) (entry : BusRecord) → LeavesKept entry
    → kept_bytes (logged_byte start (with_record start logs entry))
    ≡ kept_bytes (logged_byte start logs)
unfolding with_record
kept-left start logs entry leaves =
    kept-same (logged_byte start (with_record start logs entry)) (logged_byte start logs)
    (λ i within.
    cond-true (takes_write (0x4060 + i)) _ _ (takes i within)
    ∙ (leaves logs.memory i (first_byte start.power (0x4060 + i)) within
    ∙ sym (cond-true (takes_write (0x4060 + i)) _ _ (takes i within))))

pub other_step-leaves : (start : Start) (logs : Logs) (reset : Bool)
    → LogsAreSound logs → is_rom (step_kind logs) ≡ false
    → kept_bytes (logged_byte start (with_record start logs (record_of start logs reset)))
    ≡ kept_bytes (logged_byte start logs)
other_step-leaves start logs reset sound other =
    kept-left start logs (record_of start logs reset)
    (record_of-leaves start logs reset sound other)

pub refused_step-leaves : (start : Start) (logs : Logs) (entry : BusRecord)
    → is_some entry.reset ≡ true
    → kept_bytes (logged_byte start (with_record start logs entry))
    ≡ kept_bytes (logged_byte start logs)
refused_step-leaves start logs entry refuses =
    kept-left start logs entry (refused-leaves entry entry.reset refuses)

-- a request that is attested has a greater counter than the kept one
abbrev pub choice : Bool → Bool → ℕ
choice other old = if other then 3 else if old then 2 else 1

last_choice : (other old : Bool) → choice other old ≡ ATTESTS → old ≡ false
last_choice other old is = grind arith

pub attests-newer : (digest : Digest) (key metadata kept : List ℕ)
    → request_decision digest key metadata kept ≡ ATTESTS
    → little_endian kept < little_endian (counter_in metadata)
attests-newer digest key metadata kept attests =
    leb-false (little_endian (counter_in metadata)) (little_endian kept)
    (last_choice (not (bytes_eq (token_in metadata) (right_token digest key metadata)))
    (nat_le (little_endian (counter_in metadata)) (little_endian kept)) attests)

left-grows : (digest : Digest) (key : Bytes) (contents : AttestedBytes)
    (kept : List ℕ)
    → little_endian kept ≤ little_endian (counter_left digest key contents kept)
left-grows digest key contents kept =
    by_test (decision_of digest key contents kept == ATTESTS)
    (λ attests.
    (let newer = attests-newer digest key contents.metadata kept
    (eqb-true (decision_of digest key contents kept) ATTESTS attests) in
    omega (arith, newer)))
  where
    by_test : (test : Bool)
        → (test ≡ true → little_endian kept ≤ little_endian (counter_in contents.metadata))
        → little_endian kept
        ≤ little_endian (if test then counter_in contents.metadata else kept)
    by_test true newer = newer refl
    by_test false newer = omega arith

-- the bytes that a call leaves
abbrev pub left_by : (device : Device) (play : Play)
    → MacCoversCall device.digest device.key (start_of device) play → Bytes
left_by device play covers = counter_left device.digest device.key covers.contents covers.kept

-- a call whose last step is not refused
pub record CallMoments (device : Device) (play : Play) : Type 0 where
  pub in_call : ends_in_call (trace (start_of device) play) ≡ true
  pub covers : MacCoversCall device.digest device.key (start_of device) play
  pub stands : attested_after (start_of device) play ≡ covers.contents
  pub now :
      kept_after (start_of device) play
      ≡ kept_within covers.kept (left_by device play covers) (call_length (start_of device) play)
  pub is_kept : IsCounter covers.kept
  pub is_left : IsCounter (left_by device play covers)
  pub grows : little_endian covers.kept ≤ little_endian (left_by device play covers)

pub call-moments : (device : Device) (play : Play)
    → ends_in_call (trace (start_of device) play) ≡ true
    → ends_refused (trace (start_of device) play) ≡ false → CallMoments device play
call-moments device play in_call unrefused =
    let start = start_of device in
    let covers = (outcome_at device play in_call).covers in
    let begun : 0 < call_length start play = call_begun (trace start play) in_call in
    let goes : IsTrue (ends_refused (trace start play)) → 1 ≤ 0 =
    λ refuses. (let wrong : true ≡ false = sym refuses ∙ unrefused in absurd (cc)) in
    let stands = covers.throughout [] play refl begun goes in
    let is_kept : IsCounter covers.kept =
    subst IsCounter covers.kept_before (kept-is device (before_call start play)) in
    record {
      in_call = in_call;
      covers = covers;
      stands = stands;
      now = covers.counter [] play refl begun goes;
      is_kept = is_kept;
      is_left =
          planned_counter-is (plan_of device covers.contents covers.kept)
          (attested-is device play covers.contents stands) is_kept;
      grows = left-grows device.digest device.key covers.contents covers.kept;
    }

-- an earlier step of the call of this one
pub record IsLaterStep (device : Device) (play : Play) (events : List Event)
    : Type 0 where
  pub count :
      call_length (start_of device) (events ∷ play) ≡ call_length (start_of device) play + 1
  pub begun : 1 ≤ call_length (start_of device) play
  pub high : call_length (start_of device) play ≡ 75
      → LastWroteHighWord (trace (start_of device) play)
  pub regs : List ℕ
  pub words : List ℕ
  pub progress : (logs_after (start_of device) play).progress ≡ InCall regs words

pub later_or_first : (device : Device) (play : Play) (events : List Event)
    → step_kind (log_at device play events) ≡ Rom
    → (call_length (start_of device) (events ∷ play) ≡ 1) ⊎ IsLaterStep device play events
unfolding trace with_events
later_or_first device play events rom =
    let entry : BusRecord = entry_at device play events in
    let logs : Logs = log_at device play events in
    let call : IsOfCall logs.progress (step_progress logs (step_kind logs)) =
    rom_step-of_call logs.progress (vector_of logs) rom in
    elim (cases_Bool (begins_call entry)) [
      | inl begins ↦
          inl (ap (λ (older : List BusRecord). length (entry ∷ older))
          (cond-true (begins_call entry) [] (last_call (trace (start_of device) play)) begins))
      | inr goes_on ↦
          elim call.from [
            | inl from ↦
                let stands : CallGoesOn device play call.words =
                subst (OnCall (λ regs words. CallGoesOn device play words)) from
                (play_stands device play) in
                inr (record {
                  count =
                      ap (λ (older : List BusRecord). length (entry ∷ older))
                      (cond-false (begins_call entry) [] (last_call (trace (start_of device) play))
                      goes_on)
                      ∙ (let more : suc (length (last_call (trace (start_of device) play)))
                      ≡ length (last_call (trace (start_of device) play)) + 1 = omega arith in
                      more);
                  begun = (let begun = stands.begun in let made = stands.made in
                      omega (arith, begun, made));
                  high = λ count. stands.high (sym stands.made ∙ count);
                  regs = call.regs;
                  words = call.words;
                  progress = from;
                })
            | inr none ↦
                let first : begins_call entry ≡ true =
                and_from (is_rom entry.kind) (entry.pc == ROM_ENTRY)
                (ap is_rom (entry-kind device play events ∙ rom))
                (ap (λ (pc : ℕ). pc == ROM_ENTRY)
                (entry-pc device play events call.regs []
                (record { kind = rom; progress = call.is ∙ ap (InCall call.regs) none })
                ∙ first_pc)) in
                let wrong : true ≡ false = sym first ∙ goes_on in
                absurd (cc)
          ]
    ]

-- the kept bytes before a step of a call, and one step earlier at the second write
before_step : (device : Device) (play : Play) (events : List Event)
    → step_kind (log_at device play events) ≡ Rom
    → (call : CallMoments device (events ∷ play))
    → kept_after (start_of device) play
    ≡ kept_within call.covers.kept (left_by device (events ∷ play) call.covers)
    (call_length (start_of device) (events ∷ play) - 1)
before_step device play events rom call =
    let within : ℕ → Bytes =
    kept_within call.covers.kept (left_by device (events ∷ play) call.covers) in
    let count : ℕ = call_length (start_of device) (events ∷ play) in
    elim (later_or_first device play events rom) [
      | inl first ↦
          ap (λ (n : ℕ). kept_after (start_of device) (drop n (events ∷ play))) (sym first)
          ∙ (call.covers.kept_before
          ∙ ap within (let none : 0 ≡ count - 1 = omega (arith, first) in none))
      | inr later ↦
          (let more = later.count in
          let begun = later.begun in
          let same : call_length (start_of device) play ≡ count - 1 = omega (arith, more) in
          call.covers.counter (events ∷ []) play refl (omega (arith, more, begun))
          (λ refuses. omega arith)
          ∙ ap within same)
    ]

two_before : (device : Device) (play : Play) (events : List Event)
    (call : CallMoments device (events ∷ play))
    → call_length (start_of device) play ≡ 75
    → call_length (start_of device) (events ∷ play) ≡ 76
    → kept_after (start_of device) (drop 1 play) ≡ call.covers.kept
unfolding trace
two_before device [] events call last now = absurd (omega (arith, last))
two_before device (before ∷ play) events call last now =
    call.covers.counter (events ∷ before ∷ []) play refl (omega (arith, now))
    (λ refuses. omega arith)
    ∙ kept-early call.covers.kept (left_by device (events ∷ before ∷ play) call.covers)
    (call_length (start_of device) play)
    (earlier_less (begins_call (entry_at device play before))
    (last_call (trace (start_of device) play)) last)
  where
    earlier_less : (begins : Bool) (records : List BusRecord)
        → suc (length (if begins then [] else records)) ≡ 75 → length records < 75
    earlier_less true records last = absurd (omega (arith, last))
    earlier_less false records last = omega (arith, last)

-- a step leaves the bytes, or writes the high word of those that the call leaves, or the low one
abbrev pub Leaves : Device → Play → List Event → Type 0
Leaves device play events =
    kept_after (start_of device) (events ∷ play) ≡ kept_after (start_of device) play

pub record WritesHigh (device : Device) (play : Play) (events : List Event) (kept left : Bytes)
    : Type 0 where
  pub now : kept_after (start_of device) (events ∷ play) ≡ take 2 kept ++ drop 2 left
  pub before : kept_after (start_of device) play ≡ kept

pub record WritesLow (device : Device) (play : Play) (events : List Event) (kept left : Bytes)
    : Type 0 where
  pub now : kept_after (start_of device) (events ∷ play) ≡ left
  pub before : kept_after (start_of device) play ≡ take 2 kept ++ drop 2 left
  pub older : kept_after (start_of device) (drop 1 play) ≡ kept
  pub count : call_length (start_of device) play ≡ 75
  pub high : LastWroteHighWord (trace (start_of device) play)

-- what holds of a step, whatever it does
pub record ByCases (device : Device) (play : Play) (events : List Event) (Holds : Type 0)
    : Type 0 where
  pub leaves : Leaves device play events → Holds
  pub high : (call : CallMoments device (events ∷ play))
      → WritesHigh device play events call.covers.kept (left_by device (events ∷ play) call.covers)
      → Holds
  pub low : (call : CallMoments device (events ∷ play))
      → WritesLow device play events call.covers.kept (left_by device (events ∷ play) call.covers)
      → Holds

-- the steps of a call are those before the first write, the two writes, and those after
by_count : (Holds : Type 0) (count : ℕ)
    → (count < 75 → Holds) → (count ≡ 75 → Holds) → (count ≡ 76 → Holds) → (77 ≤ count → Holds)
    → Holds
by_count Holds count early high low late =
    elim (cases_lt count 75) [
      | inl before ↦ early before
      | inr past ↦
          elim (cases_lt count 76) [
            | inl first ↦ high (omega (arith, past, first))
            | inr beyond ↦
                elim (cases_lt count 77) [
                  | inl second ↦ low (omega (arith, beyond, second))
                  | inr after ↦ late after
                ]
          ]
    ]

call_step : (device : Device) (play : Play) (events : List Event) (Holds : Type 0)
    → ByCases device play events Holds → step_kind (log_at device play events) ≡ Rom
    → CallMoments device (events ∷ play) → Holds
call_step device play events Holds cases rom call =
    let kept : Bytes = call.covers.kept in
    let left : Bytes = left_by device (events ∷ play) call.covers in
    let count : ℕ = call_length (start_of device) (events ∷ play) in
    let before = before_step device play events rom call in
    by_count Holds count
    (λ early.
    cases.leaves
    (call.now ∙ (kept-early kept left count early
    ∙ sym (before ∙ kept-early kept left (count - 1) (omega (arith, early))))))
    (λ high.
    cases.high call (record {
      now = call.now ∙ ap (kept_within kept left) high;
      before = before ∙ ap (λ (n : ℕ). kept_within kept left (n - 1)) high;
    }))
    (λ low.
    elim (later_or_first device play events rom) [
      | inl first ↦ absurd (omega (arith, first, low))
      | inr later ↦
          let more = later.count in
          let older : call_length (start_of device) play ≡ 75 = omega (arith, more, low) in
          cases.low call (record {
            now = call.now ∙ ap (kept_within kept left) low;
            before = before ∙ ap (λ (n : ℕ). kept_within kept left (n - 1)) low;
            older = two_before device play events call older low;
            count = older;
            high = later.high older;
          })
    ])
    (λ late.
    cases.leaves
    (call.now ∙ (kept-late kept left count (omega (arith, late))
    ∙ sym (before ∙ kept-late kept left (count - 1) (omega (arith, late))))))

pub each_step : (device : Device) (play : Play) (events : List Event) (Holds : Type 0)
    → ByCases device play events Holds → Holds
unfolding logs_after trace next_record with_events
each_step device play events Holds cases =
    let logs : Logs = log_at device play events in
    elim (cases_Bool (is_some (entry_at device play events).reset)) [
      | inl refuses ↦
          cases.leaves
          (refused_step-leaves (start_of device) logs (entry_at device play events) refuses)
      | inr no_reset ↦
          elim (cases_Bool (is_rom (step_kind logs))) [
            | inl rom ↦
                call_step device play events Holds cases (rom_kind (step_kind logs) rom)
                (call-moments device (events ∷ play)
                (ap is_rom (entry-kind device play events) ∙ rom) no_reset)
            | inr other ↦
                cases.leaves
                (other_step-leaves (start_of device) logs (asks_reset events)
                (logs_after-sound (start_of device) play) other)
          ]
    ]
