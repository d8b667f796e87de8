-- The logs after a step without the key are the real ones, hidden.
use Rattle.std.{proofs.{Common.{◌≡◌, ℕ, Bool, List, ◌∷◌, ◌++◌, Option, Some, None, map, refl, ap, ◌∙◌, [], sym, arith, append-nil, inl, inr}, lemmas.Bool.{cond-true, cond-false, cases_Bool, Decides.nat_tests}}, specs.Prelude.if◌then◌else◌}
use Rattle.device_types.specs.{declared.{access.Access.{Access, TheVariants.{Fetch, Read, Write}}, bus_record.BusRecord.BusRecord, event.Event.Event, rule.Rule.Rule, kind.Kind.{Kind, TheVariants.{Boot, Cpu, Idle, Irq, Rom}}}, ExecFlag.last_pc, Map.{lies_in, touches, stack_region, mac_region}}
use Rattle.part_definitions.specs.{FirstRule.first_rule, Serial.byte_sent}
use Rattle.device_trace.{specs.{Blank.{blank_access, blank_value, blank_record, blank_seen}, AccessesAreFormed.AccessesAreFormed, Progress.{level_after, Progress, last_registers, next_progress}, Logs.{Logs, step_progress, peripherals_after, progress_after, released_words_after, with_events, with_record, with_released_word}, Signals.{value_read, step_kind, proposed_access, signals_at, signals_of}, Start.Start, Step.{access_recorded, dma_value_read, record_from, record_of, asks_reset, next_record}, Trace.next_logs, Peripherals.{Peripherals, with_step}, Text.byte_sent_by}, proofs.FormedAccess.record_of-formed}
use Rattle.trace_facts.proofs.Sound.{IsSound}
use Rattle.key_isolation.proofs.{Hiding.{open_start, hide_progress, hide, vector_of-hide, step_progress-hide, vector_taken-hide, logged_bounds-hide, level_after-hide, decision_after-hide}, Bytes.memory_after-hide, RecordBlank.{SameWithoutRule, unrefused_same, record_of-hide}}
use Rattle.word_arith.specs.declared.size.Size.{Size}

-- What a blanked access is to the peripherals, and what it releases.

-- what a peripheral takes of a step lies outside the secrets, where the value that the DMA engine
-- takes does
pub with_step-blank : (rule : Option Rule) (acceptance : Option ℕ) (cpu dma : Option Access)
    (value value' : ℕ) (parts : Peripherals)
    → (rule ≡ None → value' ≡ value)
    → with_step rule acceptance (blank_access cpu) (blank_access dma) value' parts
    ≡ with_step rule acceptance cpu dma value parts
with_step-blank rule acceptance cpu dma value value' parts same = grind (arith, nat_tests)

with_released_word-blank : (access : Option Access) (words : List ℕ)
    → with_released_word (blank_access access) words ≡ with_released_word access words
with_released_word-blank access words = grind (arith, nat_tests)

pub released_words_after-blank : (rule : Option Rule) (kind : Kind) (access : Option Access)
    (words : List ℕ)
    → released_words_after rule kind (blank_access access) words
    ≡ released_words_after rule kind access words
released_words_after-blank rule kind access words = grind (arith, with_released_word-blank)

-- only more words are released
with_released_word-more : (access : Option Access) (words : List ℕ)
    → (more : List ℕ) × (with_released_word access words ≡ words ++ more)
with_released_word-more None words = ([], sym (append-nil words))
with_released_word-more (Some (Fetch place)) words = ([], sym (append-nil words))
with_released_word-more (Some (Read place size)) words = ([], sym (append-nil words))
with_released_word-more (Some (Write place size number)) words =
    elim (cases_Bool (lies_in mac_region place)) [
      | inl within ↦
          (number ∷ [], cond-true (lies_in mac_region place) (words ++ number ∷ []) words within)
      | inr outside ↦ (
        [],
        cond-false (lies_in mac_region place) (words ++ number ∷ []) words outside
            ∙ sym (append-nil words),
      )
    ]

pub released_words_after-more : (rule : Option Rule) (kind : Kind) (access : Option Access)
    (words : List ℕ)
    → (more : List ℕ) × (released_words_after rule kind access words ≡ words ++ more)
released_words_after-more None Boot access words = ([], sym (append-nil words))
released_words_after-more None Cpu access words = ([], sym (append-nil words))
released_words_after-more None Idle access words = ([], sym (append-nil words))
released_words_after-more None Irq access words = ([], sym (append-nil words))
released_words_after-more None Rom access words = with_released_word-more access words
released_words_after-more (Some rule) kind access words = ([], sym (append-nil words))

-- the byte that a step sends
byte_sent-blank : (place : ℕ) (size : Size) (number : ℕ)
    → byte_sent place size (if touches (Read place size) stack_region then 0 else number)
    ≡ byte_sent place size number
byte_sent-blank place size number = grind (arith, nat_tests)

pub byte_sent_by-blank : (rule : Option Rule) (access : Option Access)
    → byte_sent_by rule (blank_access access) ≡ byte_sent_by rule access
byte_sent_by-blank rule access = grind (arith, byte_sent-blank)

-- what the logs need of a record
pub record FollowsBlank (logs : Logs) (entry : BusRecord) : Type 0 where
  pub dma_kept : entry.reset ≡ None → blank_value entry.dma entry.dma_value ≡ entry.dma_value
  pub progress :
      progress_after entry.reset entry.kind (step_progress (hide logs) entry.kind)
      (blank_access entry.cpu)
      (blank_value entry.cpu entry.value)
      ≡ hide_progress
      (progress_after entry.reset entry.kind
      (step_progress logs entry.kind) entry.cpu entry.value)

peripherals-hide : (logs : Logs) (entry : BusRecord)
    → (entry.reset ≡ None → blank_value entry.dma entry.dma_value ≡ entry.dma_value)
    → peripherals_after (hide logs) (blank_record entry) ≡ peripherals_after logs entry
peripherals-hide logs entry dma_kept =
    λ i. with_step-blank entry.reset
    (vector_taken-hide logs.progress entry.kind (vector_of-hide logs i) i) entry.cpu entry.dma
    entry.dma_value (blank_value entry.dma entry.dma_value) logs.peripherals dma_kept i

with_record-blank : (start : Start) (free : List ℕ) (logs : Logs) (entry : BusRecord)
    → AccessesAreFormed entry → FollowsBlank logs entry
    → with_record (open_start free start) (hide logs) (blank_record entry)
    ≡ hide (with_record start logs entry)
unfolding with_record
with_record-blank start free logs entry forms follows =
    λ i. record {
      progress = follows.progress i;
      memory =
          memory_after-hide entry.reset entry.cpu entry.dma logs.memory forms.cpu forms.dma i;
      peripherals = peripherals-hide logs entry follows.dma_kept i;
      records =
          record { entry = blank_record entry; bounds = logged_bounds-hide start free logs i }
          ∷ map blank_seen logs.records;
      released_words =
          released_words_after-blank entry.reset entry.kind entry.cpu logs.released_words i;
      decision = decision_after-hide logs entry i;
      level =
          (ap (λ (after : Progress). level_after (hide_progress logs.progress) after logs.level)
          follows.progress
          ∙ level_after-hide logs.progress _ logs.level) i;
    }

-- the record of a step has it
follows_at : (start : Start) (free : List ℕ) (logs : Logs) (reset : Bool) (rule : Option Rule)
    → (rule ≡ None → SameWithoutRule start free logs reset)
    → FollowsBlank logs
    (record_from (last_registers logs.progress) (signals_of start logs reset) rule
    (value_read start logs (signals_of start logs reset).cpu)
    (dma_value_read start logs (signals_of start logs reset)))
unfolding signals_at
follows_at start free logs reset None is_same =
    let same : SameWithoutRule start free logs reset = is_same refl in
    let real : Option Access = proposed_access start logs (step_kind logs) in
    record {
      dma_kept = λ none. same.numbers.dma_kept;
      progress =
          ap
          (λ (progress : Progress). next_progress (step_kind logs) progress (blank_access real)
          (blank_value real (value_read start logs real)))
          (step_progress-hide logs (step_kind logs))
          ∙ same.next;
    }
follows_at start free logs reset (Some rule) is_same =
    record { dma_kept = λ none. absurd (cc); progress = refl }

follows_record : (start : Start) (free : List ℕ) (logs : Logs) (reset : Bool)
    → (first_rule (last_pc logs.records) (signals_of start logs reset) ≡ None
    → SameWithoutRule start free logs reset)
    → FollowsBlank logs (record_of start logs reset)
unfolding record_of
follows_record start free logs reset is_same =
    follows_at start free logs reset
    (first_rule (last_pc logs.records) (signals_of start logs reset)) is_same

-- a step that is not refused releases what its proposed access carries
split_unrefused : (start : Start) (free more : List ℕ) (logs : Logs) (reset : Bool)
    → free
    ≡ released_words_after (record_of start logs reset).reset (record_of start logs reset).kind
    (record_of start logs reset).cpu logs.released_words ++ more
    → first_rule (last_pc logs.records) (signals_of start logs reset) ≡ None
    → free ≡ released_words_after None (step_kind logs)
    (proposed_access start logs (step_kind logs)) logs.released_words ++ more
unfolding record_of signals_at
split_unrefused start free more logs reset split none =
    split
    ∙ ap
    (λ (rule : Option Rule). released_words_after rule (step_kind logs)
    (access_recorded rule (proposed_access start logs (step_kind logs))) logs.released_words
    ++ more)
    none

-- record and logs of a step
pub record StepHides (start : Start) (free : List ℕ) (logs : Logs)
    (events : List Event) : Type 0 where
  pub entry : next_record (open_start free start) (hide logs) events
      ≡ blank_record (next_record start logs events)
  pub after : next_logs (open_start free start) (hide logs) events
      ≡ hide (next_logs start logs events)

step_hides_after_events : (start : Start) (free more : List ℕ) (logs : Logs) (reset : Bool)
    → IsSound logs.progress (last_pc logs.records)
    → free
    ≡ released_words_after (record_of start logs reset).reset (record_of start logs reset).kind
    (record_of start logs reset).cpu logs.released_words ++ more
    → (record_of (open_start free start) (hide logs) reset
    ≡ blank_record (record_of start logs reset))
    × (with_record (open_start free start) (hide logs) (blank_record (record_of start logs reset))
    ≡ hide (with_record start logs (record_of start logs reset)))
step_hides_after_events start free more logs reset sound split =
    let is_same : first_rule (last_pc logs.records) (signals_of start logs reset) ≡ None
    → SameWithoutRule start free logs reset =
    λ none. unrefused_same start free more logs reset sound none
    (split_unrefused start free more logs reset split none) in (
      record_of-hide start free more logs reset
          (first_rule (last_pc logs.records) (signals_of start logs reset)) sound refl
          is_same,
      with_record-blank start free logs (record_of start logs reset)
          (record_of-formed start logs reset)
          (follows_record start free logs reset is_same),
    )

pub step_hides : (start : Start) (free more : List ℕ) (logs : Logs) (events : List Event)
    → IsSound logs.progress (last_pc logs.records)
    → free ≡ (next_logs start logs events).released_words ++ more
    → StepHides start free logs events
unfolding next_record with_record with_events
step_hides start free more logs events sound split =
    let after : Logs = with_events logs events in
    let both =
    step_hides_after_events start free more after (asks_reset events) sound split in
    record {
      entry = both.0;
      after = ap (with_record (open_start free start) (hide after)) both.0 ∙ both.1;
    }
