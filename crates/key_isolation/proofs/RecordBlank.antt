-- The record of a step without the key is the real one, blanked.
use Rattle.std.proofs.{Common.{◌≡◌, ℕ, Bool, List, ◌++◌, length, Option, Some, None, refl, ap, sym, ◌∙◌, subst, false, IfSome, map}, lemmas.Bool.{cond-false, or_from}}
use Rattle.device_types.specs.{declared.{access.Access.{Access, TheVariants.{Fetch, Read, Write}}, kind.Kind.Kind, rule.Rule.Rule, signals.Signals.Signals}, Access.{without_number, IsFormed}, Map.{touches, stack_region, some_touches, key_region}, ExecFlag.last_pc}
use Rattle.part_definitions.specs.{Dma.dma_access, FirstRule.first_rule, Memory.{byte_at, with_access, memory_read}}
use Rattle.device_trace.{specs.{Blank.{touches_secrets, blank_access, blank_value, blank_record, SameOutside}, Logs.{Logs, step_progress, vector_of, released_words_after, flags_of}, Progress.{Progress, last_registers, next_pc_of, access_of, next_progress}, Signals.{value_read, step_kind, proposed_access, signals_at, signals_of}, Start.Start, Step.{dma_value_read, record_from, record_of}}, proofs.FormedAccess.access_of-formed}
use Rattle.key_isolation.proofs.{Bytes.{zero_either, hide_write, keyless, byte_at-hide, with_access-hide}, Hiding.{open_start, hide_progress, hide, last_registers-hide, step_kind-hide, step_progress-hide, flags_of-hide}, SameRule.{SameSignals, first_rule-same}, SignalShape.signals_of-hide, OneStep.{KeepsSecrets, SameStep, step_same}, Numbers.number_at-outside}
use Rattle.trace_facts.proofs.{BreaksNoRule.{BreaksNoRule, first_rule-none}, Sound.{IsSound, progress_within-right}, BlankRecords.last_pc-blank}
use Rattle.word_arith.specs.declared.size.Size.TheVariants.{Word}

-- What the DMA reads in a step that is not refused: no secret, so the same without the key.

-- an access of the DMA that breaks neither K4 nor K5
pub record SameDma (left right : ℕ → ℕ) (access : Option Access) : Type 0 where
  pub same : blank_access access ≡ access
  pub value : blank_value access (memory_read right access) ≡ memory_read left access
  pub kept : blank_value access (memory_read right access) ≡ memory_read right access

reads_same : (left right : ℕ → ℕ) (access : Access)
    → blank_access (Some access) ≡ Some access → touches_secrets access ≡ false
    → memory_read left (Some access) ≡ memory_read right (Some access)
    → SameDma left right (Some access)
reads_same left right access same off answer =
    let keeps = cond-false (touches_secrets access) 0 (memory_read right (Some access)) off in
    record { same = same; value = keeps ∙ sym answer; kept = keeps }

pub dma_same : (left right : ℕ → ℕ) → SameOutside left right → (access : Option Access)
    → some_touches access key_region ≡ false → some_touches access stack_region ≡ false
    → SameDma left right access
dma_same left right same None key stack = record { same = refl; value = refl; kept = refl }
dma_same left right same (Some (Fetch place)) key stack =
    let off = or_from (touches (Fetch place) key_region)
    (touches (Fetch place) stack_region) key stack in
    reads_same left right (Fetch place) refl off (number_at-outside left right same place Word off)
dma_same left right same (Some (Read place size)) key stack =
    let off = or_from (touches (Read place size) key_region)
    (touches (Read place size) stack_region) key stack in
    reads_same left right (Read place size) refl off
    (number_at-outside left right same place size off)
dma_same left right same (Some (Write place size number)) key stack =
    record {
      same =
          ap (λ (n : ℕ). Some (Write place size n))
          (cond-false (touches (Write place size number) stack_region) 0 number stack);
      value = zero_either (touches_secrets (Write place size number));
      kept = zero_either (touches_secrets (Write place size number));
    }

-- memory with the processor's write of the step
pub written-outside : (start : Start) (free : List ℕ) (logs : Logs) (real view : Option Access)
    → IfSome real IsFormed → blank_access real ≡ view
    → SameOutside
    (byte_at (keyless start.power) (flags_of (open_start free start) (hide logs))
    (with_access view (map hide_write logs.memory)))
    (byte_at start.power (flags_of start logs) (with_access real logs.memory))
written-outside start free logs real view is_formed same place off =
    let writes = (λ i. with_access (sym same i) (map hide_write logs.memory))
    ∙ with_access-hide real logs.memory is_formed in
    (λ i. byte_at (keyless start.power) (flags_of-hide start free logs i) (writes i) place)
    ∙ byte_at-hide start.power (flags_of start logs) (with_access real logs.memory) place off

-- accesses and values of two records
pub record SameNumbers (now view : Signals) (read read' dma_read dma_read' : ℕ) : Type 0 where
  pub cpu : blank_access now.cpu ≡ view.cpu
  pub value : blank_value now.cpu read ≡ read'
  pub dma : blank_access now.dma ≡ view.dma
  pub dma_value : blank_value now.dma dma_read ≡ dma_read'
  pub dma_kept : blank_value now.dma dma_read ≡ dma_read

without_number-blank : (access : Option Access)
    → blank_access (without_number access) ≡ without_number access
without_number-blank None = refl
without_number-blank (Some (Fetch place)) = refl
without_number-blank (Some (Read place size)) = refl
without_number-blank (Some (Write place size number)) =
    ap (λ (n : ℕ). Some (Write place size n))
    (zero_either (touches (Write place size 0) stack_region))

pub blank_value-zero : (access : Option Access) → blank_value access 0 ≡ 0
blank_value-zero None = refl
blank_value-zero (Some access) = zero_either (touches_secrets access)

record_from-blank : (rule : Option Rule) (regs regs' : List ℕ) (now view : Signals)
    (value value' dma_value dma_value' : ℕ)
    → regs' ≡ regs
    → SameSignals view now
    → (rule ≡ None → SameNumbers now view value value' dma_value dma_value')
    → record_from regs' view rule value' dma_value'
    ≡ blank_record (record_from regs now rule value dma_value)
record_from-blank None regs regs' now view value value' dma_value dma_value' registers same
    numbers =
    let open_numbers = numbers refl in
    λ i. record {
      kind = same.kind i;
      pc = same.pc i;
      regs = registers i;
      cpu = sym open_numbers.cpu i;
      value = sym open_numbers.value i;
      dma = sym open_numbers.dma i;
      dma_value = sym open_numbers.dma_value i;
      irq = same.irq i;
      reset = None;
    }
record_from-blank
    (Some rule) regs regs' now view value value' dma_value dma_value' registers same numbers =
    λ i. record {
      kind = same.kind i;
      pc = same.pc i;
      regs = registers i;
      cpu = (same.shape ∙ sym (without_number-blank now.cpu)) i;
      value = sym (blank_value-zero (without_number now.cpu)) i;
      dma = (ap without_number same.dma ∙ sym (without_number-blank now.dma)) i;
      dma_value = sym (blank_value-zero (without_number now.dma)) i;
      irq = same.irq i;
      reset = Some rule;
    }

-- the proposed access without the key
proposed-hide : (start : Start) (free : List ℕ) (logs : Logs)
    → proposed_access (open_start free start) (hide logs) (step_kind (hide logs))
    ≡ access_of (open_start free start) (length logs.released_words) (step_kind logs)
    (hide_progress (step_progress logs (step_kind logs)))
proposed-hide start free logs =
    λ i. access_of (open_start free start) (length logs.released_words) (step_kind-hide logs i)
    (step_progress-hide logs (step_kind-hide logs i) i)

-- all that a step which is not refused has in common with that without the key
pub record SameWithoutRule (start : Start) (free : List ℕ) (logs : Logs)
    (reset : Bool) : Type 0 where
  pub numbers :
      SameNumbers (signals_of start logs reset)
      (signals_of (open_start free start) (hide logs) reset)
      (value_read start logs (proposed_access start logs (step_kind logs)))
      (value_read (open_start free start) (hide logs)
      (proposed_access (open_start free start) (hide logs) (step_kind (hide logs))))
      (dma_value_read start logs (signals_of start logs reset))
      (dma_value_read (open_start free start) (hide logs)
      (signals_of (open_start free start) (hide logs) reset))
  pub next :
      next_progress (step_kind logs) (hide_progress (step_progress logs (step_kind logs)))
      (blank_access (proposed_access start logs (step_kind logs)))
      (blank_value (proposed_access start logs (step_kind logs))
      (value_read start logs (proposed_access start logs (step_kind logs))))
      ≡ hide_progress
      (next_progress (step_kind logs) (step_progress logs (step_kind logs))
      (proposed_access start logs (step_kind logs))
      (value_read start logs (proposed_access start logs (step_kind logs))))

pub unrefused_same : (start : Start) (free more : List ℕ) (logs : Logs) (reset : Bool)
    → IsSound logs.progress (last_pc logs.records)
    → first_rule (last_pc logs.records) (signals_of start logs reset) ≡ None
    → free ≡ released_words_after None (step_kind logs)
    (proposed_access start logs (step_kind logs)) logs.released_words ++ more
    → SameWithoutRule start free logs reset
unfolding signals_at
unrefused_same start free more logs reset sound none split =
    let now : Signals = signals_of start logs reset in
    let breaks_none : BreaksNoRule (last_pc logs.records) now =
    first_rule-none (last_pc logs.records) now none in
    let kind : Kind = step_kind logs in
    let progress : Progress = step_progress logs kind in
    let real : Option Access = proposed_access start logs kind in
    let view : Option Access =
    proposed_access (open_start free start) (hide logs) (step_kind (hide logs)) in
    let keeps : KeepsSecrets real (next_pc_of progress) =
    record { k1 = breaks_none.key.k1; k2 = breaks_none.key.k2; a4 = breaks_none.atomicity.a4 } in
    let step : SameStep start free logs kind progress real view =
    subst (λ (access : Option Access). SameStep start free logs kind progress real access)
    (sym (proposed-hide start free logs))
    (step_same start free more logs kind progress
    (progress_within-right logs.progress (vector_of logs)
    (last_pc logs.records) sound breaks_none.atomicity.a2) keeps split) in
    let dma =
    dma_same _ _
    (written-outside start free logs real view
    (access_of-formed start (length logs.released_words) kind progress) step.access)
    (dma_access logs.peripherals.dma) breaks_none.key.k4 breaks_none.key.k5 in
    record {
      numbers =
          record {
            cpu = step.access;
            value = step.value;
            dma = dma.same;
            dma_value = dma.value;
            dma_kept = dma.kept;
          };
      next =
          (λ i. next_progress kind (hide_progress progress) (step.access i) (step.value i))
          ∙ step.next;
    }

-- the values are those of the signals' accesses
numbers_at : (start : Start) (free : List ℕ) (logs : Logs) (reset : Bool)
    → SameWithoutRule start free logs reset
    → SameNumbers (signals_of start logs reset)
    (signals_of (open_start free start) (hide logs) reset)
    (value_read start logs (signals_of start logs reset).cpu)
    (value_read (open_start free start) (hide logs)
    (signals_of (open_start free start) (hide logs) reset).cpu)
    (dma_value_read start logs (signals_of start logs reset))
    (dma_value_read (open_start free start) (hide logs)
    (signals_of (open_start free start) (hide logs) reset))
unfolding signals_at
numbers_at start free logs reset same = same.numbers

-- the record of the next step
pub record_of-hide : (start : Start) (free more : List ℕ) (logs : Logs) (reset : Bool)
    (rule : Option Rule)
    → IsSound logs.progress (last_pc logs.records)
    → first_rule (last_pc logs.records) (signals_of start logs reset) ≡ rule
    → (rule ≡ None → SameWithoutRule start free logs reset)
    → record_of (open_start free start) (hide logs) reset
    ≡ blank_record (record_of start logs reset)
unfolding record_of
record_of-hide start free more logs reset rule sound is_rule is_same =
    let now : Signals = signals_of start logs reset in
    let view : Signals = signals_of (open_start free start) (hide logs) reset in
    let same : SameSignals view now = signals_of-hide start free logs reset in
    let seen_rule : first_rule (last_pc (hide logs).records) view ≡ rule =
    ap (λ (last : Option ℕ). first_rule last view) (last_pc-blank logs.records)
    ∙ (first_rule-same (last_pc logs.records) view now same ∙ is_rule) in
    ap
    (λ (r : Option Rule). record_from (last_registers (hide logs).progress) view r
    (value_read (open_start free start) (hide logs) view.cpu)
    (dma_value_read (open_start free start) (hide logs) view))
    seen_rule
    ∙ (record_from-blank rule (last_registers logs.progress)
    (last_registers (hide logs).progress) now view
    (value_read start logs now.cpu) (value_read (open_start free start) (hide logs) view.cpu)
    (dma_value_read start logs now) (dma_value_read (open_start free start) (hide logs) view)
    (last_registers-hide logs.progress) same
    (λ none. numbers_at start free logs reset (is_same none))
    ∙ ap
    (λ (r : Option Rule). blank_record
    (record_from (last_registers logs.progress) now r (value_read start logs now.cpu)
    (dma_value_read start logs now)))
    (sym is_rule))
