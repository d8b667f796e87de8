-- The record of a step of a call, and what the step leaves.
use Rattle.std.{proofs.{Common.{◌≡◌, ℕ, Bool, true, false, not, List, [], ◌∷◌, ◌⊎◌, inl, inr, Option, Some, None, length, refl, ap, sym, ◌∙◌, arith}, lemmas.Bool.{and_from, cond-true}}, specs.Prelude.{◌==◌, ◌&&◌, is_none, is_some, map}}
use Rattle.device_types.specs.{declared.{access.Access.Access, bus_record.BusRecord.BusRecord, kind.Kind.{Kind, TheVariants.{Boot, Cpu, Idle, Irq, Rom}}, rule.Rule.Rule, signals.Signals.Signals}, Access.some_writes, Kind.is_rom, Map.ROM_ENTRY, ExecFlag.{SeenRecord, last_pc}}
use Rattle.part_definitions.specs.{Attestation.{call_item, word_passed}, CpuState.{Boundary, Executing, Entering}, FirstRule.first_rule, Memory.{MemoryWrite, ShownFlags, byte_at, is_flag_word, with_access}, MonitorRule.{in_rom, is_written_by_rom, leaves_stack_and_mac}}
use Rattle.device_trace.specs.{Blank.blank_seen, Logs.{Logs, aux_of, exec_of, flags_of, goes_on_in_call, logged_bounds, logged_byte, memory_after, progress_after, records_until_call, step_progress, with_record}, Progress.{Progress, Held, Runs, InCall, access_of, call_access, call_after, kind_of, last_registers, next_pc_of, next_progress, progress_from_boundary, progress_within}, Signals.{signals_at, signals_of, step_kind, value_read}, Start.Start, Step.{dma_value_read, record_from, record_of}}
use Rattle.trace_facts.proofs.{ExecFlag.{LogsAreValid, other_false, none_there}, NeverBroken.item_pc-in_rom, BreaksNoRule.{BreaksNoRule, first_rule-none}}
use Rattle.mac_coverage.proofs.{ExecKept.{IsRomStep, exec-rom_step}, MemoryKept.{AreAlike, byte_at-kept, byte_at-off_flags}}

-- a step of the ROM is within a call, which went on or begins
pub record IsOfCall (before within : Progress) : Type 0 where
  pub regs : List ℕ
  pub words : List ℕ
  pub is : within ≡ InCall regs words
  pub from : (before ≡ InCall regs words) ⊎ (words ≡ [])

pub rom_step-of_call : (progress : Progress) (vector : Option ℕ)
    → kind_of progress vector ≡ Rom
    → IsOfCall progress (progress_within progress (kind_of progress vector) vector)
rom_step-of_call Held vector rom = absurd (cc)
rom_step-of_call (Runs (Boundary regs)) vector rom =
    record {
      regs = regs;
      words = [];
      is = ap (λ (kind : Kind). progress_from_boundary regs kind vector) rom;
      from = inr refl;
    }
rom_step-of_call (Runs (Executing regs values)) vector rom = absurd (cc)
rom_step-of_call (Runs (Entering regs choice values)) vector rom = absurd (cc)
rom_step-of_call (InCall regs words) vector rom =
    record { regs = regs; words = words; is = refl; from = inl refl }

-- what holds of a progress in a call
abbrev pub OnCall : (List ℕ → List ℕ → Type 0) → Progress → Type 0
OnCall Holds Held = Unit {0}
OnCall Holds (Runs cpu) = Unit {0}
OnCall Holds (InCall regs words) = Holds regs words

-- after another step there is no call
boundary_step-no_call : (Holds : List ℕ → List ℕ → Type 0) (regs : List ℕ) (kind : Kind)
    (vector : Option ℕ) (access : Option Access) (value : ℕ)
    → is_rom kind ≡ false
    → OnCall Holds (next_progress kind (progress_from_boundary regs kind vector) access value)
boundary_step-no_call Holds regs Boot vector access value other = tt
boundary_step-no_call Holds regs Cpu vector access value other = tt
boundary_step-no_call Holds regs Idle vector access value other = tt
boundary_step-no_call Holds regs Irq None access value other = tt
boundary_step-no_call Holds regs Irq (Some vector) access value other = tt
boundary_step-no_call Holds regs Rom vector access value other = absurd (cc)

pub other_step-no_call : (Holds : List ℕ → List ℕ → Type 0) (progress : Progress)
    (vector : Option ℕ) (rule : Option Rule) (access : Option Access) (value : ℕ)
    → is_rom (kind_of progress vector) ≡ false
    → OnCall Holds (progress_after rule (kind_of progress vector)
    (progress_within progress (kind_of progress vector) vector) access value)
other_step-no_call Holds progress vector (Some rule) access value other = tt
other_step-no_call Holds Held vector None access value other = tt
other_step-no_call Holds (Runs (Boundary regs)) vector None access value other =
    boundary_step-no_call Holds regs (kind_of (Runs (Boundary regs)) vector) vector access value
    other
other_step-no_call Holds (Runs (Executing regs values)) vector None access value other = tt
other_step-no_call Holds (Runs (Entering regs choice values)) vector None access value other = tt
other_step-no_call Holds (InCall regs words) vector None access value other = absurd (cc)

-- the record of a step of a call that was not refused
pub record IsCallStep (start : Start) (logs : Logs) (regs words : List ℕ)
    (entry : BusRecord) : Type 0 where
  pub rom : IsRomStep entry
  pub cpu : entry.cpu ≡ Some (call_access start (length logs.released_words) regs words)
  pub value :
      entry.value
      ≡ value_read start logs (Some (call_access start (length logs.released_words) regs words))

call_record : (start : Start) (logs : Logs) (reset : Bool) (regs words : List ℕ)
    (rule : Option Rule)
    → first_rule (last_pc logs.records) (signals_of start logs reset) ≡ rule
    → rule ≡ None
    → step_kind logs ≡ Rom
    → step_progress logs (step_kind logs) ≡ InCall regs words
    → IsCallStep start logs regs words
    (record_from (last_registers logs.progress) (signals_of start logs reset) rule
    (value_read start logs (signals_of start logs reset).cpu)
    (dma_value_read start logs (signals_of start logs reset)))
unfolding signals_at
call_record start logs reset regs words (Some rule) first none kind is = absurd (cc)
call_record start logs reset regs words None first none kind is =
    let now : Signals = signals_of start logs reset in
    let breaks_none : BreaksNoRule (last_pc logs.records) now =
    first_rule-none (last_pc logs.records) now first in
    let code : in_rom now.pc ≡ true =
    ap (λ (p : Progress). in_rom (next_pc_of p)) is ∙ item_pc-in_rom (call_item words) in
    let access : now.cpu ≡ Some (call_access start (length logs.released_words) regs words) =
    ap (access_of start (length logs.released_words) (step_kind logs)) is in
    record {
      rom = record {
        kind = kind;
        code = code;
        none = refl;
        no_dma =
            none_there now.dma
            (other_false (is_some now.dma) (in_rom now.pc) breaks_none.key.k6 code);
        within =
            other_false (some_writes now.cpu && leaves_stack_and_mac now.cpu) (in_rom now.pc)
            breaks_none.key.k3 code;
      };
      cpu = access;
      value = ap (value_read start logs) access;
    }

pub record_of-call : (start : Start) (logs : Logs) (reset : Bool) (regs words : List ℕ)
    → (record_of start logs reset).reset ≡ None
    → step_kind logs ≡ Rom
    → step_progress logs (step_kind logs) ≡ InCall regs words
    → IsCallStep start logs regs words (record_of start logs reset)
unfolding record_of
record_of-call start logs reset regs words none kind is =
    call_record start logs reset regs words
    (first_rule (last_pc logs.records) (signals_of start logs reset)) refl none kind is

-- kind and `pc` of every record
pub record_of-kind : (start : Start) (logs : Logs) (reset : Bool)
    → (record_of start logs reset).kind ≡ step_kind logs
unfolding record_of signals_at
record_of-kind start logs reset = refl

pub record_of-pc : (start : Start) (logs : Logs) (reset : Bool)
    → (record_of start logs reset).pc ≡ next_pc_of (step_progress logs (step_kind logs))
unfolding record_of signals_at
record_of-pc start logs reset = refl

-- the memory after a step of the ROM
memory-rom_step : (rule : Option Rule) (cpu dma : Option Access) (writes : List MemoryWrite)
    → rule ≡ None → dma ≡ None → memory_after rule cpu dma writes ≡ with_access cpu writes
memory-rom_step rule cpu dma writes none no_dma = grind arith

record_memory-rom_step : (start : Start) (logs : Logs) (entry : BusRecord) → IsRomStep entry
    → (with_record start logs entry).memory ≡ with_access entry.cpu logs.memory
unfolding with_record
record_memory-rom_step start logs entry step =
    memory-rom_step entry.reset entry.cpu entry.dma logs.memory step.none step.no_dma

pub bytes-after : (start : Start) (logs : Logs) (entry : BusRecord) → IsRomStep entry
    → (p : ℕ) → is_flag_word p ≡ false
    → logged_byte start (with_record start logs entry) p
    ≡ byte_at start.power (flags_of start logs) (with_access entry.cpu logs.memory) p
bytes-after start logs entry step p off_flags =
    byte_at-off_flags start.power (flags_of start logs)
    (flags_of start (with_record start logs entry))
    (with_record start logs entry).memory p off_flags
    ∙ ap (λ (writes : List MemoryWrite). byte_at start.power (flags_of start logs) writes p)
    (record_memory-rom_step start logs entry step)

pub bytes-alike : (start : Start) (logs : Logs) (entry : BusRecord) → IsRomStep entry
    → AreAlike (logged_byte start (with_record start logs entry)) (logged_byte start logs)
bytes-alike start logs entry step p off off_flags =
    bytes-after start logs entry step p off_flags
    ∙ byte_at-kept start.power (flags_of start logs) entry.cpu logs.memory p step.within off

-- the last record was one of the ROM
pub record IsInRom (last : Option ℕ) : Type 0 where
  pub pc : ℕ
  pub is : last ≡ Some pc
  pub code : in_rom pc ≡ true

-- a later step of a call leaves both flags
exec-same : (start : Start) (logs : Logs) (entry : BusRecord) → IsRomStep entry
    → LogsAreValid start logs → IsInRom (last_pc logs.records)
    → exec_of (with_record start logs entry) ≡ exec_of logs
unfolding with_record
exec-same start logs entry step valid last =
    let now : SeenRecord = record { entry = entry; bounds = logged_bounds start logs } in
    exec-rom_step last.pc now logs.records last.is step last.code valid

aux-same : (start : Start) (logs : Logs) (entry : BusRecord) → IsRomStep entry
    → (entry.pc == ROM_ENTRY) ≡ false
    → aux_of start (with_record start logs entry) ≡ aux_of start logs
unfolding with_record
aux-same start logs entry step later =
    let now : SeenRecord = record { entry = entry; bounds = logged_bounds start logs } in
    let rom : is_rom entry.kind ≡ true = ap is_rom step.kind in
    let inside : (is_rom entry.kind && not (entry.pc == ROM_ENTRY)) ≡ true =
    and_from (is_rom entry.kind) (not (entry.pc == ROM_ENTRY)) rom (ap not later) in
    let none : is_none entry.reset ≡ true = ap (λ (rule : Option Rule). is_none rule) step.none in
    let goes_on : goes_on_in_call entry ≡ true =
    and_from (is_rom entry.kind && not (entry.pc == ROM_ENTRY)) (is_none entry.reset) inside none in
    ap (λ (seen : List SeenRecord). start.second_flag (map blank_seen seen))
    (cond-true (goes_on_in_call entry) (records_until_call logs.records) (now ∷ logs.records)
    goes_on)

pub bytes-same : (start : Start) (logs : Logs) (entry : BusRecord) → IsRomStep entry
    → (entry.pc == ROM_ENTRY) ≡ false
    → LogsAreValid start logs → IsInRom (last_pc logs.records)
    → (p : ℕ) → is_written_by_rom p ≡ false
    → logged_byte start (with_record start logs entry) p ≡ logged_byte start logs p
bytes-same start logs entry step later valid last p off =
    let same : flags_of start (with_record start logs entry) ≡ flags_of start logs =
    (λ i. record {
      exec = exec-same start logs entry step valid last i;
      aux = aux-same start logs entry step later i;
    }) in
    ap (λ (flags : ShownFlags). byte_at start.power flags
    (with_record start logs entry).memory p) same
    ∙ (ap (λ (writes : List MemoryWrite). byte_at start.power (flags_of start logs) writes p)
    (record_memory-rom_step start logs entry step)
    ∙ byte_at-kept start.power (flags_of start logs) entry.cpu logs.memory p step.within off)

-- the progress after a step of a call
progress-in_call : (rule : Option Rule) (kind : Kind) (progress : Progress)
    (access : Option Access) (value : ℕ) (regs words : List ℕ)
    → rule ≡ None → progress ≡ InCall regs words
    → progress_after rule kind progress access value
    ≡ call_after regs words (word_passed access value)
progress-in_call None kind progress access value regs words none within =
    ap (λ (p : Progress). next_progress kind p access value) within
progress-in_call (Some rule) kind progress access value regs words none within = absurd (cc)

pub progress-call_step : (start : Start) (logs : Logs) (regs words : List ℕ) (entry : BusRecord)
    → IsCallStep start logs regs words entry
    → step_kind logs ≡ Rom
    → step_progress logs (step_kind logs) ≡ InCall regs words
    → (with_record start logs entry).progress
    ≡ call_after regs words (word_passed entry.cpu entry.value)
unfolding with_record
progress-call_step start logs regs words entry step kind is =
    let at_rom : entry.kind ≡ step_kind logs = step.rom.kind ∙ sym kind in
    let within : step_progress logs entry.kind ≡ InCall regs words =
    ap (step_progress logs) at_rom ∙ is in
    progress-in_call entry.reset entry.kind _ entry.cpu entry.value regs words step.rom.none within
