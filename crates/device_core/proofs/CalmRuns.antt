-- A processor that runs, after a calm step.
use Rattle.std.proofs.{Common.{◌≡◌, ◌∙◌, ◌+◌, ℕ, true, false, Some, None, inl, inr, refl, sym, subst}, lemmas.Bool.and_right}
use Rattle.device_types.specs.{declared.{access.Access.TheVariants.Fetch, kind.Kind.TheVariants.Cpu, region.Region.Region}, Address.even, TraceFlag.Flag}
use Rattle.part_definitions.specs.{CpuRegister.{Registers, pc_of}, CpuState.{CpuState, Boundary, Executing, Entering, cpu_after, is_at_boundary}, FirstRule.breaks_i1, NextAccess.is_illegal}
use Rattle.hmac_core.specs.Hash.{Hash}
use Rattle.msp_exec.specs.Course.{CpuStandsFor}
use Rattle.swatt_rom.specs.{RomCall.NoCall, Rom.RomStandsFor}
use Rattle.device_trace.specs.{Progress.{level_after, Progress, Held, InCall, Runs, fetches_opcode, last_registers}, Logs.{Logs, step_progress}, Trace.{Play, logs_after}, Signals.{proposed_access, signals_at, signals_of, step_kind, value_read}, Start.Start, Step.record_of}
use Rattle.device_core.{specs.{Bus.{BusStandsFor, answer_in, logs_after_step}, Calm.{IsCalmRegion, ReadsCalmly}, Machine.{EndsAt, IsAtBoundary, StandsAfter, WritesBy, cpu_of}, Quiet.{GoesOver, IsOpen, Question}, Silence.with_idle, declared.{machine.Machine.Machine, stage.Stage.TheVariants.Running}}, proofs.{Calls.ended, CalmRegion.{calm-after, calm-answer, calm-over}, Decisions.{decision-none, other-decision}, Idle.{idle-logs, idle-more}, Levels.level-step, NextProgress.progress-performed, Turns.next-runs}}

signals-cpu : (start : Start) (logs : Logs) → (signals_of start logs false).kind ≡ step_kind logs
unfolding signals_at
signals-cpu start logs = refl

-- what a calm step is of
pub calm-kind :
    {G : Type 0} {flag : Flag G} {code : Region} (start : Start) (logs : Logs) {value : ℕ}
    → ReadsCalmly flag code start logs value → step_kind logs ≡ Cpu
calm-kind start logs reads = sym (signals-cpu start logs) ∙ reads.calm.by_processor

opcode-middle :
    (progress : Progress)
    → is_at_boundary (cpu_of progress) ≡ false → fetches_opcode Cpu progress ≡ false
opcode-middle Held middle = absurd cc
opcode-middle (Runs (Boundary regs)) middle = absurd cc
opcode-middle (Runs (Executing regs values)) middle = refl
opcode-middle (Runs (Entering regs other values)) middle = refl
opcode-middle (InCall regs words) middle = absurd cc

pub middle-opcode :
    (logs : Logs)
    → step_kind logs ≡ Cpu → is_at_boundary (cpu_of logs.progress) ≡ false
    → fetches_opcode (step_kind logs) logs.progress ≡ is_at_boundary (cpu_of logs.progress)
middle-opcode logs is middle = rw is (opcode-middle logs.progress middle) ∙ sym middle

-- in the middle of an instruction no opcode is fetched
pub middle-legal :
    (start : Start) (logs : Logs)
    → step_kind logs ≡ Cpu → is_at_boundary (cpu_of logs.progress) ≡ false
    → breaks_i1 (signals_of start logs false) ≡ false
unfolding signals_at
middle-legal start logs is middle = rw (is, opcode-middle logs.progress middle) refl

pub opcode-fetched :
    (logs : Logs) (regs : Registers)
    → logs.progress ≡ Runs (Boundary regs) → step_kind logs ≡ Cpu
    → fetches_opcode (step_kind logs) logs.progress ≡ true
opcode-fetched logs regs runs is = rw (is, runs) refl

-- nor an illegal one where the word that was read is legal
pub fetched-legal :
    (start : Start) (logs : Logs) (value place : ℕ)
    → proposed_access start logs (step_kind logs) ≡ Some (Fetch place)
    → value ≡ value_read start logs (signals_of start logs false).cpu
    → is_illegal value ≡ false
    → breaks_i1 (signals_of start logs false) ≡ false
unfolding signals_at
fetched-legal start logs value place access reads legal =
    let word = rw access at reads in
    let same = rw word at legal in
    rw (access, same) (and_right (fetches_opcode (step_kind logs) logs.progress) false refl)

pub runs-on :
    {D G : Type 0} (hash : Hash D) (machine : Machine D G) (start : Start) (logs : Logs)
    (value : ℕ) (state : CpuState)
    → step_kind logs ≡ Cpu → step_progress logs (step_kind logs) ≡ Runs state
    → answer_in (record_of start logs false) ≡ Some value
    → CpuStandsFor machine.processor (cpu_after state value)
    → RomStandsFor hash machine.call NoCall
    → machine.processor.level ≡ level_after logs.progress (Runs (cpu_after state value)) logs.level
    → EndsAt hash Running machine (logs_after_step start logs false)
runs-on hash machine start logs value state is within answer processor call level =
    let kind = step_kind logs in
    let next : (logs_after_step start logs false).progress ≡ Runs (cpu_after state value) =
    progress-performed start logs false value answer
    ∙ next-runs kind (step_progress logs kind) state (proposed_access start logs kind) value within
    (inl is) in
    record {
      same_progress = rw next (record { same_processor = processor; same_call = call });
      same_stage = rw next refl;
      same_decision = decision-none _ _ (other-decision start logs false (rw is refl));
      same_level = level ∙ sym (level-step start logs false _ next);
    }

-- in the middle of an instruction a row may go on
pub within-open :
    (quiet : Question) (logs : Logs)
    → is_at_boundary (cpu_of logs.progress) ≡ false → IsOpen quiet logs
within-open quiet logs middle regs runs = absurd (cc (middle, runs))

-- and where a fetch is quiet
pub fetch-open :
    (quiet : Question) (start : Start) (logs : Logs)
    → IsAtBoundary logs
    → proposed_access start logs (step_kind logs)
    ≡ Some (Fetch (even (pc_of (last_registers logs.progress))))
    → quiet (signals_of start logs false).cpu None ≡ true
    → IsOpen quiet logs
unfolding signals_at
fetch-open quiet start logs here access quietly regs runs =
    inr (rw (access, runs) at quietly)

-- after a calm step
pub goes-calmly :
    {D G : Type 0} (hash : Hash D) (flag : Flag G) (quiet : Question) (machine : Machine D G)
    (code : Region) (start : Start) (logs : Logs) (value : ℕ) (state : CpuState)
    → IsCalmRegion flag code start logs → ReadsCalmly flag code start logs value
    → breaks_i1 (signals_of start logs false) ≡ false
    → step_progress logs (step_kind logs) ≡ Runs state
    → machine.bus.last ≡ None
    → BusStandsFor flag machine.bus start (logs_after_step start logs false)
    → WritesBy hash start
    → CpuStandsFor machine.processor (cpu_after state value)
    → RomStandsFor hash machine.call NoCall
    → machine.processor.level ≡ level_after logs.progress (Runs (cpu_after state value)) logs.level
    → quiet (signals_of start logs false).cpu None ≡ true
    → IsOpen quiet logs
    → StandsAfter hash flag Running machine start logs false
    × IsCalmRegion flag code start (logs_after_step start logs false)
    × GoesOver quiet (record_of start logs false)
    × IsOpen quiet logs
goes-calmly hash flag quiet machine code start logs value state region reads legal within last bus
    writes processor call level quietly onward = (
      ended refl
          (runs-on hash machine start logs value state (calm-kind start logs reads) within
          (calm-answer flag code start logs value region reads legal) processor call level)
          writes (record { same = bus; same_signals = rw last tt }),
      calm-after flag code start logs value region reads legal bus.same_flag,
      calm-over flag code start logs value region reads legal quiet quietly,
      onward,
    )

-- in the words of a play
pub region-idle :
    {G : Type 0} (flag : Flag G) (code : Region) (start : Start) (steps : ℕ) (play : Play)
    → IsCalmRegion flag code start
    (logs_after_step start (logs_after start (with_idle steps play)) false)
    → IsCalmRegion flag code start (logs_after start (with_idle (steps + 1) play))
region-idle flag code start steps play region =
    let before = with_idle steps play in
    subst (λ here. IsCalmRegion flag code start (logs_after start here))
    (sym (idle-more steps play))
    (subst (λ logs. IsCalmRegion flag code start logs) (sym (idle-logs start before)) region)
