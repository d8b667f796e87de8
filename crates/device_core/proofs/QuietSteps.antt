-- Quiet steps.
use Rattle.std.proofs.Common.{◌≡◌, ◌∙◌, ◌||◌, ◌+◌, ◌-◌, ℕ, Bool, true, false, [], ◌∷◌, Option, Some, None, IsSome, is_some, refl, sym, ap, subst, arith}
use Rattle.device_types.specs.{declared.{access.Access.{Access, TheVariants.Fetch}, bus_record.BusRecord.BusRecord, rule.Rule.Rule, signals.Signals.Signals}, ExecFlag.last_pc, Address.even}
use Rattle.part_definitions.specs.{CpuRegister.{Registers, pc_of}, CpuState.{Boundary, cpu_access}, NextAccess.next_access, Dma.dma_access, FirstRule.first_rule}
use Rattle.device_trace.specs.{Logs.{Logs, finishes_call, with_events, with_record}, Trace.{Play, logs_after}, Progress.{last_registers, Progress, Held, Runs, InCall}, Signals.{proposed_access, signals_at, signals_of, step_kind, value_read}, Start.Start, Step.{dma_value_read, next_record, record_from, record_of}, Text.byte_sent_in}
use Rattle.device_core.{specs.{Bus.{LastStandsFor, logs_after_step}, Quiet.{AreOpen, AreQuiet, GoesOver, IsOpen, IsQuiet, Question}, Silence.{has_line, with_idle}, declared.{last_step.LastStep.LastStep, stage.Stage.TheVariants.Running as RunningStage}, Machine.{call_of, stage_of}}, proofs.Idle.{each-after, each-more, flags-unkept, idle-behind, idle-more, silent-unkept}}
use Rattle.swatt_rom.specs.RomCall.{NoCall}

no-rule : (sends finishes : Bool) (rule : Option Rule)
    → (sends || is_some rule || finishes) ≡ false → rule ≡ None
no-rule sends finishes None line = refl
no-rule true finishes (Some rule) line = absurd cc
no-rule false finishes (Some rule) line = absurd cc

-- a step without a line is not refused
pub unlined : (entry : BusRecord) → has_line entry ≡ false → entry.reset ≡ None
unlined entry line = no-rule (is_some (byte_sent_in entry)) (finishes_call entry) entry.reset line

made-over :
    (quiet : Question) (regs : Registers) (now : Signals) (rule : Option Rule)
    (value dma_value : ℕ)
    → rule ≡ None → quiet now.cpu now.dma ≡ true
    → GoesOver quiet (record_from regs now rule value dma_value)
made-over quiet regs now None value dma_value none quietly = quietly
made-over quiet regs now (Some rule) value dma_value none quietly = absurd cc

kept-unless : (quietly : Bool) (last : Option LastStep)
    → (quietly ≡ false → IsSome last) → last ≡ None → quietly ≡ true
kept-unless true last keeps none = refl
kept-unless false None keeps none = absurd (cc (keeps refl))
kept-unless false (Some step) keeps none = absurd cc

unruled :
    (start : Start) (logs : Logs) (script_reset : Bool)
    → LastStandsFor start None (logs_after_step start logs script_reset).records
    → first_rule (last_pc logs.records) (signals_of start logs script_reset) ≡ None
unfolding with_record record_of
unruled start logs script_reset stands =
    unlined (record_of start logs script_reset) stands.0

-- a step that was not kept is gone over
pub goes-over :
    (quiet : Question) (start : Start) (logs : Logs) (script_reset : Bool)
    (access dma : Option Access) (last : Option LastStep)
    → access ≡ proposed_access start logs (step_kind logs)
    → dma ≡ dma_access logs.peripherals.dma
    → (quiet access dma ≡ false → IsSome last)
    → LastStandsFor start last (logs_after_step start logs script_reset).records
    → last ≡ None
    → GoesOver quiet (record_of start logs script_reset)
unfolding record_of signals_at
goes-over quiet start logs script_reset access dma last same beside keeps stands none =
    let now = signals_of start logs script_reset in
    made-over quiet (last_registers logs.progress) now (first_rule (last_pc logs.records) now)
    (value_read start logs now.cpu) (dma_value_read start logs now)
    (unruled start logs script_reset (rw none at stands))
    (rw (same, beside) at (kept-unless (quiet access dma) last keeps none))

pub quiet-step :
    {quiet : Question} (start : Start) (play : Play) (last : Option LastStep)
    → GoesOver quiet (record_of start (logs_after start play) false)
    → LastStandsFor start last (logs_after start ([] ∷ play)).records
    → is_some last ≡ false
    → IsQuiet quiet start play
unfolding next_record with_events
quiet-step start play last over stands none =
    record {
      made = over;
      silent = silent-unkept start ([] ∷ play) last stands none;
      same_flags = flags-unkept start play last stands none;
    }

pub none-kept : (last : Option LastStep) → is_some last ≡ false → last ≡ None
none-kept None unkept = refl
none-kept (Some step) unkept = absurd cc

pub kept-some : (last : Option LastStep) → is_some last ≡ true → last ≡ None → ⊥
kept-some None kept none = absurd cc
kept-some (Some step) kept none = absurd cc

-- behind steps
pub quiet-next :
    {quiet : Question} (start : Start) (steps : ℕ) (play : Play) (last : Option LastStep)
    → GoesOver quiet (record_of start (logs_after start (with_idle steps play)) false)
    → LastStandsFor start last (logs_after start (with_idle (steps + 1) play)).records
    → is_some last ≡ false
    → IsQuiet quiet start (with_idle steps play)
quiet-next start steps play last over stands none =
    quiet-step start (with_idle steps play) last over (rw (idle-more steps play) at stands) none

-- one step more, and then a row
pub behind-quiet :
    {quiet : Question} (start : Start) (steps more : ℕ) (play : Play)
    → IsQuiet quiet start (with_idle steps play)
    → AreQuiet quiet start steps play
    → AreQuiet quiet start more (with_idle (steps + 1) play)
    → AreQuiet quiet start (steps + 1 + more) play
behind-quiet {quiet = quiet} start steps more play next all later =
    each-after (IsQuiet quiet start) more (steps + 1) play later
    (each-more (IsQuiet quiet start) steps play next all)

pub before-open :
    (quiet : Question) (start : Start) (steps more : ℕ) (play : Play)
    → AreOpen quiet start steps ([] ∷ play)
    → AreOpen quiet start more (with_idle (steps + 1) play)
    → AreOpen quiet start (steps + 1 + more - 1) ([] ∷ play)
before-open quiet start steps more play all later =
    let holds : Play → Type 0 = λ before. IsOpen quiet (logs_after start before) in
    let order : steps + more ≡ steps + 1 + more - 1 = omega arith in
    subst (λ (made : ℕ). AreOpen quiet start made ([] ∷ play)) order
    (each-after holds more steps ([] ∷ play)
    (subst (λ (before : Play). AreOpen quiet start more before) (sym (idle-behind steps play))
    later) all)

pub behind-open :
    (quiet : Question) (start : Start) (steps more : ℕ) (play : Play)
    → AreOpen quiet start steps ([] ∷ play)
    → AreOpen quiet start more (with_idle (steps + 1) play)
    → IsOpen quiet (logs_after start (with_idle (steps + 1 + more) play))
    → AreOpen quiet start (steps + 1 + more) ([] ∷ play)
behind-open quiet start steps more play all later last =
    let holds : Play → Type 0 = λ before. IsOpen quiet (logs_after start before) in
    let order : steps + more + 1 ≡ steps + 1 + more = omega arith in
    let place : with_idle (steps + more) ([] ∷ play) ≡ with_idle (steps + 1 + more) play =
    idle-behind (steps + more) play ∙ ap (λ (made : ℕ). with_idle made play) order in
    subst (λ (made : ℕ). AreOpen quiet start made ([] ∷ play)) order
    (each-more holds (steps + more) ([] ∷ play) (subst holds (sym place) last)
    (each-after holds more steps ([] ∷ play)
    (subst (λ (before : Play). AreOpen quiet start more before) (sym (idle-behind steps play))
    later) all))

-- a fetch at a boundary is at an even place
pub even-fetch :
    (regs : Registers) (access : Access)
    → cpu_access (Boundary regs) ≡ Some access
    → Some (Fetch (even (pc_of regs))) ≡ Some access
unfolding next_access
even-fetch regs access is = is

-- A processor that runs is in no call.

pub no-call : (progress : Progress) → RunningStage ≡ stage_of progress → call_of progress ≡ NoCall
no-call Held runs = absurd (cc (runs))
no-call (Runs state) runs = refl
no-call (InCall regs words) runs = absurd (cc (runs))
