-- Steps of sleep in a row.
use Rattle.std.proofs.Common.{◌≡◌, ◌∙◌, ◌<◌, ◌≤◌, ◌∷◌, ℕ, zero, suc, Bool, true, false, map, Option, None, Some, is_some, if◌then◌else◌, refl, sym, ap, subst, arith, List, inl}
use Rattle.device_types.specs.{declared.{bounds.Bounds.Bounds, bus_record.BusRecord.BusRecord, kind.Kind.TheVariants.{Cpu, Idle, Irq, Rom}, signals.Signals.Signals}, ExecFlag.{last_pc, SeenRecord}, TraceFlag.{Flag, IsRecordOf}}
use Rattle.part_definitions.specs.{CpuRegister.{Registers, allows_interrupts, pc_of}, CpuState.Boundary, Dma.dma_access, FirstRule.first_rule, Memory.{MemoryWrite, ShownFlags, byte_at}, Metadata.bounds_in, Interrupt.first_vector}
use Rattle.device_trace.specs.{Blank.blank_seen, Logs.{Logs, aux_of, flags_of, flags_shown, logged_bounds, vector_of, with_record}, Peripherals.requests, Trace.{Play, last_signals, logs_after}, Progress.{Progress, Runs, boundary_kind, last_registers}, Signals.{signals_at, signals_of, step_kind}, Start.Start, Step.{record_from, record_of}}
use Rattle.hmac_core.specs.Hash.{Hash}
use Rattle.device_core.{specs.{Bus.{BusStandsFor, KeepsSignals, LastStandsFor, logs_after_step}, FlagsKept.{LeavesFlags, MonitorsStandFor}, Machine.{DecisionStandsFor, MachineStandsFor, PlaysAt, ProgressStandsFor, stage_of}, Silence.with_idle, declared.{last_step.LastStep.LastStep, machine.Machine.Machine, stage.Stage.TheVariants.Running, bus.Bus.Bus}, Quiet.{AreOpen, AreQuiet, Question}, Sleep.{IsOfSleep, SleepsAt, Rests, Sleeps, idle_signals, logs_idle, with_idle_steps}}, proofs.{FlagsShown.flags-kept, Idle.idle-logs, QuietSteps.quiet-step, Steps.record_of-tried, Turns.boundary-step}}

-- what it leaves in the logs
abbrev idle_record : Registers → BusRecord
idle_record regs = record_from regs (idle_signals (pc_of regs)) None 0 0

vector-asleep :
    (entry inside asleep : Bool) (vector : Option ℕ)
    → (if entry then Rom else if inside then Cpu else if is_some vector then Irq else if asleep then
    Idle else Cpu) ≡ Idle
    → vector ≡ None
vector-asleep true inside asleep vector same = absurd cc
vector-asleep false true asleep vector same = absurd cc
vector-asleep false false asleep (Some vector) same = absurd cc
vector-asleep false false asleep None same = refl

pub boundary-asleep :
    (regs : Registers) (vector : Option ℕ) → boundary_kind regs vector ≡ Idle → vector ≡ None
boundary-asleep regs vector idle = vector-asleep _ _ _ vector idle

-- at a boundary with these registers the processor sleeps, and nobody has an access
record IsIdle (regs : Registers) (logs : Logs) : Type 0 where
  runs : logs.progress ≡ Runs (Boundary regs)
  idle : boundary_kind regs (vector_of logs) ≡ Idle
  unasked : dma_access logs.peripherals.dma ≡ None

idle-kind : (regs : Registers) (logs : Logs) → IsIdle regs logs → step_kind logs ≡ Idle
idle-kind regs logs rests = boundary-step logs regs rests.runs ∙ rests.idle

signals-asleep :
    (start : Start) (logs : Logs) (regs : Registers)
    → IsIdle regs logs → idle_signals (pc_of regs) ≡ signals_of start logs false
unfolding signals_at
signals-asleep start logs regs rests =
    let none = boundary-asleep regs (vector_of logs) rests.idle in
    rw (idle-kind regs logs rests, none, rests.runs, rests.unasked) refl

record-asleep :
    (start : Start) (logs : Logs) (regs : Registers)
    → IsIdle regs logs → first_rule (last_pc logs.records) (idle_signals (pc_of regs)) ≡ None
    → record_of start logs false ≡ idle_record regs
record-asleep start logs regs rests unbroken =
    record_of-tried start logs false regs (idle_signals (pc_of regs)) None
    (signals-asleep start logs regs rests) (rw rests.runs refl) unbroken

-- one step
logs-asleep :
    (start : Start) (logs : Logs) (regs : Registers)
    → IsIdle regs logs → first_rule (last_pc logs.records) (idle_signals (pc_of regs)) ≡ None
    → logs_after_step start logs false
    ≡ record {
      progress = Runs (Boundary regs);
      memory = logs.memory;
      peripherals = with_idle_steps 1 logs.peripherals;
      records = record { entry = idle_record regs; bounds = logged_bounds start logs }
          ∷ logs.records;
      released_words = logs.released_words;
      decision = None;
      level = logs.level;
    }
unfolding with_record
logs-asleep start logs regs rests unbroken =
    rw (record-asleep start logs regs rests unbroken, rests.runs) refl

-- after so many steps of sleep
pub record SleepsOn {G : Type 0} (flag : Flag G) (bus : Bus G) (start : Start) (first : Logs)
    (steps : ℕ) (logs : Logs) : Type 0 where
  pub same_progress : logs.progress ≡ first.progress
  pub same_memory : logs.memory ≡ first.memory
  pub same_flags : flags_of start logs ≡ flags_of start first
  pub same_peripherals : logs.peripherals ≡ with_idle_steps steps first.peripherals
  pub same_monitors : MonitorsStandFor flag bus.monitors logs.records
  pub shown : aux_of start logs ≡ flag.value (map blank_seen logs.records)
  pub same_last : LastStandsFor start None logs.records
  pub same_decision : (decision : ℕ)
      → DecisionStandsFor decision first.decision
      → DecisionStandsFor decision logs.decision
  pub same_level : logs.level ≡ first.level

bounds-alike :
    (start : Start) (flags others : ShownFlags) (writes before : List MemoryWrite)
    → flags ≡ others → writes ≡ before
    → bounds_in (byte_at start.power flags writes) ≡ bounds_in (byte_at start.power others before)
bounds-alike start flags others writes before same kept =
    ap (λ (shown : ShownFlags). bounds_in (byte_at start.power shown writes)) same
    ∙ ap (λ (all : List MemoryWrite). bounds_in (byte_at start.power others all)) kept

-- in steps of sleep no request comes or goes
abbrev pub AsksAlike : ℕ → Logs → Type 0
AsksAlike steps first =
    (some : ℕ) → some ≤ steps
    → requests (with_idle_steps some first.peripherals) ≡ requests first.peripherals

vector-alike :
    (progress other : Progress) (asks others : List ℕ)
    → progress ≡ other → asks ≡ others
    → (if allows_interrupts (last_registers progress) then first_vector asks else None)
    ≡ (if allows_interrupts (last_registers other) then first_vector others else None)
vector-alike progress other asks others here same = rw (here, same) refl

module _ {G : Type 0} (flag : Flag G) (bus : Bus G) (start : Start) (first : Logs) (pc : ℕ)
    (stands : BusStandsFor flag bus start first) (kept : bus.last ≡ None)
    (sleeps : SleepsAt pc first) (rests : Rests flag bus (idle_signals pc) start first)
  where
    here : Rests flag bus (idle_signals (pc_of (last_registers first.progress))) start first
    here =
        subst (λ place. Rests flag bus (idle_signals place) start first) sleeps.same_pc rests

    sleeps-none : SleepsOn flag bus start first 0 first
    sleeps-none =
        record {
          same_progress = refl;
          same_memory = refl;
          same_flags = refl;
          same_peripherals = refl;
          same_monitors = stands.same_monitors;
          shown = rests.shown;
          same_last = subst (λ last. LastStandsFor start last first.records) kept stands.same_last;
          same_decision = λ decision same. same;
          same_level = refl;
        }

    still-idle :
        (steps : ℕ) (logs : Logs)
        → SleepsOn flag bus start first steps logs
        → requests (with_idle_steps steps first.peripherals) ≡ requests first.peripherals
        → IsIdle (last_registers first.progress) logs
    still-idle steps logs on alike =
        let regs = last_registers first.progress in
        let vector : vector_of logs ≡ vector_of first =
        vector-alike logs.progress first.progress (requests logs.peripherals)
        (requests first.peripherals) on.same_progress (ap requests on.same_peripherals ∙ alike) in
        record {
          runs = on.same_progress ∙ sleeps.at_boundary;
          idle =
              ap (boundary_kind regs) vector
              ∙ sym (boundary-step first regs sleeps.at_boundary)
              ∙ sleeps.idle;
          unasked = rw on.same_peripherals rests.unasked;
        }

    sleeps-more :
        (steps : ℕ) (logs : Logs)
        → SleepsOn flag bus start first steps logs
        → requests (with_idle_steps steps first.peripherals) ≡ requests first.peripherals
        → SleepsOn flag bus start first (suc steps) (logs_after_step start logs false)
    sleeps-more steps logs on alike =
        let regs = last_registers first.progress in
        let now : SeenRecord =
        record { entry = idle_record regs; bounds = logged_bounds start logs } in
        let bounds : logged_bounds start logs ≡ logged_bounds start first =
        bounds-alike start (flags_of start logs) (flags_of start first) logs.memory first.memory
        on.same_flags on.same_memory in
        let is : IsRecordOf (idle_signals (pc_of regs)) (idle_record regs) =
        record {
          same_kind = refl;
          same_pc = refl;
          same_cpu = refl;
          same_dma = refl;
          same_irq = refl;
          unrefused = refl;
        } in
        let leaves : LeavesFlags flag now logs.records =
        subst
        (λ (seen : Bounds). LeavesFlags flag (record { entry = idle_record regs; bounds = seen })
        logs.records) (sym bounds)
        (here.repeats.leaves (idle_record regs) logs.records on.same_monitors is) in
        let shown : flags_shown start (now ∷ logs.records) ≡ flags_shown start logs.records =
        flags-kept flag start now logs.records stands.same_flag on.shown leaves in
        let after =
        logs-asleep start logs regs (still-idle steps logs on alike)
        (here.repeats.unbroken logs.records on.same_monitors) in
        subst (λ (it : Logs). SleepsOn flag bus start first (suc steps) it) (sym after)
        (record {
          same_progress = sym sleeps.at_boundary;
          same_memory = on.same_memory;
          same_flags = shown ∙ on.same_flags;
          same_peripherals = ap (with_idle_steps 1) on.same_peripherals;
          same_monitors = record {
            same_last = here.repeats.same_pc;
            same_exec = on.same_monitors.same_exec ∙ sym leaves.same_exec;
            same_second =
                flag.passes bus.monitors.second (blank_seen now) (map blank_seen logs.records)
                on.same_monitors.same_second leaves.same_second;
          };
          shown =
              ap (λ (flags : ShownFlags). flags.aux) shown ∙ on.shown ∙ sym leaves.same_second;
          same_last = (refl, shown);
          same_decision = λ decision same. tt;
          same_level = on.same_level;
        })

    pub sleeps-on :
        (steps : ℕ) → AsksAlike steps first
        → SleepsOn flag bus start first steps (logs_idle start steps first)
    sleeps-on zero alike = sleeps-none
    sleeps-on (suc steps) alike =
        sleeps-more steps (logs_idle start steps first)
        (sleeps-on steps (λ some few. alike some (omega arith)))
        (alike steps (omega arith))

    pub asleep-step :
        (steps : ℕ) → AsksAlike steps first → IsOfSleep start (logs_idle start steps first)
    asleep-step steps alike =
        let regs = last_registers first.progress in
        let logs = logs_idle start steps first in
        let on = sleeps-on steps alike in
        let still = still-idle steps logs on (alike steps (omega arith)) in
        let same =
        record-asleep start logs regs still
        (here.repeats.unbroken logs.records on.same_monitors) in
        record {
          idle = idle-kind regs logs still;
          no_access = ap (λ (entry : BusRecord). entry.cpu) same;
          alone = ap (λ (entry : BusRecord). entry.dma) same;
        }

    pub asleep :
        (steps : ℕ) → AsksAlike steps first → Sleeps start first (logs_idle start steps first)
    asleep steps alike =
        let on = sleeps-on steps alike in
        record {
          same_progress = on.same_progress;
          same_last = on.same_last;
          same_decision = on.same_decision;
          same_level = on.same_level;
        }

-- the device after them
pub idle-logs-all :
    (start : Start) (steps : ℕ) (play : Play)
    → logs_after start (with_idle steps play) ≡ logs_idle start steps (logs_after start play)
idle-logs-all start zero play = refl
idle-logs-all start (suc steps) play =
    idle-logs start (with_idle steps play)
    ∙ ap (λ logs. logs_after_step start logs false) (idle-logs-all start steps play)

pub no-signals :
    (last : Option LastStep) (now : Option Signals) → last ≡ None → KeepsSignals last now
no-signals None now none = tt
no-signals (Some step) now none = absurd cc

pub plays-asleep :
    {D G : Type 0} {hash : Hash D} {flag : Flag G} (machine : Machine D G) (bus : Bus G)
    (start : Start) (play : Play) (steps : ℕ)
    → PlaysAt hash flag Running machine start play
    → bus.last ≡ None
    → BusStandsFor flag bus start (logs_idle start steps (logs_after start play))
    → Sleeps start (logs_after start play) (logs_idle start steps (logs_after start play))
    → PlaysAt hash flag Running (record machine { bus = bus }) start (with_idle steps play)
plays-asleep {D = D} {G = G} {hash = hash} {flag = flag} machine bus start play steps stands none
    bears sleeps =
    let new : Machine D G = record machine { bus = bus } in
    record {
      same =
          subst (λ logs. MachineStandsFor hash flag new start logs)
          (sym (idle-logs-all start steps play))
          (record {
            same_bus = bears;
            same_progress =
                subst (λ progress. ProgressStandsFor hash machine.processor machine.call progress)
                (sym sleeps.same_progress) stands.same.same_progress;
            same_decision = sleeps.same_decision machine.decision stands.same.same_decision;
            same_level = stands.same.same_level ∙ sym sleeps.same_level;
            same_word = stands.same.same_word;
          });
      same_stage =
          stands.same_stage
          ∙ ap stage_of
          (sym sleeps.same_progress
          ∙ ap (λ (logs : Logs). logs.progress) (sym (idle-logs-all start steps play)));
      same_signals = no-signals bus.last (last_signals start (with_idle steps play)) none;
    }

-- all of them are quiet
pub all-asleep :
    (quiet : Question) (start : Start) (play : Play) (steps : ℕ)
    → quiet None None ≡ true
    → ((some : ℕ) → some < steps
    → IsOfSleep start (logs_idle start some (logs_after start play)))
    → ((some : ℕ) → some ≤ steps
    → Sleeps start (logs_after start play) (logs_idle start some (logs_after start play)))
    → AreQuiet quiet start steps play × AreOpen quiet start steps play
all-asleep quiet start play zero quietly is sleeps = (tt, tt)
all-asleep quiet start play (suc steps) quietly is sleeps =
    let before = all-asleep quiet start play steps quietly (λ some few. is some (omega arith))
    (λ some few. sleeps some (omega arith)) in
    let here : IsOfSleep start (logs_after start (with_idle steps play)) =
    subst (λ (logs : Logs). IsOfSleep start logs) (sym (idle-logs-all start steps play))
    (is steps (omega arith)) in
    let last : LastStandsFor start None (logs_after start (with_idle (suc steps) play)).records =
    subst (λ (logs : Logs). LastStandsFor start None logs.records)
    (sym (idle-logs-all start (suc steps) play))
    (sleeps (suc steps) (omega arith)).same_last in (
      (
        quiet-step start (with_idle steps play) None
            (rw (here.no_access, here.alone) quietly) last refl,
        before.0,
      ),
      (λ regs runs. inl here.idle, before.1),
    )
