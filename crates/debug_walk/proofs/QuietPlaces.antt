-- What a step that a row goes over does at its place, and where a row may go on.
use Rattle.std.{proofs.{Common.{◌≡◌, ◌<◌, ◌∙◌, ◌⊎◌, inl, inr, ℕ, suc, Bool, true, false, not, List, [], ◌∷◌, Option, None, Some, refl, ap, sym, arith}, lemmas.Bool.{and_parts, not-true, or_parts}}, specs.Prelude.{◌==◌, ◌&&◌, ◌||◌, is_some, if◌then◌else◌}}
use Rattle.device_types.specs.{Address.even, Map.ROM_ENTRY, declared.{access.Access.{Access, TheVariants.{Fetch}}, bus_record.BusRecord.BusRecord, kind.Kind.TheVariants.{Cpu, Idle, Irq, Rom}}}
use Rattle.part_definitions.specs.{CpuRegister.{Registers, is_asleep, pc_of}, CpuState.{Boundary}, MonitorRule.in_rom, Memory.ShownFlags}
use Rattle.device_trace.specs.{Progress.{Progress, Runs, boundary_kind, kind_of, last_registers, stands_at_boundary}, Logs.{Logs, vector_of}, Trace.logs_after}
use Rattle.trace_facts.proofs.{ExecFlag.none_there, OpcodeFetch.logs_after-proper, ProperRegisters.IsProper}
use Rattle.device_core.{specs.Quiet.{IsOpen, IsQuiet, Question}, proofs.Levels.level-boundary}
use Rattle.debug_session.specs.{Request.most_steps, Cause.is_broken_at, Place.{Run, aux_at, differs, exec_at, logs_at, play_to, sight_at, step_at, step_sight}, Sight.StepSight, Stops.{Stops, has_breakpoint}, Watched.{data_access, hit_by, hits_by, hits_by_access, hits_of, is_hit}, declared.watch.Watch.Watch}
use Rattle.debug_walk.{specs.{Walk.seen_at, Passing.{IsSilent, Sleeps, goes_over, is_passed}}, proofs.{Asking.idle-where, Places.{heard_at, step-kind, step-level, step-progress, next-there, silent-there}}}

pub flags-next : (quiet : Question) (run : Run) (place : ℕ) → run.events_at place ≡ []
    → IsQuiet quiet run.start (play_to run place)
    → (exec_at run (suc place) ≡ exec_at run place) × (aux_at run (suc place) ≡ aux_at run place)
unfolding logs_at
flags-next quiet run place alone is =
    let same = rw (← alone) at is.same_flags in (
      ap (λ (flags : ShownFlags). flags.exec) same,
      ap (λ (flags : ShownFlags). flags.aux) same,
    )

-- a hit on nothing
none-hit : (watches : List Watch) (access : Access)
    → is_hit watches access ≡ false → hits_by_access access watches ≡ []
none-hit [] access none = refl
none-hit (one ∷ watches) access none =
    let parts = or_parts (is_some (hit_by access one)) (is_hit watches access) none in
    rw (none_there (hit_by access one) parts.0, none-hit watches access parts.1) refl

passed-unhit : (stops : Stops) (asleep : Bool) (access : Option Access)
    → is_passed stops asleep access ≡ true → hits_by (data_access access) stops.watches ≡ []
passed-unhit stops asleep None passed = refl
passed-unhit stops true (Some access) passed = absurd (cc (passed))
passed-unhit stops false (Some (Fetch place)) passed = refl
passed-unhit stops false (Some access) passed =
    none-hit stops.watches access (not-true (is_hit stops.watches access) passed)

same-flag : (flag : Bool) → differs flag flag ≡ false
same-flag true = refl
same-flag false = refl

-- a boundary
boundary-progress : (progress : Progress)
    → stands_at_boundary progress ≡ true → progress ≡ Runs (Boundary (last_registers progress))
boundary-progress (Runs (Boundary regs)) here = refl
boundary-progress progress here = absurd (cc (here))

-- asleep it is at no breakpoint, and where a fetch is gone over there is none
asleep-unbroken : (entry inside irq asleep broken : Bool)
    → (if entry then Rom else if inside then Cpu else if irq then Irq else if asleep then Idle
    else Cpu) ≡ Idle
    → ((not asleep || entry) && broken) ≡ false
asleep-unbroken entry inside irq asleep broken idle = grind arith

passed-unbroken : (asleep awake broken : Bool)
    → (not asleep && not broken && true) ≡ true → (awake && broken) ≡ false
passed-unbroken asleep awake broken passed = grind arith

unbroken-here : (stops : Stops) (asleep : Bool) (regs : Registers) (vector : Option ℕ)
    → IsProper regs
    → (boundary_kind regs vector ≡ Idle)
    ⊎ (goes_over stops asleep (Some (Fetch (even (pc_of regs)))) None ≡ true)
    → ((not (is_asleep regs) || (pc_of regs == ROM_ENTRY)) && has_breakpoint stops (pc_of regs))
    ≡ false
unbroken-here stops asleep [] vector proper opened = absurd proper
unbroken-here stops asleep (pc ∷ regs) vector proper (inl idle) =
    asleep-unbroken (pc == ROM_ENTRY) (in_rom pc) (is_some vector) (is_asleep (pc ∷ regs))
    (has_breakpoint stops pc) idle
unbroken-here stops asleep (pc ∷ regs) vector proper (inr quiet) =
    let same : even pc ≡ pc = omega (arith, proper) in
    passed-unbroken asleep (not (is_asleep (pc ∷ regs)) || (pc == ROM_ENTRY))
    (has_breakpoint stops pc) (rw same at quiet)

-- where a row may go on there is no breakpoint
pub unbroken-at : (stops : Stops) (asleep : Bool) (run : Run) (place : ℕ)
    → IsOpen (goes_over stops asleep) (logs_after run.start (play_to run place))
    → (sight_at run place).boundary ≡ true
    → is_broken_at stops (sight_at run place) ≡ false
unfolding sight_at logs_at
unbroken-at stops asleep run place opened here =
    let logs : Logs = logs_after run.start (play_to run place) in
    let is = boundary-progress logs.progress here in
    let proper : IsProper (last_registers logs.progress) =
    rw is at (logs_after-proper run.start (play_to run place)) in
    unbroken-here stops asleep (last_registers logs.progress) (vector_of logs) proper
    (rw is at (opened (last_registers logs.progress) is))

-- where each instruction counts, it sleeps
pub record SleepsOn (run : Run) (place : ℕ) : Type 0 where
  pub sleeps : Sleeps run place
  pub level : (sight_at run (suc place)).level ≡ (sight_at run place).level

idle-boundary : (progress : Progress) (vector : Option ℕ)
    → kind_of progress vector ≡ Idle → stands_at_boundary progress ≡ true
idle-boundary (Runs (Boundary regs)) vector idle = refl
idle-boundary progress vector idle = absurd (cc (idle))

-- it leads to the same boundary
sleeps-at : (run : Run) (place : ℕ) → place < most_steps
    → (step_at run place).kind ≡ Idle → (step_at run place).reset ≡ None
    → SleepsOn run place
unfolding sight_at step_sight
sleeps-at run place before idle unrefused =
    let logs : Logs = logs_at run place in
    let here : stands_at_boundary logs.progress ≡ true =
    idle-boundary logs.progress (vector_of (heard_at run place))
    (sym (step-kind run place) ∙ idle) in
    let is = boundary-progress logs.progress here in
    let next : (logs_at run (suc place)).progress ≡ Runs (Boundary (last_registers logs.progress)) =
    step-progress run place ∙ rw (unrefused, idle, is) refl in
    record {
      sleeps = record {
        from = here;
        idle = ap (λ (step : StepSight). step.kind) (next-there run place before) ∙ idle;
        to = rw next refl;
        same = rw next refl;
      };
      level = step-level run place ∙ rw next (level-boundary logs.progress _ logs.level);
    }

-- what a step does over which a row goes
pub record GoesBy (stops : Stops) (asleep : Bool) (run : Run) (place : ℕ) : Type 0 where
  pub unhit : hits_of (seen_at run place) stops.watches ≡ []
  pub silent : IsSilent run place
  pub sleeps : asleep ≡ true → SleepsOn run place

passed-none : (stops : Stops) (access : Option Access)
    → is_passed stops true access ≡ true → access ≡ None
passed-none stops None passed = refl
passed-none stops (Some access) passed = absurd (cc (passed))

pub goes-by : (stops : Stops) (asleep : Bool) (run : Run) (place : ℕ) → place < most_steps
    → run.events_at place ≡ []
    → IsQuiet (goes_over stops asleep) run.start (play_to run place)
    → GoesBy stops asleep run place
unfolding step_sight step_at logs_at
goes-by stops asleep run place before alone is =
    let entry : BusRecord = step_at run place in
    let silent : IsSilent run place =
    silent-there run place before (rw (← alone) at is.silent) in
    let flags = flags-next (goes_over stops asleep) run place alone is in
    let next = next-there run place before in
    let passed =
    and_parts (is_passed stops asleep entry.cpu) (is_passed stops asleep entry.dma)
    (rw (← alone) at is.made) in
    let unrefused : entry.reset ≡ None =
    sym (ap (λ (step : StepSight). step.refused) next) ∙ silent.unrefused in
    record {
      unhit = rw (
        unrefused,
        flags.0,
        flags.1,
        same-flag (exec_at run place),
        same-flag (aux_at run place),
        passed-unhit stops asleep entry.cpu passed.0,
        passed-unhit stops asleep entry.dma passed.1,
      )
          refl;
      silent = silent;
      sleeps = λ sleeps.
          let none = passed-none stops entry.cpu (rw sleeps at passed.0) in
          sleeps-at run place before (idle-where run place unrefused none) unrefused;
    }
