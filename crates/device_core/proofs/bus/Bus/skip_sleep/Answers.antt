use Rattle.std.proofs.Common.{◌≡◌, ℕ, refl, sym, subst, arith}
use Rattle.mem_map.specs.Memory.{MemoryStandsFor}
use Rattle.part_definitions.specs.Memory.{ShownFlags}
use Rattle.device_trace.specs.{Logs.flags_of, Peripherals.Peripherals}
use Rattle.device_core.{specs.{Bus.{LastStandsFor, PeripheralsStandFor}, Sleep.{Sleeps, logs_idle}}, proofs.Sleep.{asleep, asleep-step, sleeps-on}}
use Rattle.device_core.proofs.bus.Bus.skip_sleep.Goals as goal

pub returns-then-can_skip_sleep-clause-stands : goal.returns-then-can_skip_sleep-clause-stands
returns-then-can_skip_sleep-clause-stands g c = λ start logs stands sleeps.
    let flag = g.G.TraceFlag.flag in
    let bus = c.args.self.now in
    let after = logs_idle start c.tick_idle.result logs in
    let rests = rw c.idle_signals.ensures at
    (c.can_skip_sleep.ensures start logs stands c.if-can_skip_sleep.true) in
    let on = sleeps-on flag bus start logs c.args.pc stands c.requires sleeps rests
    c.tick_idle.result
    (λ some few. c.tick_idle.ensures.requests logs.peripherals some stands.same_peripherals few) in
    record {
      same_memory =
          subst
          (λ (flags : ShownFlags). MemoryStandsFor bus.memory start.power flags after.memory)
          (sym on.same_flags)
          (subst
          (λ writes. MemoryStandsFor bus.memory start.power (flags_of start logs) writes)
          (sym on.same_memory) stands.same_memory);
      same_peripherals =
          subst (λ (parts : Peripherals). PeripheralsStandFor c.tick_idle.new.self parts)
          (sym on.same_peripherals)
          (c.tick_idle.ensures.stands logs.peripherals stands.same_peripherals);
      same_monitors = on.same_monitors;
      same_flag = stands.same_flag;
      same_last =
          subst (λ last. LastStandsFor start last after.records) (sym c.requires) on.same_last;
    }

pub returns-then-can_skip_sleep-clause-asleep : goal.returns-then-can_skip_sleep-clause-asleep
returns-then-can_skip_sleep-clause-asleep g c = λ start logs steps stands sleeps few.
    let rests = rw c.idle_signals.ensures at
    (c.can_skip_sleep.ensures start logs stands c.if-can_skip_sleep.true) in
    asleep g.G.TraceFlag.flag c.args.self.now start logs c.args.pc stands c.requires sleeps rests
    steps
    (λ some fewer. c.tick_idle.ensures.requests logs.peripherals some stands.same_peripherals
    (omega arith))

pub returns-else-can_skip_sleep-clause-asleep : goal.returns-else-can_skip_sleep-clause-asleep
returns-else-can_skip_sleep-clause-asleep g c = λ start logs steps stands sleeps few.
    let none : steps ≡ 0 = omega arith in
    subst (λ (some : ℕ). Sleeps start logs (logs_idle start some logs)) (sym none)
    (record {
      same_progress = refl;
      same_last = subst (λ last. LastStandsFor start last logs.records) c.requires stands.same_last;
      same_decision = λ decision same. same;
      same_level = refl;
    })

pub returns-then-can_skip_sleep-clause-of_sleep : goal.returns-then-can_skip_sleep-clause-of_sleep
returns-then-can_skip_sleep-clause-of_sleep g c = λ start logs steps stands sleeps few.
    let rests = rw c.idle_signals.ensures at
    (c.can_skip_sleep.ensures start logs stands c.if-can_skip_sleep.true) in
    asleep-step g.G.TraceFlag.flag c.args.self.now start logs c.args.pc stands c.requires sleeps
    rests steps
    (λ some fewer. c.tick_idle.ensures.requests logs.peripherals some stands.same_peripherals
    (omega arith))
