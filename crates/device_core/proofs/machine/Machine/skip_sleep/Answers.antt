use Rattle.std.proofs.Common.{arith}
use Rattle.device_trace.specs.Trace.{logs_after}
use Rattle.device_core.proofs.Sleep.{all-asleep, plays-asleep}
use Rattle.device_core.proofs.machine.Machine.skip_sleep.Goals as goal

pub returns-in-Some-clause-plays : goal.returns-in-Some-clause-plays
returns-in-Some-clause-plays g c = λ start play stands.
    let logs = logs_after start play in
    let sleeps = c.in-Some.ensures start logs stands.same stands.same_stage in
    let bus = c.skip_sleep.ensures in
    plays-asleep c.args.self.now c.skip_sleep.new.self start play c.skip_sleep.result stands
    bus.last
    (bus.stands start logs stands.same.same_bus sleeps)
    (bus.asleep start logs c.skip_sleep.result stands.same.same_bus sleeps (omega arith))

pub returns-in-Some-clause-quietly : goal.returns-in-Some-clause-quietly
returns-in-Some-clause-quietly g c = λ quiet quietly start play stands.
    let logs = logs_after start play in
    let sleeps = c.in-Some.ensures start logs stands.same stands.same_stage in
    let bus = c.skip_sleep.ensures in
    all-asleep quiet start play c.skip_sleep.result quietly
    (λ some few. bus.of_sleep start logs some stands.same.same_bus sleeps few)
    (λ some few. bus.asleep start logs some stands.same.same_bus sleeps few)
