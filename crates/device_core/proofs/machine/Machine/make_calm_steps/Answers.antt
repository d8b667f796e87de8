use Rattle.device_trace.specs.Trace.{logs_after}
use Rattle.device_core.proofs.machine.Machine.make_calm_steps.Goals as goal

pub returns-in-Some-clause-plays : goal.returns-in-Some-clause-plays
returns-in-Some-clause-plays g c = λ start play stands.
    c.make_calm_steps_in.ensures.plays start play stands
    (c.in-Some.ensures start (logs_after start play) stands.same.same_bus)

pub returns-in-Some-clause-quietly : goal.returns-in-Some-clause-quietly
returns-in-Some-clause-quietly g c = λ start play stands.
    c.make_calm_steps_in.ensures.quietly start play stands
    (c.in-Some.ensures start (logs_after start play) stands.same.same_bus)
