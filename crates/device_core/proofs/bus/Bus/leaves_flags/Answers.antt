use Rattle.std.proofs.Common.{sym}
use Rattle.device_trace.specs.Logs.{flags_of, logged_bounds}
use Rattle.device_core.proofs.bus.Bus.leaves_flags.Goals as goal

pub returns-then-stay_clear : goal.returns-then-stay_clear
returns-then-stay_clear g c = λ start logs entry stands is same.
    c.stay_clear.ensures (record { entry = entry; bounds = logged_bounds start logs }) logs.records
    stands.same_monitors is.same_pc
    (sym (c.er_min.ensures start.power (flags_of start logs) logs.memory stands.same_memory))
    c.if-stay_clear.true

pub returns-else-stay_clear : goal.returns-else-stay_clear
returns-else-stay_clear g c = λ start logs entry stands is same.
    rw (c.bounds.ensures start.power (flags_of start logs) logs.memory stands.same_memory) at
    (c.stay.ensures entry logs.records stands.same_monitors is same)
