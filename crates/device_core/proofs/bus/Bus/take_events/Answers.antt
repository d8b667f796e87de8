use Rattle.device_trace.specs.Logs.{with_events}
use Rattle.device_core.proofs.bus.Bus.take_events.Goals as goal

pub returns-clause-stands : goal.returns-clause-stands
unfolding with_events
returns-clause-stands g c = λ start logs stands.
    record {
      same_memory = stands.same_memory;
      same_peripherals = c.take_events.ensures logs.peripherals stands.same_peripherals;
      same_monitors = stands.same_monitors;
      same_flag = stands.same_flag;
      same_last = stands.same_last;
    }
