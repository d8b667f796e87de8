use Rattle.std.proofs.Common.{sym, subst}
use Rattle.device_trace.specs.Logs.{flags_of}
use Rattle.device_core.specs.FlagsKept.{MonitorsStandFor}
use Rattle.device_core.proofs.bus.Bus.try_clone.Goals as goal

pub returns-clause-stands : goal.returns-clause-stands
returns-clause-stands g c = λ start logs stands.
    record {
      same_memory = c.in_ok-try_clone.ensures start.power (flags_of start logs) logs.memory
          stands.same_memory;
      same_peripherals = c.in_ok-try_clone-2.ensures logs.peripherals stands.same_peripherals;
      same_monitors =
          subst (λ monitors. MonitorsStandFor g.G.TraceFlag.flag monitors logs.records)
          (sym c.duplicate.ensures) stands.same_monitors;
      same_flag = stands.same_flag;
      same_last = stands.same_last;
    }
