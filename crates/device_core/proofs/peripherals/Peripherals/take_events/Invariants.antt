use Rattle.std.proofs.Common.{take}
use Rattle.device_trace.specs.Peripherals.{Peripherals as PeripheralLogs, with_all_events}
use Rattle.device_core.specs.Bus.{PeripheralsStandFor}
use Rattle.device_core.proofs.peripherals.Peripherals.take_events.Given as goal

abbrev pub invariant-loop-event : goal.invariant-loop-event
invariant-loop-event l =
    (logs : PeripheralLogs)
    → PeripheralsStandFor l.initial.self logs
    → PeripheralsStandFor l.self (with_all_events logs (take l.event-index l.events))
