use Rattle.std.proofs.Common.{◌≤◌, take}
use Rattle.debug_link.specs.Writing.{HasPut}
use Rattle.device_debug.specs.Telling.{bodies_of}
use Rattle.device_debug.proofs.waiting_lines.WaitingLines.tell.Given as goal

-- the texts so far were put
abbrev pub invariant-loop-text : goal.invariant-loop-text
invariant-loop-text g l = record {
  put : HasPut g.W.Sink l.fn.packets l.packets
      (bodies_of (take l.text-index l.text-items));
  rises : g.W.Sink.faults l.fn.packets.sink ≤ g.W.Sink.faults l.packets.sink;
}
