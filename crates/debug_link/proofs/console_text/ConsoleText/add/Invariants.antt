use Rattle.std.proofs.Common.{◌≡◌, take}
use Rattle.debug_link.specs.Console.{HasAdded}
use Rattle.debug_link.proofs.console_text.ConsoleText.add.Given as goal

-- the text so far is added, and no fault was counted
abbrev pub invariant-loop-byte : goal.invariant-loop-byte
invariant-loop-byte g l = record {
  added : HasAdded g.W.Sink l.fn.packets l.packets l.fn.self (take l.byte-index l.text)
      l.self-inside.rest.items;
  quiet : g.W.Sink.faults l.packets.sink ≡ g.W.Sink.faults l.fn.packets.sink;
}
