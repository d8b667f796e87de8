use Rattle.std.proofs.Common.{◌≡◌, take}
use Rattle.outside_edge.specs.Sink.{Takes}
use Rattle.desk_cli.specs.StateText.{states_text}
use Rattle.desk_cli.proofs.state_line.put_states.Given as goal

abbrev pub invariant-loop-entry : goal.invariant-loop-entry
invariant-loop-entry g l = record {
  taken : Takes g.W.Sink.stands l.fn.sink l.sink (states_text (take l.entry-index l.entries));
  quiet : g.W.Sink.faults l.sink ≡ g.W.Sink.faults l.fn.sink;
}
