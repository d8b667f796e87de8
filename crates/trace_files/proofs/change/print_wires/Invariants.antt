use Rattle.std.{proofs.Common.{◌≡◌, take}, specs.Prelude.option_copied}
use Rattle.outside_edge.specs.Sink.{Takes}
use Rattle.trace_files.specs.WaveText.{wires_text}
use Rattle.trace_files.proofs.change.print_wires.Given as goal

-- the sink took the changes of the wires so far
abbrev pub invariant-loop-wire : goal.invariant-loop-wire
invariant-loop-wire g l = record {
  taken : Takes g.W.Sink.stands l.initial.sink l.sink
      (wires_text (option_copied l.last) l.now (take l.wire-index l.wires));
  quiet : g.W.Sink.faults l.sink ≡ g.W.Sink.faults l.initial.sink;
}
