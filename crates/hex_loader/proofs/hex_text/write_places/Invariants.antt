use Rattle.std.proofs.Common.{◌≡◌, ℕ, Option}
use Rattle.outside_edge.specs.Sink.{Takes}
use Rattle.hex_loader.specs.HexText.{lines_below}
use Rattle.hex_loader.proofs.hex_text.write_places.Given as goal

abbrev pub invariant-loop-place : goal.invariant-loop-place
invariant-loop-place g l = record {
  taken : (image : ℕ → Option ℕ) → g.P.Places.shows l.bytes image
      → Takes g.W.Sink.stands l.fn.sink l.sink (lines_below image l.place);
  quiet : g.W.Sink.faults l.sink ≡ g.W.Sink.faults l.fn.sink;
}
