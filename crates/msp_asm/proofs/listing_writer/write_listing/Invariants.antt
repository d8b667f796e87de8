use Rattle.std.proofs.Common.{◌≡◌}
use Rattle.outside_edge.specs.Sink.{Takes}
use Rattle.mem_map.specs.Image.{byte_in}
use Rattle.msp_asm.specs.Listing.{place_after, items_below, listing_lines}
use Rattle.msp_asm.proofs.listing_writer.write_listing.Given as goal

abbrev pub invariant-loop-place : goal.invariant-loop-place
invariant-loop-place g l = record {
  free : l.free ≡ place_after (items_below (byte_in l.image) l.place);
  taken : Takes g.W.Sink.stands l.fn.sink l.sink
      (listing_lines (items_below (byte_in l.image) l.place));
  quiet : g.W.Sink.faults l.sink ≡ g.W.Sink.faults l.fn.sink;
}
