use Rattle.std.proofs.Common.{arith, ℕ, length-take, length-drop, ◌∙◌}
use Rattle.outside_edge.proofs.SinkLemmas.{takes_more}
use Rattle.outside_edge.proofs.sink.put_until_fault.Goals as goal

pub loop-at-preserved : goal.loop-at-preserved
loop-at-preserved g c = record {
  within = omega (arith, length-take {A = ℕ}, length-drop {A = ℕ}, c.in-Ok.ensures.within);
  taken = takes_more g.W.Sink.stands c.args.sink.now c.loop-at.sink c.put.new.self c.args.bytes.now
      c.loop-at.at c.in-Ok.count
      c.loop-at.invariant.taken c.in-Ok.ensures.taken;
  quiet = c.in-Ok.ensures.counts.quiet ∙ c.loop-at.invariant.quiet;
  untouched = λ none.
      absurd (omega (
        arith,
        none,
        c.in-Ok.ensures.some
            (omega (arith, length-take {A = ℕ}, length-drop {A = ℕ})),
      ));
}
