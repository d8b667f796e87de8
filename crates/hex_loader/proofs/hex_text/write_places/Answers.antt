use Rattle.std.proofs.{Common.{◌≡◌, ◌∙◌, refl, arith}, lemmas.{List.append-nil, Result.err_from_is_err_and}}
use Rattle.outside_edge.proofs.SinkLemmas.{takes_both, puts_after}
use Rattle.hex_loader.{specs.HexText.{lines_below, line_at, end_line}, proofs.WritePieces.{lines_below-next, prefix_in_text}}
use Rattle.hex_loader.proofs.hex_text.write_places.Goals as goal

pub loop-place-init : goal.loop-place-init
unfolding lines_below
loop-place-init g c = record {
  taken = λ image shows earlier holds. rw append-nil holds;
  quiet = refl;
}

pub returns-in_err-write_line_at-clause-puts : goal.returns-in_err-write_line_at-clause-puts
returns-in_err-write_line_at-clause-puts g c =
    let at = c.loop-place in
    let p = err_from_is_err_and c.from_residual.result c.from_residual.ensures.1 in
    rw p.1 (λ image shows. record {
      all = tt;
      prefix = prefix_in_text g.W.Sink.stands image c.args.sink.now at.sink
          c.write_line_at.new.sink at.place c.loop-place-test.true
          (at.invariant.taken image shows) (c.in_err-write_line_at.ensures.puts image shows).prefix;
    })

pub loop-place-preserved : goal.loop-place-preserved
loop-place-preserved g c =
    let at = c.loop-place in record {
      taken = λ image shows.
          rw lines_below-next
          (takes_both g.W.Sink.stands c.args.sink.now at.sink c.write_line_at.new.sink
          (lines_below image at.place) (line_at image at.place)
          (at.invariant.taken image shows) (c.in_ok-write_line_at.ensures.puts image shows).all);
      quiet = c.in_ok-write_line_at.ensures.counts.quiet ∙ at.invariant.quiet;
    }

pub returns-clause-puts : goal.returns-clause-puts
returns-clause-puts g c = λ image shows.
    let at = c.loop-place in
    let all : at.place ≡ 65536 = omega (arith, c.loop-place-test.false, at.auto.place-end) in
    puts_after g.W.Sink.stands c.args.sink.now at.sink c.put_all.new.sink (lines_below image 65536)
    end_line c.put_all.result
    (rw all at (at.invariant.taken image shows)) c.put_all.ensures.puts
