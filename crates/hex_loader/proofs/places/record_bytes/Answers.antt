use Rattle.std.proofs.Common.{arith, sym, ◌∙◌, ◌-◌, ◌%◌}
use Rattle.hex_loader.{specs.HexText.record_bytes, proofs.WritePieces.{run-more, run-end}}
use Rattle.hex_loader.proofs.places.record_bytes.Goals as goal

pub returns-in_default : goal.returns-in_default
returns-in_default g c = λ image shows.
    let at = c.loop-offset in
    run-end image at.data.items (record_bytes image c.args.place) c.args.place at.offset
    (16 - c.args.place % 16)
    c.loop-offset-test.true (sym (c.byte.ensures image shows) ∙ c.in_default.is)
    (at.invariant.1 image shows)

pub loop-offset-preserved : goal.loop-offset-preserved
loop-offset-preserved g c =
    let at = c.loop-offset in (
      omega (arith, at.invariant.0, c.push.ensures.len),
      λ image shows.
          rw c.push.ensures.items
          (run-more image at.data.items (record_bytes image c.args.place) c.args.place at.offset
          (16 - c.args.place % 16) c.in-Some.byte
          c.loop-offset-test.true (sym (c.byte.ensures image shows) ∙ c.in-Some.is)
          (at.invariant.1 image shows)),
    )
