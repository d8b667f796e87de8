use Rattle.std.proofs.Common.{arith, ◌++◌, ◌∷◌, [], ℕ, List, ap, codes}
use Rattle.hex.specs.Hex.{upper_digits, encode_upper}
use Rattle.hex_loader.proofs.WritePieces.{encode_with-more, encode_with-end}
use Rattle.hex_loader.proofs.record_line.hex_line.Goals as goal

pub loop-byte-preserved : goal.loop-byte-preserved
loop-byte-preserved c =
    let at = c.loop-byte in
    let first = c.push-in-loop-byte.ensures in
    let second = c.push-in-loop-byte-2.ensures in (
      omega (arith, at.invariant.0, first.len, second.len),
      rw (second.items, first.items, c.digit.ensures, c.digit-in-loop-byte.ensures)
          (encode_with-more upper_digits at.line.items c.args.bytes.now
          (codes ":" ++ encode_upper c.args.bytes.now)
          at.byte-index c.loop-byte-test.true at.invariant.1),
    )

pub returns : goal.returns
returns c =
    let at = c.loop-byte in
    let whole = encode_with-end upper_digits at.line.items c.args.bytes.now
    (codes ":" ++ encode_upper c.args.bytes.now)
    at.byte-index c.loop-byte-test.false at.invariant.1 in
    rw c.push-2.ensures.items (ap (λ (line : List ℕ). line ++ 10 ∷ []) whole)
