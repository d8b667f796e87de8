use Rattle.std.proofs.Common.{◌&&◌, nat_eq, get_or, rules, ap, sym, ◌∙◌}
use Rattle.hmac_core.proofs.SameBytes.{bytes_eq-take}
use Rattle.hmac_core.proofs.byte_comparison.same_bytes.Goals as goal

pub loop-i-preserved : goal.loop-i-preserved
loop-i-preserved c =
    ap (λ same. same && nat_eq (get_or c.args.left.now c.loop-i.i 0)
    (get_or c.args.right.now c.loop-i.i 0)) c.loop-i.invariant
    ∙ sym (bytes_eq-take c.args.left.now c.args.right.now c.loop-i.i (search rules) (search rules))
