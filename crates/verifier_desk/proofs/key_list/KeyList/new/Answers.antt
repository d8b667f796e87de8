use Rattle.std.proofs.Common.{arith}
use Rattle.verifier_desk.proofs.key_list.KeyList.new.Goals as goal

pub invariant_of-result : goal.invariant_of-result
invariant_of-result c = rw c.new.ensures.items (
  λ i j d within_i within_j same. absurd (omega (arith, within_i)),
  λ i d within. absurd (omega (arith, within)),
  λ i d within. absurd (omega (arith, within)),
)
