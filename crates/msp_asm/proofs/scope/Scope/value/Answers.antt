use Rattle.std.proofs.{Common.{arith, rules, ◌≡◌, ◌∙◌, ap, ◌+ℤ◌}, lemmas.Int.{ints, to_z-of_z}}
use mir.Syntax.{w64, w128}
use mir.Val.{SFits, to_z, of_z}
use Rattle.asm_text.specs.Expr.{SignedTerm}
use Rattle.msp_asm.{specs.Value.{scope_in, term_value, with_sign}, proofs.ValueSum.sum_step}
use Rattle.msp_asm.proofs.scope.Scope.value.Goals as goal

pub loop-is_subtracted-preserved : goal.loop-is_subtracted-preserved
loop-is_subtracted-preserved c =
    let at = c.loop-is_subtracted in
    let items = c.as_slice-is_subtracted-items in
    let part = c.in_ok-term_value.field-0 in
    let item = c.loop-is_subtracted-item.is in
    let fits : SFits w64 c.in_ok-term_value.field-0 = search rules in
    let total = to_z w128 at.total-bits in
    let next = to_z w128 (of_z w128 (total +ℤ to_z w128 (of_z w128 c.with_sign.result))) in
    let sum : next ≡ total +ℤ c.with_sign.result = omega (arith, ints) in
    record {
      so_far = sum_step (scope_in c.args.self.now) c.args.expr.now items.result.now
          at.is_subtracted-index _ total part (to_z w64 (of_z w64 part)) c.with_sign.result next
          items.ensures (to_z-of_z w64 part fits) c.loop-is_subtracted-test.true
          at.invariant.so_far
          (c.in_ok-term_value.ensures
          ∙ ap (λ (t : SignedTerm). term_value (scope_in c.args.self.now) t.1) item)
          (c.with_sign.ensures.value
          ∙ ap (λ (t : SignedTerm). with_sign t.0 (to_z w64 (of_z w64 part))) item)
          sum;
      least = omega (arith, ints);
      most = omega (arith, ints);
    }
