use Rattle.std.proofs.Common.{◌≡◌, ◌*◌, ◌^◌, drop, pos, neg_ℤ, ◌≤ℤ◌}
use Rattle.msp_asm.{specs.Value.{scope_in, value}, proofs.ValueSum.sum_with}
use Rattle.msp_asm.proofs.scope.Scope.value.Given as goal

abbrev pub invariant-loop-is_subtracted : goal.invariant-loop-is_subtracted
invariant-loop-is_subtracted l = record {
  so_far : value (scope_in l.self) l.expr
      ≡ sum_with l.total (value (scope_in l.self) (drop l.is_subtracted-index l.expr));
  least : neg_ℤ (pos (2 ^ 63 * l.is_subtracted-index)) ≤ℤ l.total;
  most : l.total ≤ℤ pos (2 ^ 63 * l.is_subtracted-index);
}
