use Rattle.std.proofs.Common.{◌≡◌, drop}
use Rattle.msp_asm.{specs.{Value.scope_in, Statement.values_of}, proofs.Lists.with_prefix}
use Rattle.msp_asm.proofs.scope.Scope.values.Given as goal

abbrev pub invariant-loop-expr : goal.invariant-loop-expr
invariant-loop-expr l =
    values_of (scope_in l.self) l.exprs
    ≡ with_prefix l.values.items (values_of (scope_in l.self) (drop l.expr-index l.exprs))
