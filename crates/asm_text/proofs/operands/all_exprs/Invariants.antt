use Rattle.std.{proofs.Common.{◌≡◌, length}, specs.{Prelude.map, Vec.Iter.{into_iter_items, into_iter_len}}}
use Rattle.asm_text.{specs.{Operand.all_of, Statement.{operand_expr, all_exprs}}, proofs.Behind.behind}
use Rattle.asm_text.proofs.operands.all_exprs.Given as goal

abbrev pub invariant-loop-operand : goal.invariant-loop-operand
invariant-loop-operand l = record {
  so_far : all_exprs l.fn.operands.items
      ≡ behind l.exprs (all_of (map operand_expr (into_iter_items l.operand-iterator)));
  counted : into_iter_len l.operand-iterator ≡ length (into_iter_items l.operand-iterator);
}
