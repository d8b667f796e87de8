use Rattle.std.proofs.Common.{◌≡◌, ◌++◌, ℕ, List, drop}
use Rattle.msp_asm.{specs.Statement.all_bytes, proofs.Lists.with_prefix}
use Rattle.msp_asm.proofs.statement_bytes.push_values.Given as goal

abbrev pub invariant-loop-value : goal.invariant-loop-value
invariant-loop-value l = record {
  prefix : List ℕ;
  added : l.bytes.items ≡ l.fn.bytes.items ++ prefix;
  so_far : all_bytes l.size l.values
      ≡ with_prefix prefix (all_bytes l.size (drop l.value-index l.values));
}
