use Rattle.std.{proofs.Common.{◌≡◌, List}, specs.Prelude.map}
use Rattle.asm_text.{specs.{Operand.{parts_of, all_of}, Statement.is_readable}, proofs.Behind.behind}
use Rattle.asm_text.proofs.directive.read_ascii.Given as goal

abbrev pub invariant-loop-part : goal.invariant-loop-part
invariant-loop-part l =
    (prefix : List Unit) × (all_of (map is_readable (parts_of l.fn.tokens))
    ≡ behind prefix (all_of (map is_readable l.part-iterator)))
