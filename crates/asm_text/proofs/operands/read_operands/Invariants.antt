use Rattle.std.{proofs.Common.◌≡◌, specs.Prelude.map}
use Rattle.asm_text.{specs.Operand.{operand_of, operands_of, all_of}, proofs.Behind.behind}
use Rattle.asm_text.proofs.operands.read_operands.Given as goal

abbrev pub invariant-loop-part : goal.invariant-loop-part
invariant-loop-part l =
    operands_of l.fn.tokens ≡ behind l.operands (all_of (map operand_of l.part-iterator))
