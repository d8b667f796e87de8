use Rattle.std.proofs.Common.{◌≡◌, length}
use Rattle.asm_text.{specs.Operand.terms_of, proofs.Behind.behind}
use Rattle.asm_text.proofs.expr_reader.read_terms.Given as goal

abbrev pub invariant-loop-rest : goal.invariant-loop-rest
invariant-loop-rest l =
    terms_of l.fn.is_subtracted l.fn.tokens ≡ behind l.expr (terms_of l.sign l.rest)

abbrev pub decreases-loop-rest : goal.decreases-loop-rest
decreases-loop-rest l = length l.rest
