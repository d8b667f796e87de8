use Rattle.asm_text.proofs.NumberSteps.{CountsTo}
use Rattle.asm_text.proofs.number_word.value_of.Given as goal

abbrev pub invariant-loop-digit : goal.invariant-loop-digit
invariant-loop-digit l = CountsTo l.radix l.digits l.digit-index l.value
