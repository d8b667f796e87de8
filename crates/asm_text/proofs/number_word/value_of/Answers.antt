use Rattle.asm_text.proofs.NumberSteps.{too_large}
use Rattle.asm_text.proofs.number_word.value_of.Goals as goal

pub returns-then-value-gt65535 : goal.returns-then-value-gt65535
returns-then-value-gt65535 c =
    let at = c.loop-digit in
    too_large c.args.radix c.args.digits.now at.digit-index at.value c.digit_value.result
    c.requires.least at.invariant c.loop-digit-test.true c.digit_value.ensures.value
    c.if-value-gt65535.true
