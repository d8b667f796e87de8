use Rattle.std.proofs.Common.{◌<◌, arith}
use Rattle.debug_session.proofs.Decoded.{digit_at, fits, one_more, value_more}
use Rattle.debug_session.proofs.number.value_of.Goals as goal

pub digit_value-requires : goal.digit_value-requires
digit_value-requires c =
    digit_at c.args.digits.now c.loop-digit.digit-index c.requires.digits
    c.loop-digit-test.true

pub overflow_mul-value : goal.overflow_mul-value
overflow_mul-value c =
    let at = c.loop-digit in
    let few : at.digit-index < 8 = omega (arith, c.requires.short, c.loop-digit-test.true) in
    omega (arith, fits at.value 0 at.digit-index at.invariant.small (omega arith) few)

pub overflow_add-value : goal.overflow_add-value
overflow_add-value c =
    let at = c.loop-digit in
    let few : at.digit-index < 8 = omega (arith, c.requires.short, c.loop-digit-test.true) in
    let small = c.digit_value.ensures.small in
    omega (
      arith,
      fits at.value c.digit_value.result at.digit-index at.invariant.small small few,
    )

pub loop-digit-preserved : goal.loop-digit-preserved
loop-digit-preserved c =
    let at = c.loop-digit in
    record {
      read = value_more c.args.digits.now at.digit-index at.value c.digit_value.result
          c.loop-digit-test.true at.invariant.read c.digit_value.ensures.value;
      small = one_more at.value c.digit_value.result at.digit-index at.invariant.small
          c.digit_value.ensures.small;
    }
