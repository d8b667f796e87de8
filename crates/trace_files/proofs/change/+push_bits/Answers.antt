use Rattle.std.proofs.Common.{◌∙◌, ◌++◌, ℕ, List, length, ap, arith}
use Rattle.trace_files.proofs.{Binary.{last_digit, room_half, room_more, room_one, text_more, text_one}, change.+push_bits.Goals.{then-number-gt1, else-number-gt1}}
use Rattle.trace_files.proofs.change.+push_bits.Goals as goal

pub push_bits-requires : goal.push_bits-requires
push_bits-requires t c = (
  omega (arith, c.decreases, c.if-number-gt1.true),
  omega (
    arith,
    c.requires,
    room_half c.args.number c.if-number-gt1.true
        (omega (arith, c.ranges.number.fits)),
  ),
)

pub push-requires : goal.push-requires
push-requires t c =
    let before = c.args.text.now in
    let number = c.args.number in
    let text = c.if-number-gt1.text in
    elim c.if-number-gt1.branch [
      | then-number-gt1 w ↦ omega (
        arith,
        c.requires,
        c.flag_digit.ensures.len,
        room_more before text number w.if-number-gt1.true (omega (arith, c.ranges.number.fits))
            (w.text-is ∙ w.push_bits.ensures),
      )
      | else-number-gt1 w ↦ omega (
        arith,
        c.requires,
        c.flag_digit.ensures.len,
        ap length w.text-is,
        room_one before number w.if-number-gt1.false,
      )
    ]

pub returns : goal.returns
returns t c =
    let before = c.args.text.now in
    let number = c.args.number in
    let text = c.if-number-gt1.text in
    c.push.ensures.text
    ∙ ap (λ (digit : List ℕ). text ++ digit) c.flag_digit.ensures.digit
    ∙ elim c.if-number-gt1.branch [
      | then-number-gt1 w ↦ text_more before text number w.if-number-gt1.true
          (omega (arith, c.ranges.number.fits)) (w.text-is ∙ w.push_bits.ensures)
      | else-number-gt1 w ↦ ap (λ (front : List ℕ). front ++ last_digit number) w.text-is
          ∙ text_one before number w.if-number-gt1.false
    ]
