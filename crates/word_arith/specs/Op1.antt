-- Operations of one operand: result and flags, one line an operation.
use Rattle.std.specs.Prelude.{◌+◌, ◌*◌, ◌/◌, ◌%◌, ℕ, Bool, false, not, ◌==◌, if◌then◌else◌}
use Rattle.word_arith.specs.{declared.{size.Size.{Size, TheVariants.{Byte, Word}}, flags.Flags.Flags, op1.Op1.{Op1, TheVariants.{Rrc, Swpb, Rra, Sxt}}}, Number.{modulus, low_part, is_negative, bit_of, Word16}, Flags.result_flags}

-- half the operand, with a bit put in at the top; C is the bit that leaves, and V is 0
abbrev pub shift_of : Size → Word16 → Bool → ℕ × Flags
shift_of size dst top =
    let operand : ℕ = low_part size dst in
    let outcome : ℕ = operand / 2 + bit_of top * (modulus size / 2) in
    (outcome, result_flags size outcome (operand % 2 == 1) false)

-- the low byte with bit 7 copied to bits 8 to 15; C says that the word is not 0, and V is 0
abbrev pub extend_of : Word16 → ℕ × Flags
extend_of dst =
    let low : ℕ = low_part Byte dst in
    let outcome : ℕ = if is_negative Byte low then low + 0xFF00 else low in
    (outcome, result_flags Word outcome (not (outcome == 0)) false)

-- SWPB and SXT are of words, whatever the size
abbrev pub shifted_size : Op1 → Size → Size
shifted_size Rrc size = size
shifted_size Swpb size = Word
shifted_size Rra size = size
shifted_size Sxt size = Word

-- RRC shifts the carry in, RRA keeps the top bit, SWPB swaps the bytes, SXT extends the low byte
unfoldable pub shift_result : Op1 → Size → Word16 → Flags → ℕ × Flags
shift_result Rrc size dst flags = shift_of size dst flags.c
shift_result Swpb size dst flags = (dst % 256 * 256 + dst / 256, flags)
shift_result Rra size dst flags = shift_of size dst (is_negative size (low_part size dst))
shift_result Sxt size dst flags = extend_of dst
