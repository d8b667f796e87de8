-- Results are numbers of their size.
use Rattle.std.proofs.{Common.{ℕ, ◌<◌, bit_or, bit_xor, bit_and, arith}, lemmas.Nat.{or_lt, xor_lt, and_le_l}}
use Rattle.word_arith.specs.{declared.size.Size.{Size, TheVariants.{Byte, Word}}, Number.modulus}

pub and_fits : (size : Size) (left right : ℕ) → left < modulus size
    → bit_and left right < modulus size
and_fits size left right fits = omega (arith, and_le_l left right)

pub or_fits : (size : Size) (left right : ℕ) → left < modulus size → right < modulus size
    → bit_or left right < modulus size
or_fits Byte left right left_fits right_fits = or_lt 8 left right left_fits right_fits
or_fits Word left right left_fits right_fits = or_lt 16 left right left_fits right_fits

pub xor_fits : (size : Size) (left right : ℕ) → left < modulus size → right < modulus size
    → bit_xor left right < modulus size
xor_fits Byte left right left_fits right_fits = xor_lt 8 left right left_fits right_fits
xor_fits Word left right left_fits right_fits = xor_lt 16 left right left_fits right_fits

pub ruleset bits_fit = (and_fits, or_fits, xor_fits)
