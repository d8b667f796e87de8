-- Operands of 8 or 16 bits as whole numbers.
use Rattle.std.specs.Prelude.{◌-◌, ◌/◌, ◌%◌, ℕ, Bool, true, false, nat_le, not, if◌then◌else◌}
use Rattle.word_arith.specs.declared.size.Size.{Size, TheVariants.{Byte, Word}}

-- a word of 16 bits, as a number
abbrev pub Word16 : Type 0
Word16 = ℕ

-- how many numbers there are of a size: an operand is below it
abbrev pub modulus : Size → ℕ
modulus Byte = 256
modulus Word = 65536

-- the operand of a size in a word: the low byte, or the whole word
abbrev pub low_part : Size → Word16 → ℕ
low_part size word = word % modulus size

-- all bits inverted
abbrev pub inverse : Size → ℕ → ℕ
inverse size operand = modulus size - 1 - operand

-- the top bit is set, so that the operand stands for a negative number
abbrev pub is_negative : Size → ℕ → Bool
is_negative size operand = nat_le (modulus size / 2) operand

-- a flag as a number
abbrev pub bit_of : Bool → ℕ
bit_of true = 1
bit_of false = 0

-- two signs agree
abbrev pub alike : Bool → Bool → Bool
alike left right = if left then right else not right
