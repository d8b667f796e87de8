-- Bytes of a register that was written.
use Rattle.std.proofs.{Common.{◌≡◌, ℕ, ◌<◌, ◌+◌, ◌%◌, ◌/◌, List, [], ◌∷◌, arith}, lemmas.Bool.Decides.nat_tests}
use Rattle.word_arith.specs.{declared.size.Size.{Size, TheVariants.{Byte, Word}}}
use Rattle.part_definitions.specs.PeripheralRegister.{RegisterWrite, register_byte, register_word, byte_put}

-- what is put is a byte
byte_put-lt : (size : Size) (number place : ℕ) → byte_put size number place < 256
byte_put-lt Byte number place = grind arith
byte_put-lt Word number place = grind (arith, nat_tests)

-- a byte of a register is a byte
pub register_byte-lt : (writes : List RegisterWrite) (place : ℕ) → register_byte writes place < 256
register_byte-lt [] place = omega arith
register_byte-lt (write ∷ writes) place =
    grind (
      arith,
      nat_tests,
      byte_put-lt write.size write.number place,
      register_byte-lt writes place,
    )

-- the low and the high byte of a register's word
pub register_word-low : (writes : List RegisterWrite) (place : ℕ)
    → register_word writes place % 256 ≡ register_byte writes place
register_word-low writes place = omega (arith, register_byte-lt writes place)

pub register_word-high : (writes : List RegisterWrite) (place : ℕ)
    → register_word writes place / 256 ≡ register_byte writes (place + 1)
register_word-high writes place = omega (arith, register_byte-lt writes place)

pub ruleset register_bytes = (register_word-low, register_word-high)
