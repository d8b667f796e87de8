-- Sums of binary-coded decimals, one nibble a decimal place.
use Rattle.std.specs.Prelude.{◌+◌, ◌*◌, ◌/◌, ◌%◌, ℕ, zero, suc, Bool, nat_lt, nat_le, if◌then◌else◌, ◌≡◌, ◌^◌, ◌<◌}
use Rattle.word_arith.specs.{declared.size.Size.{Size, TheVariants.{Byte, Word}}, Number.bit_of}

-- a sum below 10 is the digit; one of 10 or more is corrected by 6, and carries
abbrev pub digit_of : ℕ → ℕ
digit_of sum = if nat_lt sum 10 then sum else (sum + 6) % 16

-- the lowest `places` decimal places of two numbers and a carry, and the carry out of them
abbrev pub decimal_places : ℕ → ℕ → ℕ → Bool → ℕ × Bool
decimal_places zero left right carry = (0, carry)
decimal_places (suc places) left right carry =
    let sum : ℕ = left % 16 + right % 16 + bit_of carry in
    let higher : ℕ × Bool = decimal_places places (left / 16) (right / 16) (nat_le 10 sum) in
    (higher.0 * 16 + digit_of sum, higher.1)

-- a byte has two decimal places, a word has four
abbrev pub decimal_sum : Size → ℕ → ℕ → Bool → ℕ × Bool
decimal_sum Byte src dst carry = decimal_places 2 src dst carry
decimal_sum Word src dst carry = decimal_places 4 src dst carry

-- Numbers in binary-coded decimal, and what a decimal sum is of them.

-- the lowest `places` decimal digits of a number, a nibble a digit
abbrev pub coded_decimal : ℕ → ℕ → ℕ
coded_decimal zero number = 0
coded_decimal (suc places) number = coded_decimal places (number / 10) * 16 + number % 10

-- of two numbers in binary-coded decimal the decimal sum is the code of their sum, and it carries
-- where their sum needs a further digit
abbrev pub DecimalSumIsOfNumbers : Type 0
DecimalSumIsOfNumbers =
    (places left right : ℕ) (carry : Bool)
    → left < 10 ^ places
    → right < 10 ^ places
    → decimal_places places (coded_decimal places left) (coded_decimal places right) carry ≡ (
      coded_decimal places (left + right + bit_of carry),
      nat_le (10 ^ places) (left + right + bit_of carry),
    )
