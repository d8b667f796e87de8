-- Decimal sums of numbers in binary-coded decimal.
use Rattle.std.proofs.{Common.{◌≡◌, ℕ, zero, suc, ◌<◌, ◌+◌, ◌*◌, ◌/◌, ◌%◌, ◌^◌, Bool, true, false, nat_le, refl, ap, arith}, lemmas.Bool.Decides.nat_tests, Math.Nat.pow-suc}
use Rattle.word_arith.specs.{Number.bit_of, Decimal.{digit_of, coded_decimal, DecimalSumIsOfNumbers}}

-- what the places above the lowest add up to
higher_sum : (left right carry : ℕ) → carry < 2
    → left / 10 + right / 10 + bit_of (nat_le 10 (left % 10 + right % 10 + carry))
    ≡ (left + right + carry) / 10
higher_sum left right carry fits = grind (arith, nat_tests)

-- the lowest digit of the sum
lowest_digit : (left right carry : ℕ) → carry < 2
    → digit_of (left % 10 + right % 10 + carry) ≡ (left + right + carry) % 10
lowest_digit left right carry fits = grind (arith, nat_tests)

-- one place more or less
reaches : (power number : ℕ) → nat_le power (number / 10) ≡ nat_le (power * 10) number
reaches power number = grind (arith, nat_tests)

bit_of-lt : (carry : Bool) → bit_of carry < 2
bit_of-lt true = omega arith
bit_of-lt false = omega arith

first_carry : (left right : ℕ) (carry : Bool) → left < 1 → right < 1
    → carry ≡ nat_le 1 (left + right + bit_of carry)
first_carry left right true left_fits right_fits = grind (arith, nat_tests)
first_carry left right false left_fits right_fits = grind (arith, nat_tests)

pub decimal_sum_is_of_numbers : DecimalSumIsOfNumbers
decimal_sum_is_of_numbers zero left right carry left_fits right_fits =
    ap (λ (c : Bool). (0, c)) (first_carry left right carry left_fits right_fits)
decimal_sum_is_of_numbers (suc places) left right carry left_fits right_fits =
    let power : 10 ^ suc places ≡ 10 ^ places * 10 = pow-suc 10 places in
    let left_rest : left / 10 < 10 ^ places = omega arith in
    let right_rest : right / 10 < 10 ^ places = omega arith in
    let left_low : (coded_decimal places (left / 10) * 16 + left % 10) % 16 ≡ left % 10 =
    omega arith in
    let right_low : (coded_decimal places (right / 10) * 16 + right % 10) % 16 ≡ right % 10 =
    omega arith in
    let left_high : (coded_decimal places (left / 10) * 16 + left % 10) / 16
    ≡ coded_decimal places (left / 10) = omega arith in
    let right_high : (coded_decimal places (right / 10) * 16 + right % 10) / 16
    ≡ coded_decimal places (right / 10) = omega arith in
    let higher =
    decimal_sum_is_of_numbers places (left / 10) (right / 10)
    (nat_le 10 (left % 10 + right % 10 + bit_of carry)) left_rest right_rest in
    rw (
      left_low,
      right_low,
      left_high,
      right_high,
      higher,
      higher_sum left right (bit_of carry)
          (bit_of-lt carry),
      lowest_digit left right (bit_of carry)
          (bit_of-lt carry),
      reaches (10 ^ places) (left + right + bit_of carry),
      power,
    ) refl
