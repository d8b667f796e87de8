-- Binary sums with carry and overflow.
use Rattle.std.specs.Prelude.{◌+◌, ◌%◌, ◌&&◌, ℕ, Bool, not, nat_le}
use Rattle.word_arith.specs.{declared.{size.Size.Size, flags.Flags.Flags}, Number.{modulus, is_negative, bit_of, alike}, Flags.result_flags}

-- two operands of one sign have a sum of the other
abbrev pub overflows : Size → ℕ → ℕ → ℕ → Bool
overflows size left right sum =
    alike (is_negative size left) (is_negative size right)
    && not (alike (is_negative size left) (is_negative size sum))

-- the remainder of the whole sum by 256 or 65,536; C is set where the whole sum reaches that
abbrev pub sum_of : Size → ℕ → ℕ → Bool → ℕ × Flags
sum_of size left right carry =
    let whole : ℕ = left + right + bit_of carry in
    let sum : ℕ = whole % modulus size in
    (sum, result_flags size sum (nat_le (modulus size) whole) (overflows size left right sum))
