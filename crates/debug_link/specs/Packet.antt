-- A packet of GDB's remote serial protocol: `$`, a body, `#` and the body's sum as two hexadecimal
-- digits.
use Rattle.std.specs.Prelude.{ℕ, ◌==◌, ◌&&◌, ◌||◌, ◌/◌, ◌%◌, ◌++◌, Bool, List, [], ◌∷◌, codes, slice_index, sum}
use Rattle.hex.specs.Hex.{encode_lower, lower_digits, upper_digits}

-- the bytes of a body, added
abbrev pub packet_sum : List ℕ → ℕ
packet_sum body = sum body % 256

-- as it is put, with digits of lower case
abbrev pub packet_of : List ℕ → List ℕ
packet_of body = codes "$" ++ body ++ codes "#" ++ encode_lower (packet_sum body ∷ [])

-- one after the other
unfoldable pub packets_of : List (List ℕ) → List ℕ
packets_of [] = []
packets_of (body ∷ bodies) = packet_of body ++ packets_of bodies

-- whether this byte is the hexadecimal digit of a number below 16, in either case
abbrev pub is_digit_of : ℕ → ℕ → Bool
is_digit_of number byte =
    (byte == slice_index lower_digits number) || (byte == slice_index upper_digits number)

-- whether these are the two digits of a body's sum
abbrev pub are_check_digits : List ℕ → ℕ → ℕ → Bool
are_check_digits body first second =
    is_digit_of (packet_sum body / 16) first && is_digit_of (packet_sum body % 16) second
