-- Numbers in the bodies of packets: one to eight hexadecimal digits of either case.
use Rattle.std.specs.{Prelude.{ℕ, ◌==◌, ◌&&◌, Bool, List, Option, Some, None, length, nat_lt, if◌then◌else◌}, Char.is_digit, List.{after_first, before_first, list_all}, Str.Parse.digits_value}

abbrev pub are_hex_digits : List ℕ → Bool
are_hex_digits word = list_all (λ byte. is_digit byte 16) word

-- one digit or more, and no other byte
abbrev pub is_hex_word : List ℕ → Bool
is_hex_word word = nat_lt 0 (length word) && are_hex_digits word

abbrev pub number_of : List ℕ → Option ℕ
number_of word =
    if is_hex_word word
    then (if nat_lt 8 (length word) then None else Some (digits_value 16 word))
    else None

-- what stands before the first comma (44), and behind it: nothing, where there is none
abbrev pub is_comma : ℕ → Bool
is_comma byte = byte == 44

abbrev pub before_comma : List ℕ → List ℕ
before_comma text = before_first is_comma text

abbrev pub behind_comma : List ℕ → List ℕ
behind_comma text = after_first is_comma text

-- two numbers with a comma between them
abbrev pub both : Option ℕ → Option ℕ → Option (ℕ × ℕ)
both (Some first) (Some second) = Some (first, second)
both first second = None

abbrev pub two_numbers : List ℕ → Option (ℕ × ℕ)
two_numbers text = both (number_of (before_comma text)) (number_of (behind_comma text))
