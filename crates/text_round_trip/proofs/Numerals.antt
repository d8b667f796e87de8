-- Numerals are words, and which numbers they are.
use Rattle.std.{proofs.{Common.{◌≡◌, ◌∙◌, ap, sym, refl, subst, ℕ, zero, suc, ◌+◌, ◌*◌, ◌/◌, ◌%◌, ◌<◌, ◌≤◌, arith, Bool, true, false, cond, List, [], ◌∷◌, ◌++◌, inl, inr, length, take, drop, Option, Some, None}, lemmas.{Bool.{and_parts, and_from, or_left, or_right, or_cases, false≢true, le-leb, leb-true, lt-ltb, cases_lt, eqb-true}, Fmt.decimal_is_IsNumeral, List.{take-append-drop, Folds.list_all-append}, Slice.Eq.bytes_eq-Decides, Str.Parse.digit_from_value}}, specs.{Prelude.{◌==◌, ◌&&◌, ◌||◌, codes, nat_le, nat_lt, slice_index}, Char.{is_ascii_alphanumeric, is_ascii_digit, is_ascii_hexdigit, digit_value}, Fmt.decimal, Int.is_in_range, List.list_all, Str.{bytes_eq, Parse.{AllDigits, IsNumeral, digits_value}}}}
use Rattle.hex.specs.Hex.{lower_digits, encode_with}
use Rattle.printed_lines.specs.Line.{byte_digits}
use Rattle.asm_text.specs.{declared.token.Token.TheVariants.Number, Word.{is_word_character, is_name_character, small_number, numeral, number_of}, Token.{number_piece, word_piece}}
use Rattle.msp_asm.specs.ItemText.{word_text}
use Rattle.text_round_trip.proofs.Falls.{FallsInto, word-falls}

-- digits of either base are characters of words

in_wider : (low high more c : ℕ) → high ≤ more → is_in_range low high c ≡ true
    → is_in_range low more c ≡ true
in_wider low high more c within is =
    let parts = and_parts (nat_le low c) (nat_le c high) is in
    and_from (nat_le low c) (nat_le c more) parts.0
    (le-leb c more (omega (arith, leb-true c high parts.1, within)))

alphanumeric-word : (c : ℕ) → is_ascii_alphanumeric c ≡ true → is_word_character c ≡ true
alphanumeric-word c is =
    or_left (is_name_character c) (c == 46) (or_left (is_ascii_alphanumeric c) (c == 95) is)

digit-word : (c : ℕ) → is_ascii_digit c ≡ true → is_word_character c ≡ true
digit-word c is =
    alphanumeric-word c (or_left (is_ascii_digit c || is_in_range 65 90 c) (is_in_range 97 122 c)
    (or_left (is_ascii_digit c) (is_in_range 65 90 c) is))

letter-word : (c : ℕ) → is_in_range 65 70 c ≡ true → is_word_character c ≡ true
letter-word c is =
    alphanumeric-word c (or_left (is_ascii_digit c || is_in_range 65 90 c) (is_in_range 97 122 c)
    (or_right (is_ascii_digit c) (is_in_range 65 90 c) (in_wider 65 70 90 c (omega arith) is)))

small_letter-word : (c : ℕ) → is_in_range 97 102 c ≡ true → is_word_character c ≡ true
small_letter-word c is =
    alphanumeric-word c (or_right (is_ascii_digit c || is_in_range 65 90 c) (is_in_range 97 122 c)
    (in_wider 97 102 122 c (omega arith) is))

hex_digit-word : (c : ℕ) → is_ascii_hexdigit c ≡ true → is_word_character c ≡ true
hex_digit-word c is =
    elim (or_cases (is_ascii_digit c || is_in_range 65 70 c) (is_in_range 97 102 c) is) [
      | inl prefix ↦ elim (or_cases (is_ascii_digit c) (is_in_range 65 70 c) prefix) [
        | inl digit ↦ digit-word c digit
        | inr letter ↦ letter-word c letter
      ]
      | inr letter ↦ small_letter-word c letter
    ]

all-word : (test : ℕ → Bool) → ((c : ℕ) → test c ≡ true → is_word_character c ≡ true)
    → (word : List ℕ) → list_all test word ≡ true → list_all is_word_character word ≡ true
all-word test each [] all = refl
all-word test each (c ∷ word) all =
    let parts = and_parts (test c) (list_all test word) all in
    and_from (is_word_character c) (list_all is_word_character word) (each c parts.0)
    (all-word test each word parts.1)

-- a word that is a number
pub record IsNumber (word : List ℕ) : Type 0 where
  pub all : list_all is_word_character word ≡ true
  pub some : 0 < length word
  pub digit : is_ascii_digit (slice_index word 0) ≡ true

digits-some : (base : ℕ) (test : ℕ → Bool) (digits : List ℕ) (n : ℕ) (outcome : Bool)
    → nat_lt 0 (length digits) && list_all test digits ≡ outcome
    → cond outcome (small_number (digits_value base digits)) None ≡ Some n
    → (nat_lt 0 (length digits) ≡ true) × (list_all test digits ≡ true)
digits-some base test digits n false is answer = absurd (cc answer)
digits-some base test digits n true is answer =
    and_parts (nat_lt 0 (length digits)) (list_all test digits) is

hexadecimal : (word : List ℕ) (n : ℕ) → take 2 word ≡ codes "0x"
    → numeral 16 is_ascii_hexdigit (drop 2 word) ≡ Some n → IsNumber word
hexadecimal word n prefix answer =
    let parts = digits-some 16 is_ascii_hexdigit (drop 2 word) n
    (nat_lt 0 (length (drop 2 word)) && list_all is_ascii_hexdigit (drop 2 word)) refl answer in
    let whole : codes "0x" ++ drop 2 word ≡ word =
    ap (λ (first : List ℕ). first ++ drop 2 word) (sym prefix) ∙ take-append-drop 2 word in
    subst (λ (w : List ℕ). IsNumber w) whole record {
      all = all-word is_ascii_hexdigit hex_digit-word (drop 2 word) parts.1;
      some = omega arith;
      digit = refl;
    }

decimals : (word : List ℕ) (n : ℕ) → numeral 10 is_ascii_digit word ≡ Some n → IsNumber word
decimals [] n answer = absurd (cc answer)
decimals (c ∷ word) n answer =
    let parts = digits-some 10 is_ascii_digit (c ∷ word) n
    (nat_lt 0 (length (c ∷ word)) && list_all is_ascii_digit (c ∷ word)) refl answer in record {
      all = all-word is_ascii_digit digit-word (c ∷ word) parts.1;
      some = omega arith;
      digit = (and_parts (is_ascii_digit c) (list_all is_ascii_digit word) parts.1).0;
    }

by_prefix : (word : List ℕ) (n : ℕ) (is_hex : Bool) → bytes_eq (take 2 word) (codes "0x") ≡ is_hex
    → cond is_hex (numeral 16 is_ascii_hexdigit (drop 2 word)) (numeral 10 is_ascii_digit word)
    ≡ Some n → IsNumber word
by_prefix word n true is answer =
    hexadecimal word n ((bytes_eq-Decides (take 2 word) (codes "0x")).0 is) answer
by_prefix word n false is answer = decimals word n answer

pub number-is : (word : List ℕ) (n : ℕ) → number_of word ≡ Some n → IsNumber word
number-is word n answer = by_prefix word n (bytes_eq (take 2 word) (codes "0x")) refl answer

pub number-falls : (word : List ℕ) (n : ℕ) → number_of word ≡ Some n
    → FallsInto word (Number n ∷ [])
unfolding word_piece
number-falls word n answer =
    let is = number-is word n answer in
    word-falls word (Number n) is.all is.some
    (rw is.digit (ap (λ (outcome : Option ℕ). number_piece outcome (length word)) answer))

-- the numerals of a listing
record IsHexDigit (c d : ℕ) : Type 0 where
  pub digit : is_ascii_hexdigit c ≡ true
  pub value : digit_value c ≡ d

-- a test that each number below another passes
unfoldable pub all_below : (ℕ → Bool) → ℕ → Bool
all_below test zero = true
all_below test (suc n) = test n && all_below test n

pub below-passes : (test : ℕ → Bool) (n : ℕ) → all_below test n ≡ true → (d : ℕ) → d < n
    → test d ≡ true
unfolding all_below
below-passes test zero all d below = absurd (omega arith)
below-passes test (suc n) all d below =
    let parts = and_parts (test n) (all_below test n) all in
    elim (cases_lt d n) [
      | inl less ↦ below-passes test n parts.1 d less
      | inr most ↦ let same : n ≡ d = omega arith in ap test (sym same) ∙ parts.0
    ]

abbrev is_hex_digit : ℕ → Bool
is_hex_digit d =
    is_ascii_hexdigit (slice_index lower_digits d)
    && (digit_value (slice_index lower_digits d) == d)

hex-digit : (d : ℕ) → d < 16 → IsHexDigit (slice_index lower_digits d) d
unfolding all_below
hex-digit d below =
    let parts = and_parts (is_ascii_hexdigit (slice_index lower_digits d))
    (digit_value (slice_index lower_digits d) == d) (below-passes is_hex_digit 16 refl d below) in
    record {
      digit = parts.0;
      value = eqb-true (digit_value (slice_index lower_digits d)) d parts.1;
    }

four-digits : (a b c d x y z w : ℕ) → IsHexDigit a x → IsHexDigit b y → IsHexDigit c z
    → IsHexDigit d w
    → numeral 16 is_ascii_hexdigit (a ∷ b ∷ c ∷ d ∷ [])
    ≡ small_number ((((0 * 16 + x) * 16 + y) * 16 + z) * 16 + w)
four-digits a b c d x y z w first second third fourth =
    rw (
      first.digit,
      second.digit,
      third.digit,
      fourth.digit,
      first.value,
      second.value,
      third.value,
      fourth.value,
    ) refl

small : (n : ℕ) → n < 65536 → small_number n ≡ Some n
small n below = rw (le-leb n 65535 (omega arith)) refl

pub word_text-number : (word : ℕ) → word < 65536 → number_of (word_text word) ≡ Some word
unfolding encode_with
word_text-number word below =
    let whole : (((0 * 16 + word / 256 / 16) * 16 + word / 256 % 16) * 16 + word % 256 / 16) * 16
    + word % 256 % 16 ≡ word = omega arith in
    four-digits (slice_index lower_digits (word / 256 / 16))
    (slice_index lower_digits (word / 256 % 16)) (slice_index lower_digits (word % 256 / 16))
    (slice_index lower_digits (word % 256 % 16)) (word / 256 / 16) (word / 256 % 16)
    (word % 256 / 16) (word % 256 % 16) (hex-digit (word / 256 / 16) (omega arith))
    (hex-digit (word / 256 % 16) (omega arith)) (hex-digit (word % 256 / 16) (omega arith))
    (hex-digit (word % 256 % 16) (omega arith)) ∙ ap small_number whole ∙ small word below

two-digits : (a b x y : ℕ) → IsHexDigit a x → IsHexDigit b y
    → numeral 16 is_ascii_hexdigit (a ∷ b ∷ []) ≡ small_number ((0 * 16 + x) * 16 + y)
two-digits a b x y first second =
    rw (first.digit, second.digit, first.value, second.value) refl

pub byte_text-number : (byte : ℕ) → byte < 256
    → number_of (codes "0x" ++ byte_digits byte) ≡ Some byte
unfolding encode_with
byte_text-number byte below =
    let whole : (0 * 16 + byte / 16) * 16 + byte % 16 ≡ byte = omega arith in
    two-digits (slice_index lower_digits (byte / 16)) (slice_index lower_digits (byte % 16))
    (byte / 16) (byte % 16) (hex-digit (byte / 16) (omega arith))
    (hex-digit (byte % 16) (omega arith)) ∙ ap small_number whole ∙ small byte (omega arith)

-- decimals
decimal-digits : (digits : List ℕ) → AllDigits 10 digits → list_all is_ascii_digit digits ≡ true
decimal-digits [] each = refl
decimal-digits (c ∷ digits) each =
    let within = digit_from_value c each.0 in
    and_from (is_ascii_digit c) (list_all is_ascii_digit digits)
    (and_from (nat_le 48 c) (nat_le c 57) (le-leb 48 c within.0) (le-leb c 57 within.1))
    (decimal-digits digits each.1)

no_prefix : (digits : List ℕ) (is_hex : Bool) → list_all is_ascii_digit digits ≡ true
    → bytes_eq (take 2 digits) (codes "0x") ≡ is_hex → bytes_eq (take 2 digits) (codes "0x") ≡ false
no_prefix digits false all is = is
no_prefix digits true all is =
    let both : (list_all is_ascii_digit (take 2 digits) && list_all is_ascii_digit (drop 2 digits))
    ≡ true =
    sym (list_all-append is_ascii_digit (take 2 digits) (drop 2 digits))
    ∙ ap (list_all is_ascii_digit) (take-append-drop 2 digits) ∙ all in
    let prefix = (and_parts (list_all is_ascii_digit (take 2 digits))
    (list_all is_ascii_digit (drop 2 digits)) both).0 in
    absurd (false≢true (ap (list_all is_ascii_digit)
    (sym ((bytes_eq-Decides (take 2 digits) (codes "0x")).0 is)) ∙ prefix))

read-decimal : (word : List ℕ) (n : ℕ) → IsNumeral 10 word → digits_value 10 word ≡ n → n < 65536
    → number_of word ≡ Some n
read-decimal word n is value below =
    let all = decimal-digits word is.1 in
    rw (
      no_prefix word (bytes_eq (take 2 word) (codes "0x")) all refl,
      lt-ltb 0 (length word) is.0,
      all,
      value,
    ) (small n below)

pub decimal-number : (n : ℕ) → n < 65536 → number_of (decimal n) ≡ Some n
decimal-number n below =
    let is = decimal_is_IsNumeral n (omega arith) in read-decimal (decimal n) n is.0 is.1 below
