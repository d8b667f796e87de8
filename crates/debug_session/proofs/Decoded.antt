-- What is read where digits are decoded into room of the right size.
use Rattle.std.{proofs.{Common.{◌≡◌, ◌∙◌, refl, ℕ, ◌/◌, List, length, ap, sym, eq-eqb, Option, Some, None, Result, Ok, Err, ◌+◌, ◌*◌, ◌^◌, ◌<◌, ◌≤◌, arith, take, get_or, true}, Math.Nat.{pow-le-pow_right, pow-suc}, lemmas.{Bool.and_parts, List.Sums.AllPass-from_list_all, Int.Digits.digits_value_more}}, specs.{Prelude.{MatchResult, nat_lt}, Char.{digit_value, is_digit}, Str.Parse.digits_value}}
use Rattle.hex.specs.{Hex.{decode_of, decode_sized}, declared.error.FromHexError.FromHexError}
use Rattle.text_scan.specs.Word.{words_of}
use Rattle.debug_session.specs.{Request.{request_in, request_of, request_where}, declared.request.Request.Request, Number.{are_hex_digits, is_hex_word}}

pub decoded : (digits : List ℕ) (count : ℕ) → count ≡ length digits / 2
    → decode_sized digits count ≡ decode_of digits
decoded digits count is = rw (eq-eqb (length digits / 2) count (sym is)) refl

-- by what is decoded: its request, or none
by_cases : (new : List ℕ) (r : Result Unit FromHexError) (d : Result (List ℕ) FromHexError)
    (answer : Option Request)
    → MatchResult d (λ bytes. (r ≡ Ok tt) × (new ≡ bytes)) (λ e. r ≡ Err e)
    → MatchResult r (λ _. answer ≡ Some (request_of (words_of new))) (λ _. answer ≡ None)
    → answer ≡ request_where d
by_cases new r (Ok bytes) answer writes is =
    (rw writes.0 at is) ∙ ap (λ (text : List ℕ). Some (request_of (words_of text))) writes.1
by_cases new r (Err error) answer writes is = rw writes at is

pub read : (digits new : List ℕ) (count : ℕ) (r : Result Unit FromHexError)
    (answer : Option Request)
    → MatchResult (decode_sized digits count) (λ bytes. (r ≡ Ok tt) × (new ≡ bytes))
    (λ e. r ≡ Err e)
    → MatchResult r (λ _. answer ≡ Some (request_of (words_of new))) (λ _. answer ≡ None)
    → count ≡ length digits / 2 → answer ≡ request_in digits
read digits new count r answer writes is same =
    by_cases new r (decode_sized digits count) answer writes is
    ∙ ap request_where (decoded digits count same)

-- Lemmas on numbers of a few hexadecimal digits.

-- one digit more
pub one_more : (value digit count : ℕ) → value < 16 ^ count → digit ≤ 15
    → value * 16 + digit < 16 ^ (count + 1)
one_more value digit count h small = grind (arith, pow-suc 16 count)

-- eight digits fit 32 bits
pub fits : (value digit count : ℕ) → value < 16 ^ count → digit ≤ 15 → count < 8
    → value * 16 + digit < 2 ^ 32
fits value digit count h small few =
    let below : count + 1 ≤ 8 = omega (arith, few) in
    let room : 16 ^ (count + 1) ≤ 16 ^ 8 = pow-le-pow_right {n = 16} (omega arith) below in
    let more = one_more value digit count h small in
    omega (arith, room, more)

-- a byte of a word is a digit
pub digit_at : (word : List ℕ) (i : ℕ) → is_hex_word word ≡ true → i < length word
    → is_digit (get_or word i 0) 16 ≡ true
digit_at word i h below =
    let all = (and_parts (nat_lt 0 (length word)) (are_hex_digits word) h).1 in
    AllPass-from_list_all (λ byte. is_digit byte 16) word all i 0 below

-- the value of one digit more
pub value_more : (word : List ℕ) (i value digit : ℕ) → i < length word
    → value ≡ digits_value 16 (take i word) → digit ≡ digit_value (get_or word i 0)
    → value * 16 + digit ≡ digits_value 16 (take (i + 1) word)
value_more word i value digit below answer is =
    omega (arith, answer, is, digits_value_more 16 word i below)
