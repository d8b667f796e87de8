-- The value of digits, one after another.
use Rattle.std.{proofs.{Common.{◌≡◌, ◌∙◌, ap, sym, refl, subst, ℕ, zero, suc, ◌+◌, ◌*◌, ◌<◌, ◌≤◌, arith, List, [], ◌∷◌, length, drop, get_or, drop-cons, add-one, None}, lemmas.Bool.lt-leb}, specs.{Char.digit_value, Str.Parse.digits_value_after}}
use Rattle.asm_text.specs.Word.{small_number}

-- further digits make no number less
after-least : (radix value : ℕ) (digits : List ℕ) → 1 ≤ radix
    → value ≤ digits_value_after radix value digits
after-least radix value [] some = omega arith
after-least zero value (c ∷ rest) some = absurd (omega (arith, some))
after-least (suc radix) value (c ∷ rest) some =
    let more : value ≤ value * suc radix + digit_value c = omega arith in
    omega (arith, more, after-least (suc radix) (value * suc radix + digit_value c) rest some)

-- how far digits were read
pub record CountsTo (radix : ℕ) (digits : List ℕ) (at value : ℕ) : Type 0 where
  pub so_far : digits_value_after radix 0 digits ≡ digits_value_after radix value (drop at digits)
  pub small : value ≤ 65535

pub next-value : (radix : ℕ) (digits : List ℕ) (at value : ℕ) → at < length digits
    → digits_value_after radix 0 digits ≡ digits_value_after radix value (drop at digits)
    → digits_value_after radix 0 digits
    ≡ digits_value_after radix (value * radix + digit_value (get_or digits at 0)) (drop (at + 1)
    digits)
next-value radix digits at value below so_far =
    so_far ∙ ap (digits_value_after radix value) (drop-cons digits at 0 below)
    ∙ ap (λ (n : ℕ). digits_value_after radix (value * radix + digit_value (get_or digits at 0))
    (drop n digits))
    (sym (add-one at))

-- a value past 65535 stays there
pub too_large : (radix : ℕ) (digits : List ℕ) (at value digit : ℕ) → 1 ≤ radix
    → CountsTo radix digits at value → at < length digits → digit ≡ digit_value (get_or digits at 0)
    → 65535 < value * radix + digit
    → None ≡ small_number (digits_value_after radix 0 digits)
too_large radix digits at value digit some to below is above =
    let here : ℕ = value * radix + digit_value (get_or digits at 0) in
    let past : 65535 < here = subst (λ (d : ℕ). 65535 < value * radix + d) is above in
    let all = next-value radix digits at value below to.so_far in
    let least = after-least radix here (drop (at + 1) digits) some in
    rw (lt-leb (digits_value_after radix 0 digits) 65535 (omega (arith, all, past, least))) refl
