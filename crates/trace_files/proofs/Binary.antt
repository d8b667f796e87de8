-- The binary digits of a number.
use Rattle.std.{proofs.{Common.{zero, suc, ◌≡◌, ◌∙◌, ℕ, ◌+◌, ◌/◌, ◌%◌, ◌^◌, ◌<◌, ◌≤◌, Bool, true, false, List, [], ◌∷◌, ◌++◌, ⊎_elim, append_assoc, length, length-append, eq-eqb, ne_eqb, refl, sym, ap, arith}, lemmas.Bool.cases_lt}, specs.{Prelude.◌==◌, Fmt.{digit_glyph, digits, digits_onto}}}
use Rattle.printed_lines.specs.Line.{flag_digit}

abbrev spell : ℕ → ℕ → List ℕ → List ℕ
spell count number after = digits_onto count 2 false number after

abbrev glyph : ℕ → ℕ
glyph number = digit_glyph false (number % 2)

-- the digit of the ones
abbrev pub last_digit : ℕ → List ℕ
last_digit number = flag_digit (number % 2 == 1)

glyph-last : (number : ℕ) → glyph number ∷ [] ≡ last_digit number
glyph-last number = ⊎_elim
    (λ low. let even : number % 2 ≡ 0 = omega (arith, low) in rw even refl)
    (λ high. let odd : number % 2 ≡ 1 = omega (arith, high) in rw odd refl)
    (cases_lt (number % 2) 1)

spell-last : (count number : ℕ) (after : List ℕ) → number < 2
    → spell (suc count) number after ≡ glyph number ∷ after
spell-last count number after small =
    rw (eq-eqb (number / 2) 0 (omega (arith, small))) refl

spell-next : (count number : ℕ) (after : List ℕ) → 2 ≤ number
    → spell (suc count) number after ≡ spell count (number / 2) (glyph number ∷ after)
spell-next count number after large =
    rw (ne_eqb (number / 2) 0 (λ none. omega (arith, large, none))) refl

spell-append : (count number : ℕ) (after : List ℕ)
    → spell count number after ≡ spell count number [] ++ after
spell-append zero number after = refl
spell-append (suc count) number after = ⊎_elim
    (λ small. spell-last count number after small
    ∙ ap (λ (text : List ℕ). text ++ after) (sym (spell-last count number [] small)))
    (λ large. spell-next count number after large
    ∙ spell-append count (number / 2) (glyph number ∷ after)
    ∙ sym (append_assoc (spell count (number / 2) []) (glyph number ∷ []) after)
    ∙ ap (λ (text : List ℕ). text ++ after)
    (sym (spell-next count number [] large
    ∙ spell-append count (number / 2) (glyph number ∷ []))))
    (cases_lt number 2)

-- more room than the digits need changes nothing
spell-room : (count number : ℕ) (after : List ℕ) → number < 2 ^ suc count
    → spell (suc count) number after ≡ spell (suc (suc count)) number after
spell-room zero number after small =
    spell-last zero number after (omega (arith, small))
    ∙ sym (spell-last (suc zero) number after (omega (arith, small)))
spell-room (suc count) number after fits = ⊎_elim
    (λ small. spell-last (suc count) number after small
    ∙ sym (spell-last (suc (suc count)) number after small))
    (λ large. spell-next (suc count) number after large
    ∙ spell-room count (number / 2) (glyph number ∷ after) (omega (arith, fits))
    ∙ sym (spell-next (suc (suc count)) number after large))
    (cases_lt number 2)

pub binary_one : (number : ℕ) → number < 2 → digits 2 false number ≡ last_digit number
unfolding digits
binary_one number small = spell-last 63 number [] small ∙ glyph-last number

pub binary_more : (number : ℕ) → 2 ≤ number → number < 2 ^ 63
    → digits 2 false number ≡ digits 2 false (number / 2) ++ last_digit number
unfolding digits
binary_more number large fits =
    spell-next 63 number [] large
    ∙ spell-room 62 (number / 2) (glyph number ∷ []) (omega (arith, fits))
    ∙ spell-append 64 (number / 2) (glyph number ∷ [])
    ∙ ap (λ (last : List ℕ). spell 64 (number / 2) [] ++ last) (glyph-last number)

pub length-flag : (flag : Bool) → length (flag_digit flag) ≡ 1
length-flag true = refl
length-flag false = refl

length-more : (number : ℕ) → 2 ≤ number → number < 2 ^ 63
    → length (digits 2 false number) ≡ length (digits 2 false (number / 2)) + 1
length-more number large fits =
    ap length (binary_more number large fits)
    ∙ length-append (digits 2 false (number / 2)) (last_digit number)
    ∙ ap (λ (one : ℕ). length (digits 2 false (number / 2)) + one)
    (length-flag (number % 2 == 1))

length-one : (number : ℕ) → number < 2 → length (digits 2 false number) ≡ 1
length-one number small =
    ap length (binary_one number small) ∙ length-flag (number % 2 == 1)

length-binary-le : (count number : ℕ) → number < 2 ^ suc count → number < 2 ^ 63
    → length (digits 2 false number) ≤ suc count
length-binary-le zero number small fits =
    omega (arith, length-one number (omega (arith, small)))
length-binary-le (suc count) number small fits = ⊎_elim
    (λ one. omega (arith, length-one number one))
    (λ more. omega (
      arith,
      length-more number more fits,
      length-binary-le count (number / 2) (omega (arith, small)) (omega (arith, fits)),
    ))
    (cases_lt number 2)

pub few_digits : (number : ℕ) → number < 2 ^ 32 → length (digits 2 false number) ≤ 32
few_digits number small = length-binary-le 31 number small (omega (arith, small))

-- a text that ends in the digits of the half has room for one more
pub room_more : (before text : List ℕ) (number : ℕ) → 1 < number → number < 2 ^ 63
    → text ≡ before ++ digits 2 false (number / 2)
    → length text + 1 ≡ length before + length (digits 2 false number)
room_more before text number large fits is =
    omega (
      arith,
      length-more number (omega (arith, large)) fits,
      ap length is ∙ length-append before (digits 2 false (number / 2)),
    )

pub room_one : (before : List ℕ) (number : ℕ) → number ≤ 1
    → length before + 1 ≡ length before + length (digits 2 false number)
room_one before number small = omega (arith, length-one number (omega (arith, small)))

-- and with it ends in the digits of the number
pub text_more : (before text : List ℕ) (number : ℕ) → 1 < number → number < 2 ^ 63
    → text ≡ before ++ digits 2 false (number / 2)
    → text ++ last_digit number ≡ before ++ digits 2 false number
text_more before text number large fits is =
    ap (λ (front : List ℕ). front ++ last_digit number) is
    ∙ append_assoc before (digits 2 false (number / 2)) (last_digit number)
    ∙ ap (λ (end : List ℕ). before ++ end)
    (sym (binary_more number (omega (arith, large)) fits))

pub text_one : (before : List ℕ) (number : ℕ) → number ≤ 1
    → before ++ last_digit number ≡ before ++ digits 2 false number
text_one before number small =
    ap (λ (end : List ℕ). before ++ end) (sym (binary_one number (omega (arith, small))))

pub room_half : (number : ℕ) → 1 < number → number < 2 ^ 63
    → length (digits 2 false (number / 2)) ≤ length (digits 2 false number)
room_half number large fits =
    omega (arith, length-more number (omega (arith, large)) fits)
