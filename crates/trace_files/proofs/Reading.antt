-- How a reader takes a text, line by line.
use Rattle.std.{proofs.{Common.{◌≡◌, ◌∙◌, ℕ, ◌+◌, ◌*◌, ◌^◌, ◌<◌, ◌≤◌, true, false, List, [], ◌∷◌, ◌++◌, Option, Some, None, Result, ⊎_elim, append_assoc, length, ne_eqb, le-leb, lt-ltb, refl, ap, subst, arith}, lemmas.{Bool.{and_from, cases_lt}, Fmt.digits_is_IsNumeral, Str.{digit_value_digit, Parse.digit_from_value}}}, specs.{Prelude.{nat_le, nat_lt, codes}, Char.digit_value, Fmt.{decimal, digits}, List.{join_with_byte, list_all}, Result.result_ok, Str.{bytes_eq, Lines.lines, Parse.{AllDigits, digits_value_after}}}}
use Rattle.text_scan.{specs.declared.fault_kind.FaultKind.FaultKind, proofs.{FirstLine.lines-line, PlainWords.{ArePlain, decimal_of-decimal, plain-decimal, printed-join, printed_bounds, words_of-join}}}
use Rattle.named_value.specs.Names.{is_plain}
use Rattle.trace_files.{specs.{WaveText.{digits_text, time_text}, WaveReader.{WavePoint, after_words, and_then, last_values, number_after, points_after, value_in, with_time}}, proofs.Fitting.IsShort}

-- after these lines of text the points are others
abbrev pub Reads : List ℕ → List WavePoint → List WavePoint → Type 0
Reads text points next =
    (rest : List ℕ) → points_after points (lines (text ++ rest)) ≡ points_after next (lines rest)

pub reads_nothing : (points : List WavePoint) → Reads [] points points
reads_nothing points rest = refl

pub reads_both : (one two : List ℕ) (points mid next : List WavePoint)
    → Reads one points mid → Reads two mid next → Reads (one ++ two) points next
reads_both one two points mid next first second rest =
    ap (λ (text : List ℕ). points_after points (lines text)) (append_assoc one two rest)
    ∙ first (two ++ rest)
    ∙ second rest

-- a line of printed words, ended by LF
pub reads_line : (words : List (List ℕ)) (points next : List WavePoint)
    → ArePlain words → 0 < length (join_with_byte 32 words)
    → after_words words points ≡ Some next
    → Reads (join_with_byte 32 words ++ 10 ∷ []) points next
unfolding points_after
reads_line words points next plain some is rest =
    let line : List ℕ = join_with_byte 32 words in
    ap (λ (text : List ℕ). points_after points (lines text)) (append_assoc line (10 ∷ []) rest)
    ∙ ap (points_after points)
    (lines-line line rest some (printed_bounds line (printed-join words plain)))
    ∙ ap
    (λ (told : List (List ℕ)). and_then (after_words told points)
    (λ more. points_after more (lines rest)))
    (words_of-join words plain)
    ∙ ap
    (λ (read : Option (List WavePoint)). and_then read
    (λ more. points_after more (lines rest)))
    is

-- the lines around the first values
pub reads_dumpvars : (points : List WavePoint) → Reads (codes "$dumpvars\n") points points
reads_dumpvars points =
    reads_line (codes "$dumpvars" ∷ []) points points ((omega arith, refl), tt) (omega arith) refl

pub reads_end : (points : List WavePoint) → Reads (codes "$end\n") points points
reads_end points =
    reads_line (codes "$end" ∷ []) points points ((omega arith, refl), tt) (omega arith) refl

-- a time begins a point
abbrev pub point_at : ℕ → List WavePoint → WavePoint
point_at step points = record { time = step; values = last_values points }

pub reads_time : (step : ℕ) (points : List WavePoint) → step < 2 ^ 32
    → Reads (time_text step) points (point_at step points ∷ points)
reads_time step points small =
    reads_line ((35 ∷ decimal step) ∷ []) points (point_at step points ∷ points)
    ((omega arith, (plain-decimal step (omega (arith, small))).1), tt)
    (omega arith)
    (ap (λ (read : Result ℕ FaultKind). with_time (result_ok read) points)
    (decimal_of-decimal 4294967295 step (omega (arith, small)) (omega arith)))

-- the value of binary digits

digit_bounds : (digit : ℕ) → digit_value digit < 2 → (48 ≤ digit) × (digit < 50)
digit_bounds digit small =
    let range = digit_from_value digit (omega (arith, small)) in
    let value : digit_value digit + 48 ≡ digit = digit_value_digit digit range in
    (omega (arith, value), omega (arith, value, small))

number_after-value : (digits : List ℕ) (number : ℕ) → AllDigits 2 digits
    → number_after number digits ≡ Some (digits_value_after 2 number digits)
number_after-value [] number all = refl
number_after-value (digit ∷ digits) number all =
    let bounds = digit_bounds digit all.0 in
    let IsRead : ℕ → Type 0 = λ first.
    number_after number (first ∷ digits) ≡ Some (digits_value_after 2 number (first ∷ digits)) in
    ⊎_elim
    (λ low. let zero_digit : 48 ≡ digit = omega (arith, low, bounds.0) in
    subst IsRead zero_digit
    (ap (λ (value : ℕ). number_after value digits) (omega arith)
    ∙ number_after-value digits (number * 2 + 0) all.1))
    (λ high. let one_digit : 49 ≡ digit = omega (arith, high, bounds.1) in
    subst IsRead one_digit
    (ap (λ (value : ℕ). number_after value digits) (omega arith)
    ∙ number_after-value digits (number * 2 + 1) all.1))
    (cases_lt digit 49)

other-z : (digits : List ℕ) → AllDigits 2 digits → bytes_eq digits (codes "z") ≡ false
other-z [] all = refl
other-z (digit ∷ digits) all =
    let bounds = digit_bounds digit all.0 in
    rw (ne_eqb digit 122 (λ same. omega (arith, bounds.1, same))) refl

plain-digits : (digits : List ℕ) → AllDigits 2 digits → list_all is_plain digits ≡ true
plain-digits [] all = refl
plain-digits (digit ∷ digits) all =
    let bounds = digit_bounds digit all.0 in
    and_from (is_plain digit) (list_all is_plain digits)
    (and_from (nat_le 33 digit) (nat_lt digit 127)
    (le-leb 33 digit (omega (arith, bounds.0))) (lt-ltb digit 127 (omega (arith, bounds.1))))
    (plain-digits digits all.1)

pub plain_value : (value : Option ℕ) → IsShort value → list_all is_plain (digits_text value) ≡ true
plain_value None short = refl
plain_value (Some number) short =
    plain-digits (digits 2 false number)
    (digits_is_IsNumeral 2 false (omega arith) (omega arith) number (omega (arith, short))).0.1

value_in-number : (digits : List ℕ) (number : ℕ) → 0 < length digits → AllDigits 2 digits
    → digits_value_after 2 0 digits ≡ number → value_in digits ≡ Some (Some number)
value_in-number [] number some all is = absurd (omega (arith, some))
value_in-number (digit ∷ digits) number some all is =
    rw (other-z (digit ∷ digits) all, number_after-value (digit ∷ digits) 0 all)
    (ap (λ (value : ℕ). Some (Some value)) is)

pub value_in_digits : (value : Option ℕ) → IsShort value → value_in (digits_text value) ≡ Some value
value_in_digits None short = refl
value_in_digits (Some number) short =
    let numeral = digits_is_IsNumeral 2 false (omega arith) (omega arith) number
    (omega (arith, short)) in
    value_in-number (digits 2 false number) number numeral.0.0 numeral.0.1 numeral.1
