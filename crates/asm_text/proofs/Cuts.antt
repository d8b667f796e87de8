-- Where the first of some characters or tokens stands.
use Rattle.std.{proofs.{Common.{◌≡◌, ◌∙◌, ap, sym, refl, ℕ, ◌+◌, ◌<◌, ◌≤◌, arith, Bool, true, false, cond, not, List, [], ◌∷◌, Option, Some, None, length, take, drop}, lemmas.{Bool.ltb-false, List.{Sums.{prefix_len-le-length, fails_before_first}, Splits.{slice_split_first, slice_split_none}}}}, specs.{Prelude.nat_lt, Option.unwrap_or, List.{position_or_len, slice_split}}}
use Rattle.asm_text.specs.{declared.token.Token.{Token, TheVariants.Comma}, Operand.is_comma}

by_test : (n most : ℕ) (test : Bool) → nat_lt n most ≡ test → n ≤ most
    → unwrap_or (cond test (Some n) None) most ≡ n
by_test n most true is within = refl
by_test n most false is within = omega (arith, ltb-false n most is, within)

pub position-within : {X : Type 0} (p : X → Bool) (xs : List X) → position_or_len p xs ≤ length xs
position-within p xs = prefix_len-le-length (λ x. not (p x)) xs

-- a first place, or else the length
pub first_or_length : {X : Type 0} (p : X → Bool) (xs : List X) (place : Option ℕ)
    → place ≡ cond (nat_lt (position_or_len p xs) (length xs)) (Some (position_or_len p xs)) None
    → unwrap_or place (length xs) ≡ position_or_len p xs
first_or_length p xs place is =
    ap (λ (o : Option ℕ). unwrap_or o (length xs)) is
    ∙ by_test (position_or_len p xs) (length xs) (nat_lt (position_or_len p xs) (length xs)) refl
    (position-within p xs)

pub parts-cut : (tokens : List Token) (end : ℕ) → end ≡ position_or_len is_comma tokens
    → end < length tokens
    → slice_split is_comma tokens ≡ take end tokens ∷ slice_split is_comma (drop (end + 1) tokens)
parts-cut tokens end is below =
    let first : position_or_len is_comma tokens < length tokens = omega (arith, is, below) in
    slice_split_first is_comma tokens Comma first
    ∙ ap (λ (n : ℕ). take n tokens ∷ slice_split is_comma (drop (n + 1) tokens)) (sym is)

pub parts-uncut : (tokens : List Token) (end : ℕ) → end ≡ position_or_len is_comma tokens
    → end ≡ length tokens → slice_split is_comma tokens ≡ tokens ∷ []
parts-uncut tokens end is whole =
    slice_split_none is_comma tokens
    (λ k d below. fails_before_first is_comma tokens k d (omega (arith, is, whole, below)))
