-- What stands before and behind the first byte of a sort.
use Rattle.std.{proofs.Common.{◌≡◌, ◌∙◌, ap, sym, ℕ, ◌+◌, arith, Bool, List, [], length, take, drop, take_all, drop_of_length-le}, specs.List.{after_first, before_first, position_or_len}}

pub before_is : (test : ℕ → Bool) (text : List ℕ) (at : ℕ) → position_or_len test text ≡ at
    → take at text ≡ before_first test text
before_is test text at is = ap (λ (n : ℕ). take n text) (sym is)

pub behind_is : (test : ℕ → Bool) (text : List ℕ) (at : ℕ) → position_or_len test text ≡ at
    → drop (at + 1) text ≡ after_first test text
behind_is test text at is = ap (λ (n : ℕ). drop (n + 1) text) (sym is)

-- where there is none
pub all_before : (test : ℕ → Bool) (text : List ℕ) (at : ℕ) → position_or_len test text ≡ at
    → at ≡ length text → text ≡ before_first test text
all_before test text at is none =
    sym (take_all at text (omega (arith, none))) ∙ before_is test text at is

pub none_behind : (test : ℕ → Bool) (text : List ℕ) (at : ℕ) → position_or_len test text ≡ at
    → at ≡ length text → [] ≡ after_first test text
none_behind test text at is none =
    sym (drop_of_length-le text (omega (arith, none))) ∙ behind_is test text at is
