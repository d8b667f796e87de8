-- What a take gives of the bytes that a source has left.
use Rattle.std.specs.Prelude.{◌≡◌, ◌<◌, ◌≤◌, ℕ, List, [], ◌∷◌, ◌++◌, length, take, drop, Option, Some, None}
use Rattle.outside_edge.specs.Calls.{CallCounts}

-- the first n bytes of the piece are the next ones, which are left no more; n is 0 only at the end
pub record GivesBytes (left rest : List ℕ) (n : ℕ) (old new : List ℕ) : Type 0 where
  pub written : new ≡ take n left ++ drop n old
  pub held : n ≤ length left
  pub after : rest ≡ drop n left
  pub ends : n ≡ 0 → 0 < length old → left ≡ []

-- where they are told; whether they are stays as it is
abbrev pub Gives : Option (List ℕ) → Option (List ℕ) → ℕ → List ℕ → List ℕ → Type 0
Gives (Some left) (Some after) n old new = GivesBytes left after n old new
Gives None None n old new = Unit {0}
Gives left after n old new = ⊥

-- a source was asked once more, and gave so many bytes: each list of counts that it may have given
-- grows by one
abbrev pub IsAsked : {S : Type 0} → (S → List ℕ → Type 0) → S → S → ℕ → Type 0
IsAsked asked old new n = (before : List ℕ) → asked old before → asked new (n ∷ before)

-- A source in memory: the bytes that are left, how many it gave and how many it gives in one call,
-- and its counts.
pub record SourceInMemory : Type 0 where
  pub left : List ℕ
  pub given : ℕ
  pub most : ℕ
  pub counts : CallCounts

-- A source in memory that doesn't fail.
pub record SureSource : Type 0 where
  pub left : List ℕ
  pub given : ℕ
  pub most : ℕ
