-- What is taken of a source, call by call.
use Rattle.std.specs.{Prelude.{◌≡◌, ◌<◌, ◌≤◌, ◌+◌, ◌++◌, ℕ, List, [], ◌∷◌, length, map, option_map, IfSome}, List.All}
use Rattle.outside_edge.specs.{Calls.Rose, declared.source.Source.Ghosts as SourceGhosts}

-- the most bytes that are taken of a source: 1 GiB
abbrev pub most_input : ℕ
most_input = 1073741824

-- pieces one behind the other, the newest first
abbrev pub joined_pieces : List (List ℕ) → List ℕ
joined_pieces [] = []
joined_pieces (piece ∷ pieces) = joined_pieces pieces ++ piece

-- a source gave these bytes: what was left begins with them, where it is told
pub record Gave {R : Type 0} (r : SourceGhosts R) (old new : R) (bytes : List ℕ) : Type 0 where
  pub told : r.left old ≡ option_map (λ rest. bytes ++ rest) (r.left new)
  pub count : r.given new ≡ r.given old + length bytes

-- of a source no more than the limit was taken, in these pieces, of which none is empty
pub record HasGiven {R : Type 0} (r : SourceGhosts R) (old new : R) (pieces : List (List ℕ))
    : Type 0 where
  pub gave : Gave r old new (joined_pieces pieces)
  pub whole : All (λ piece. 0 < length piece) pieces
  pub few : length (joined_pieces pieces) ≤ most_input

-- it gave these pieces, one a call, the newest first, and was asked no more
abbrev pub IsLeft : {R : Type 0} → SourceGhosts R → R → R → List (List ℕ) → Type 0
IsLeft r old new pieces =
    (before : List ℕ) → r.asked old before → r.asked new (map length pieces ++ before)

-- it gave these pieces and, before the limit, nothing at one more call, the last
abbrev pub IsOver : {R : Type 0} → SourceGhosts R → R → R → List (List ℕ) → Type 0
IsOver r old new pieces = IsLeft r old new ([] ∷ pieces)
    × (length (joined_pieces pieces) < most_input)

-- which was its end, or failed
abbrev pub IsAtEnd : {R : Type 0} → SourceGhosts R → R → R → List (List ℕ) → Type 0
IsAtEnd r old new pieces = IsOver r old new pieces × IfSome (r.left new) (λ left. left ≡ [])

abbrev pub IsAtFault : {R : Type 0} → SourceGhosts R → R → R → List (List ℕ) → Type 0
IsAtFault r old new pieces = IsOver r old new pieces × Rose (r.faults old) (r.faults new)

-- a source gave no more than the limit, told or not, and that much where this is so
pub record KeepsLimit {R : Type 0} (r : SourceGhosts R) (old new : R) (IsSpent : Type 0)
    : Type 0 where
  pub few : r.given new ≤ r.given old + most_input
  pub spent : IsSpent → r.given new ≡ r.given old + most_input
