-- The commands of the program.
use Rattle.std.specs.Prelude.{◌≡◌, ℕ, List, [], ◌∷◌, Option, Some, None, bytes_eq, codes, if◌then◌else◌}

-- the arguments after the name of this command
abbrev pub arguments_behind : List ℕ → List (List ℕ) → Option (List (List ℕ))
arguments_behind command [] = None
arguments_behind command (name ∷ arguments) =
    if bytes_eq name command then Some arguments else None

-- these arguments are of no command
abbrev pub HasNoCommand : List (List ℕ) → Type 0
HasNoCommand arguments =
    (arguments_behind (codes "desk") arguments ≡ None)
    × (arguments_behind (codes "states") arguments ≡ None)
    × (arguments_behind (codes "found") arguments ≡ None)
    × (arguments_behind (codes "remember") arguments ≡ None)
    × (arguments_behind (codes "move") arguments ≡ None)
    × (arguments_behind (codes "adopt") arguments ≡ None)
