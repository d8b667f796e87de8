-- A text in a piece of memory, with a number beside it, and what is answered of it.
use Rattle.std.specs.Prelude.{◌≡◌, ◌<◌, ◌≤◌, ◌⊎◌, ℕ, List, length, take}
use Rattle.input_files.specs.{declared.status.Status.{Status, TheVariants.{Done, Rejected, WriteFault, Memory}}}

-- the piece begins with this text, which has so many bytes
abbrev pub Shows : List ℕ → List ℕ → ℕ → Type 0
Shows text piece count =
    (count ≡ length text) × (count ≤ length piece) × (take count piece ≡ text)

-- the piece is full of the first bytes of this text, which is longer and has so many
abbrev pub ShowsFirst : List ℕ → List ℕ → ℕ → Type 0
ShowsFirst text piece count =
    (count ≡ length text) × (length piece < count) × (piece ≡ take (length piece) text)

-- a text was shown with this answer, where the piece has room for it
abbrev pub IsShown : List ℕ → Status → List ℕ → ℕ → Status → Type 0
IsShown text status piece count told =
    ((told ≡ status) × Shows text piece count)
    ⊎ ((told ≡ WriteFault) × ShowsFirst text piece count)

-- what is told of a run that ended so, of whose text these bytes were kept
abbrev pub IsTold : Status → List ℕ → List ℕ → ℕ → Status → Type 0
IsTold Done text piece count told = IsShown text Done piece count told
IsTold Rejected text piece count told = IsShown text Rejected piece count told
IsTold WriteFault text piece count told = told ≡ Memory
IsTold status text piece count told = told ≡ status
