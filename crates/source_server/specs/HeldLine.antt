-- What is held of a line while it comes: its bytes, or that it is too long.
use Rattle.std.specs.{Prelude.{slice_index, ◌≢◌, ◌≡◌, ◌<◌, ◌++◌, ◌+◌, ℕ, List, length, nat_lt, if◌then◌else◌, Option, Some, None}, Str.Lines.strip_carriage_return}
use Rattle.source_server.specs.LineCut.{LineCut, with_all_bytes}

-- the longest line that is read, without its end
abbrev pub LONGEST_LINE : ℕ
LONGEST_LINE = 65536

-- so many bytes are held: the last of a line may be the CR of its end
abbrev pub MOST_HELD : ℕ
MOST_HELD = 65537

abbrev pub with_piece : Option (List ℕ) → List ℕ → Option (List ℕ)
with_piece None piece = None
with_piece (Some bytes) piece =
    if nat_lt MOST_HELD (length bytes + length piece) then None else Some (bytes ++ piece)

-- a line of at most the longest length
abbrev pub short_line : List ℕ → Option (List ℕ)
short_line line = if nat_lt LONGEST_LINE (length line) then None else Some line

-- the line whose LF has come, and the one at the end of the input
abbrev pub ended_line : Option (List ℕ) → Option (List ℕ)
ended_line None = None
ended_line (Some bytes) = short_line (strip_carriage_return bytes)

abbrev pub last_line : Option (List ℕ) → Option (List ℕ)
last_line None = None
last_line (Some bytes) = short_line bytes

-- what is held stands for the bytes since the last LF
abbrev pub HoldsRest : Option (List ℕ) → List ℕ → Type 0
HoldsRest None rest = MOST_HELD < length rest
HoldsRest (Some bytes) rest = rest ≡ bytes

-- what is held gives the line, and goes on to stand for the rest
abbrev pub IsHeld : Type 0
IsHeld =
    (held : Option (List ℕ)) (rest : List ℕ) → HoldsRest held rest
    → (ended_line held ≡ short_line (strip_carriage_return rest))
    × (last_line held ≡ short_line rest)
    × ((piece : List ℕ) → HoldsRest (with_piece held piece) (rest ++ piece))

-- where bytes are cut into pieces changes nothing, and a piece without LF (10) only lengthens the
-- rest
abbrev pub IsCutAnywhere : Type 0
IsCutAnywhere =
    (cut : LineCut) (first second : List ℕ)
    → with_all_bytes cut (first ++ second) ≡ with_all_bytes (with_all_bytes cut first) second

abbrev pub IsPlain : Type 0
IsPlain =
    (cut : LineCut) (piece : List ℕ)
    → ((k : ℕ) → k < length piece → slice_index piece k ≢ 10)
    → with_all_bytes cut piece ≡ record cut { rest = cut.rest ++ piece }
