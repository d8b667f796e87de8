-- A line of pieces is read word by word, and is as long as they are.
use Rattle.std.specs.{Prelude.{◌≡◌, ◌+◌, ◌++◌, ℕ, List, [], ◌∷◌, length}, Str.Lines.lines}
use Rattle.named_value.specs.Names.{IsPlainWord}
use Rattle.printed_lines.specs.Line.{with_pieces, line_of}
use Rattle.text_scan.specs.Word.{words_of}

-- each is a word of printed characters
abbrev pub ArePieces : List (List ℕ) → Type 0
ArePieces [] = Unit {0}
ArePieces (piece ∷ later) = IsPlainWord piece × ArePieces later

-- a line of pieces in front of a text: its first line, and the words of that
pub record IsFirstLine (keyword : List ℕ) (pieces : List (List ℕ)) (rest : List ℕ) : Type 0 where
  pub line : lines (line_of keyword pieces ++ rest) ≡ with_pieces keyword pieces ∷ lines rest
  pub words : words_of (with_pieces keyword pieces) ≡ keyword ∷ pieces

abbrev pub IsReadByWords : Type 0
IsReadByWords =
    (keyword : List ℕ) (pieces : List (List ℕ)) (rest : List ℕ)
    → ArePieces (keyword ∷ pieces) → IsFirstLine keyword pieces rest

-- the room of pieces, with a space before each
abbrev pub room : List (List ℕ) → ℕ
room [] = 0
room (piece ∷ later) = 1 + length piece + room later

abbrev pub HasRoom : Type 0
HasRoom =
    (keyword : List ℕ) (pieces : List (List ℕ))
    → length (line_of keyword pieces) ≡ length keyword + room pieces + 1
