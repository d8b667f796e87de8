-- The text of a line is read as that line.
use Rattle.std.specs.Prelude.{◌≡◌, ◌<◌, ◌≤◌, ◌^◌, ℕ, List, [], ◌∷◌, length, codes, IfSome, Ok}
use Rattle.device_types.specs.{declared.access.Access.{Access, TheVariants.{Fetch, Read, Write}}, Access.IsFormed, Bounds.AreWords}
use Rattle.printed_lines.specs.Line.{with_pieces}
use Rattle.text_scan.specs.Word.{words_of}
use Rattle.trace_files.specs.{declared.trace_line.TraceLine.TraceLine, LineGrammar.{trace_line_of, trace_of}, LineText.{line_pieces, file_text}}

-- the numbers of an access are words
abbrev pub HasWords : Access → Type 0
HasWords (Fetch place) = place < 2 ^ 16
HasWords (Read place size) = place < 2 ^ 16
HasWords (Write place size number) = (place < 2 ^ 16) × (number < 2 ^ 16)

-- an access as the bus allows it
pub record IsAllowed (access : Access) : Type 0 where
  pub formed : IsFormed access
  pub words : HasWords access

-- a line whose numbers are words and whose accesses are allowed
pub record IsPrintable (line : TraceLine) : Type 0 where
  pub pc : line.pc < 2 ^ 16
  pub cpu : IfSome line.cpu IsAllowed
  pub dma : IfSome line.dma IsAllowed
  pub word : line.word < 2 ^ 16
  pub value : line.value < 2 ^ 16
  pub dma_value : line.dma_value < 2 ^ 16
  pub bounds : AreWords line.bounds

abbrev pub LinesReadBack : Type 0
LinesReadBack =
    (step : ℕ) (line : TraceLine) → step < 2 ^ 32 → IsPrintable line
    → trace_line_of step (words_of (with_pieces (codes "t") (line_pieces step line))) ≡ Ok line

abbrev pub ArePrintable : List TraceLine → Type 0
ArePrintable [] = Unit {0}
ArePrintable (line ∷ before) = IsPrintable line × ArePrintable before

-- the text of a trace file is read as its lines
abbrev pub FilesReadBack : Type 0
FilesReadBack =
    (lines : List TraceLine) → ArePrintable lines → length lines ≤ 2 ^ 32
    → trace_of (file_text lines) ≡ Ok lines
