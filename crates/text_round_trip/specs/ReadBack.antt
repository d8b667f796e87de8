-- What is written is read back.
use Rattle.std.specs.{Prelude.{◌≡◌, ◌<◌, ◌+◌, ◌++◌, ℕ, List, [], ◌∷◌, codes, Some, ◌^◌, length, Ok}, Option.option_to_list}
use Rattle.asm_text.specs.{declared.statement.Statement.Statement, Word.number_of}
use Rattle.text_round_trip.specs.StatementText.{Numerals, statement_text}
use Rattle.device_trace.specs.{Trace.{Play, logs_after}, Progress.next_pc_of, Start.Start, Text.{play_text, last_report}}
use Rattle.report_text.specs.ReportFile.{reports_of}
use Rattle.device_types.specs.Report.{ReportFields}

-- each number is written as a numeral of it: decimal, or hexadecimal, with zeros in front or not
abbrev pub AreNumerals : Numerals → Type 0
AreNumerals numerals =
    (number : ℕ) → number < 65536 → number_of (numerals number) ≡ Some number

-- a statement in the line of this number
abbrev pub at_line : ℕ → Statement → Statement
at_line number statement = record statement { line = number }

-- the text of statements, each in a line that ends with LF
abbrev pub source_text : Numerals → List Statement → List ℕ
source_text numerals [] = []
source_text numerals (statement ∷ rest) =
    statement_text numerals statement ++ codes "\n" ++ source_text numerals rest

-- statements in lines one behind the other
abbrev pub from_line : ℕ → List Statement → List Statement
from_line number [] = []
from_line number (statement ∷ rest) = at_line number statement ∷ from_line (number + 1) rest

-- The text of a play, read as a report file.

-- The reports of a play.

-- the reports that the steps of a play made, in the order of the steps
unfoldable pub play_reports : Start → Play → List ReportFields
play_reports start [] = []
play_reports start (events ∷ play) =
    play_reports start play ++ option_to_list (last_report start (events ∷ play))

-- the numbers of steps and of the end fit the lines of a play's text
pub record FitsItsLines (start : Start) (play : Play) : Type 0 where
  pub steps : length play < 2 ^ 32
  pub end : next_pc_of (logs_after start play).progress < 2 ^ 16

-- the file of its text has its reports
abbrev pub IsPlayReadBack : Start → Play → Type 0
IsPlayReadBack start play = reports_of (play_text start play) ≡ Ok (play_reports start play)
