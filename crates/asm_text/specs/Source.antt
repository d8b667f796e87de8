-- Sources: what each line says, and the first fault.
use Rattle.std.specs.Prelude.{ℕ, List, Option, map, Result, Ok, ◌≡◌, ◌⊎◌, ◌++◌, ◌∷◌, IsUtf8, Err}
use Rattle.text_scan.specs.{declared.{fault_at.FaultAt.FaultAt, fault_kind.FaultKind.FaultKind}, LineFold.{text_lines, utf8_of}, Reader.{◌>>=◌, in_line}}
use Rattle.asm_text.specs.{declared.{body.Body.Body, statement.Statement.Statement}, Operand.all_of, Statement.labelled_body, Token.tokens_of}

abbrev pub statement_in_line : ℕ → (Option (List ℕ) × Body) → Statement
statement_in_line line content = record { line = line; label = content.0; body = content.1 }

-- what a line says
unfoldable pub line_statement : (number : ℕ) → List ℕ → Result Statement FaultKind
line_statement number line = do
  tokens ← tokens_of line
  content ← labelled_body tokens
  Ok (statement_in_line number content)

abbrev pub statement_of : ℕ × List ℕ → Result Statement FaultAt
statement_of line = in_line line.0 (line_statement line.0 line.1)

-- the statements of a source, one for each line, or its first fault, of which `Utf8` comes before
-- all others
unfoldable pub source_of : List ℕ → Result (List Statement) FaultAt
source_of text = do
  sound ← utf8_of text
  all_of (map statement_of (text_lines text))

-- What a source's text means, said of its lines as a whole.

-- what a line says, read alone
abbrev pub lone_statement : ℕ × List ℕ → Result Statement FaultKind
lone_statement line = line_statement line.0 line.1

-- a text is a source: it is UTF-8, and each of its lines says its statement
pub record IsSource (text : List ℕ) (statements : List Statement) : Type 0 where
  pub utf8 : IsUtf8 text
  pub each : map lone_statement (text_lines text) ≡ map Ok statements

-- the first of these lines that has a fault, after others that have none
pub record IsFirstFault (lines : List (ℕ × List ℕ)) (fault : FaultAt) : Type 0 where
  pub before : List (ℕ × List ℕ)
  pub line : ℕ × List ℕ
  pub after : List (ℕ × List ℕ)
  pub cut : lines ≡ before ++ line ∷ after
  pub statements : List Statement
  pub sound : map lone_statement before ≡ map Ok statements
  pub number : fault.line ≡ line.0
  pub kind : lone_statement line ≡ Err fault.kind

-- a text is no source: a line of it is not UTF-8, or it is UTF-8 and this is its first fault
abbrev pub IsFaultOf : List ℕ → FaultAt → Type 0
IsFaultOf text fault =
    (¬ (IsUtf8 text) × (utf8_of text ≡ Err fault))
    ⊎ (IsUtf8 text × IsFirstFault (text_lines text) fault)
