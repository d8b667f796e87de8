-- Statements: operations with operands of the forms that they take.
use Rattle.std.specs.Prelude.{ℕ, ◌&&◌, Bool, true, false, List, [], ◌∷◌, Option, Some, None, map, if◌then◌else◌, Result, Ok, Err}
use Rattle.text_scan.specs.{declared.fault_kind.FaultKind.FaultKind, Reader.◌>>=◌}
use Rattle.text_scan.specs.declared.fault_kind.FaultKind.TheVariants as faults
use Rattle.word_arith.specs.declared.size.Size.{Size}
use Rattle.msp_decode.specs.{declared.reg.Reg.{Reg as Register, TheVariants.{R2, R3}}, Spelling.has_form}
use Rattle.msp_decode.specs.declared.source_form.SourceForm.TheVariants as forms
use Rattle.asm_text.specs.{declared.{body.Body.Body, mnemonic.Mnemonic.Mnemonic, operand.Operand.{Operand, TheVariants.{Reg, Imm, Abs, Indexed, Symbolic, Indirect, IndirectInc}}, operand_form.OperandForm.{OperandForm, TheVariants.{SourceAndDestination, Source, Destination, InPlace, DestinationTwice, Target, Nothing}}, operation.Operation.{Operation, TheVariants.{Instr, Org, Word, Byte, Ascii, Equ}}, token.Token.Token}, Operand.{operand_of, operands_of, parts_of, all_of}, Expr.SignedTerm, Form.{form_of, operand_form}}
use Rattle.asm_text.specs.declared.body.Body.TheVariants as bodies
use Rattle.asm_text.specs.declared.term.Term.TheVariants as terms
use Rattle.asm_text.specs.declared.token.Token.TheVariants as tokens

-- `E(Rn)` is not with R2, and with R3 only as a destination
abbrev pub is_dest_base : Register → Bool
is_dest_base R2 = false
is_dest_base register = true

abbrev pub is_base : Register → Bool
is_base R3 = false
is_base register = is_dest_base register

-- `@Rn` and `@Rn+` are not of registers that mean another operand in these modes: R2 and R3, and
-- behind `+` R0
abbrev pub is_source : Operand → Bool
is_source (Indexed expr register) = is_base register
is_source (Indirect register) = has_form (forms.Indirect register)
is_source (IndirectInc register) = has_form (forms.IndirectInc register)
is_source operand = true

abbrev pub is_destination : Operand → Bool
is_destination (Reg register) = true
is_destination (Abs expr) = true
is_destination (Indexed expr register) = is_dest_base register
is_destination (Symbolic expr) = true
is_destination operand = false

-- an operand that is read and then written: not `E(R3)`
abbrev pub is_doubled : Operand → Bool
is_doubled (Indexed expr register) = is_base register
is_doubled operand = is_destination operand

-- a destination, `@Rn` or `@Rn+`; neither R3 nor `E(R3)`
abbrev pub is_modified : Operand → Bool
is_modified (Reg register) = has_form (forms.Register register)
is_modified (Imm expr) = false
is_modified operand = is_source operand

abbrev pub is_target : Operand → Bool
is_target (Symbolic expr) = true
is_target operand = false

abbrev pub fits : OperandForm → Option Operand → Option Operand → Bool
fits SourceAndDestination (Some source) (Some destination) =
    is_source source && is_destination destination
fits Source (Some operand) None = is_source operand
fits Destination (Some operand) None = is_destination operand
fits InPlace (Some operand) None = is_modified operand
fits DestinationTwice (Some operand) None = is_doubled operand
fits Target (Some operand) None = is_target operand
fits Nothing None None = true
fits form first second = false

-- at most two operands
abbrev pub two_of : List Operand → Result (Option Operand × Option Operand) FaultKind
two_of [] = Ok (None, None)
two_of (first ∷ []) = Ok (Some first, None)
two_of (first ∷ second ∷ []) = Ok (Some first, Some second)
two_of operands = Err faults.Operand

-- an instruction with operands of its form
abbrev pub instruction_of : Mnemonic → Size → List Operand → Result Body FaultKind
instruction_of mnemonic size operands = do
  two ← two_of operands
  if fits (operand_form (form_of mnemonic)) two.0 two.1
      then Ok (bodies.Instr mnemonic size two.0 two.1) else Err faults.Operand

-- the expression of an operand that is one alone
abbrev pub lone_expr : Option Operand → Result (List SignedTerm) FaultKind
lone_expr (Some (Symbolic expr)) = Ok expr
lone_expr operand = Err faults.Operand

-- `.org E`
abbrev pub org_with : Option Operand → Option Operand → Result Body FaultKind
org_with first None = do
  expr ← lone_expr first
  Ok (bodies.Org expr)
org_with first (Some operand) = Err faults.Operand

abbrev pub org_of : List Operand → Result Body FaultKind
org_of operands = do
  two ← two_of operands
  org_with two.0 two.1

-- the name that an expression is
abbrev pub lone_name : List SignedTerm → Result (List ℕ) FaultKind
lone_name ((false, terms.Name name) ∷ []) = Ok name
lone_name expr = Err faults.Operand

-- `.equ NAME, E`
abbrev pub equ_of : List Operand → Result Body FaultKind
equ_of operands = do
  two ← two_of operands
  first ← lone_expr two.0
  name ← lone_name first
  expr ← lone_expr two.1
  Ok (bodies.Equ name expr)

abbrev pub operand_expr : Operand → Result (List SignedTerm) FaultKind
operand_expr operand = lone_expr (Some operand)

abbrev pub all_exprs : List Operand → Result (List (List SignedTerm)) FaultKind
all_exprs operands = all_of (map operand_expr operands)

-- one expression or more
abbrev pub exprs_of : List Operand → Result (List (List SignedTerm)) FaultKind
exprs_of [] = Err faults.Operand
exprs_of operands = all_exprs operands

abbrev pub words_of : List Operand → Result Body FaultKind
words_of operands = do
  exprs ← exprs_of operands
  Ok (bodies.Word exprs)

abbrev pub bytes_of : List Operand → Result Body FaultKind
bytes_of operands = do
  exprs ← exprs_of operands
  Ok (bodies.Byte exprs)

-- an operation with operands, each of which has a form
abbrev pub body_of : Option Operation → List Operand → Result Body FaultKind
body_of (Some (Instr mnemonic size)) operands = instruction_of mnemonic size operands
body_of (Some Org) operands = org_of operands
body_of (Some Word) operands = words_of operands
body_of (Some Byte) operands = bytes_of operands
body_of (Some Equ) operands = equ_of operands
body_of (Some Ascii) operands = Err faults.Operand
body_of None operands = Err faults.Mnemonic

-- what may stand in the place of the text: a text or an operand
abbrev pub is_readable : List Token → Result Unit FaultKind
is_readable (tokens.Text text ∷ []) = Ok tt
is_readable part = do
  operand ← operand_of part
  Ok tt

-- `.ascii "T"`
abbrev pub ascii_of : List Token → Result Body FaultKind
ascii_of (tokens.Text text ∷ []) = Ok (bodies.Ascii text)
ascii_of rest = do
  readable ← all_of (map is_readable (parts_of rest))
  Err faults.Operand

-- the operation of a statement's first word
abbrev pub first_word : Token → Result (Option Operation) FaultKind
first_word (tokens.Name name operation) = Ok operation
first_word (tokens.Word operation) = Ok operation
first_word (tokens.Register register) = Ok None
first_word token = Err faults.Syntax

abbrev pub is_ascii_directive : Option Operation → Bool
is_ascii_directive (Some Ascii) = true
is_ascii_directive operation = false

-- a statement behind its first word: what has no form comes before an unknown word, and that before
-- a wrong number or form of operands
unfoldable pub operation_body : Option Operation → List Token → Result Body FaultKind
operation_body operation rest =
    if is_ascii_directive operation then ascii_of rest
    else (do
      operands ← operands_of rest
      body_of operation operands)

abbrev pub statement_body : List Token → Result Body FaultKind
statement_body [] = Ok bodies.Empty
statement_body (word ∷ rest) = do
  operation ← first_word word
  operation_body operation rest

-- `NAME:` before a statement
abbrev pub labelled_body : List Token → Result (Option (List ℕ) × Body) FaultKind
labelled_body (tokens.Name name operation ∷ tokens.Colon ∷ rest) = do
  body ← statement_body rest
  Ok (Some name, body)
labelled_body all = do
  body ← statement_body all
  Ok (None, body)
