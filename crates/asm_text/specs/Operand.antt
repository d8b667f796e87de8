-- Expressions and operands.
use Rattle.std.specs.{Prelude.{◌-◌, Bool, true, false, List, [], ◌∷◌, Option, Some, None, length, take, drop, map, Result, Ok, Err}, List.slice_split}
use Rattle.text_scan.specs.{declared.fault_kind.FaultKind.{FaultKind, TheVariants.Syntax}, Reader.◌>>=◌}
use Rattle.asm_text.specs.{declared.{operand.Operand.{Operand, TheVariants.{Reg, Imm, Abs, Indexed, Symbolic, Indirect, IndirectInc}}, term.Term.Term, token.Token.{Token, TheVariants.{Number, Register, Name, Here, Comma, Hash, Ampersand, At, Plus, Minus, Open, Close}}}, Expr.SignedTerm}
use Rattle.asm_text.specs.declared.term.Term.TheVariants as terms

abbrev pub term_of : Token → Result Term FaultKind
term_of (Number number) = Ok (terms.Number number)
term_of (Name name operation) = Ok (terms.Name name)
term_of Here = Ok terms.Here
term_of token = Err Syntax

-- whether the next term is subtracted
abbrev pub sign_of : Token → Result Bool FaultKind
sign_of Plus = Ok false
sign_of Minus = Ok true
sign_of token = Err Syntax

-- terms, of which the first is subtracted or not, with a sign before each further one
unfoldable pub terms_of : Bool → List Token → Result (List SignedTerm) FaultKind
terms_of is_subtracted [] = Err Syntax
terms_of is_subtracted (token ∷ []) = do
  term ← term_of token
  Ok ((is_subtracted, term) ∷ [])
terms_of is_subtracted (token ∷ sign ∷ rest) = do
  term ← term_of token
  next ← sign_of sign
  later ← terms_of next rest
  Ok ((is_subtracted, term) ∷ later)

-- an expression: `-` or nothing, and terms
abbrev pub expr_of : List Token → Result (List SignedTerm) FaultKind
expr_of (Minus ∷ rest) = terms_of true rest
expr_of tokens = terms_of false tokens

-- an operand of an expression
abbrev pub with_expr : (List SignedTerm → Operand) → List Token → Result Operand FaultKind
with_expr operand tokens = do
  expr ← expr_of tokens
  Ok (operand expr)

-- `E(Rn)` by its last three tokens and the others, else `E`
abbrev pub place_operand : (tokens prefix last : List Token) → Result Operand FaultKind
place_operand tokens prefix (Open ∷ Register register ∷ Close ∷ []) =
    with_expr (λ expr. Indexed expr register) prefix
place_operand tokens prefix last = with_expr Symbolic tokens

-- `Rn` or `Rn+`, behind `@`
abbrev pub pointer_of : List Token → Result Operand FaultKind
pointer_of (Register register ∷ []) = Ok (Indirect register)
pointer_of (Register register ∷ Plus ∷ []) = Ok (IndirectInc register)
pointer_of tokens = Err Syntax

-- `E(Rn)` or `E`
abbrev pub place_of : List Token → Result Operand FaultKind
place_of tokens =
    place_operand tokens (take (length tokens - 3) tokens) (drop (length tokens - 3) tokens)

-- an operand by its form
abbrev pub operand_of : List Token → Result Operand FaultKind
operand_of (Hash ∷ rest) = with_expr Imm rest
operand_of (Ampersand ∷ rest) = with_expr Abs rest
operand_of (At ∷ rest) = pointer_of rest
operand_of (Register register ∷ []) = Ok (Reg register)
operand_of tokens = place_of tokens

abbrev pub is_comma : Token → Bool
is_comma Comma = true
is_comma token = false

-- what stands between commas
abbrev pub parts_of : List Token → List (List Token)
parts_of [] = []
parts_of tokens = slice_split is_comma tokens

-- the parts of what stands behind a comma, if there is one
abbrev pub parts_behind : Option (List Token) → List (List Token)
parts_behind None = []
parts_behind (Some tokens) = slice_split is_comma tokens

-- all values, or the first fault
abbrev pub all_of : {Value Fault : Type 0} → List (Result Value Fault) → Result (List Value) Fault
all_of [] = Ok []
all_of (first ∷ rest) = do
  value ← first
  values ← all_of rest
  Ok (value ∷ values)

abbrev pub operands_of : List Token → Result (List Operand) FaultKind
operands_of tokens = all_of (map operand_of (parts_of tokens))
