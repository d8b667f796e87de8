-- The text of a statement, where each number is written in a given way.
use Rattle.std.specs.Prelude.{◌++◌, ℕ, Bool, true, false, List, [], ◌∷◌, map, codes, Option, None, Some}
use Rattle.asm_text.specs.{declared.{term.Term.{Term, TheVariants.{Number, Name, Here}}, operand.Operand.{Operand, TheVariants.{Reg, Imm, Abs, Indexed, Symbolic, Indirect, IndirectInc}}, body.Body.{Body, TheVariants.{Empty, Instr, Org, Word, Byte, Ascii, Equ}}, statement.Statement.Statement}, Expr.SignedTerm, Name.{mnemonic_name, reg_name}}
use Rattle.msp_asm.specs.ItemText.{size_suffix}

-- how numbers are written
abbrev pub Numerals : Type 0
Numerals = ℕ → List ℕ

abbrev pub term_text : Numerals → Term → List ℕ
term_text numerals (Number number) = numerals number
term_text numerals (Name name) = name
term_text numerals Here = codes "$"

abbrev pub sign_text : Bool → List ℕ
sign_text false = codes "+"
sign_text true = codes "-"

-- further terms, each behind its sign
abbrev pub more_text : Numerals → List SignedTerm → List ℕ
more_text numerals [] = []
more_text numerals ((is_subtracted, term) ∷ rest) =
    sign_text is_subtracted ++ term_text numerals term ++ more_text numerals rest

-- the first term has a sign only where it is subtracted
abbrev pub expr_text : Numerals → List SignedTerm → List ℕ
expr_text numerals [] = []
expr_text numerals ((false, term) ∷ rest) = term_text numerals term ++ more_text numerals rest
expr_text numerals ((true, term) ∷ rest) =
    codes "-" ++ term_text numerals term ++ more_text numerals rest

abbrev pub operand_text : Numerals → Operand → List ℕ
operand_text numerals (Reg register) = reg_name register
operand_text numerals (Imm expr) = codes "#" ++ expr_text numerals expr
operand_text numerals (Abs expr) = codes "&" ++ expr_text numerals expr
operand_text numerals (Indexed expr register) =
    expr_text numerals expr ++ codes "(" ++ reg_name register ++ codes ")"
operand_text numerals (Symbolic expr) = expr_text numerals expr
operand_text numerals (Indirect register) = codes "@" ++ reg_name register
operand_text numerals (IndirectInc register) = codes "@" ++ reg_name register ++ codes "+"

-- further operands, each behind a comma
abbrev pub more_operands_text : Numerals → List Operand → List ℕ
more_operands_text numerals [] = []
more_operands_text numerals (next ∷ rest) =
    codes "," ++ operand_text numerals next ++ more_operands_text numerals rest

-- a space before the first
abbrev pub operands_text : Numerals → List Operand → List ℕ
operands_text numerals [] = []
operands_text numerals (first ∷ rest) =
    codes " " ++ operand_text numerals first ++ more_operands_text numerals rest

-- the operands that there are
abbrev pub operand_list : Option Operand → Option Operand → List Operand
operand_list None second = []
operand_list (Some first) None = first ∷ []
operand_list (Some first) (Some second) = first ∷ second ∷ []

-- a text stands between quotes (34)
abbrev pub body_text : Numerals → Body → List ℕ
body_text numerals Empty = []
body_text numerals (Instr mnemonic size first second) =
    mnemonic_name mnemonic ++ size_suffix size
    ++ operands_text numerals (operand_list first second)
body_text numerals (Org expr) = codes ".org" ++ operands_text numerals (Symbolic expr ∷ [])
body_text numerals (Word exprs) = codes ".word" ++ operands_text numerals (map Symbolic exprs)
body_text numerals (Byte exprs) = codes ".byte" ++ operands_text numerals (map Symbolic exprs)
body_text numerals (Ascii text) = codes ".ascii " ++ 34 ∷ text ++ 34 ∷ []
body_text numerals (Equ name expr) =
    codes ".equ"
    ++ operands_text numerals (Symbolic ((false, Name name) ∷ []) ∷ Symbolic expr ∷ [])

abbrev pub label_text : Option (List ℕ) → List ℕ
label_text None = []
label_text (Some name) = name ++ codes ": "

abbrev pub statement_text : Numerals → Statement → List ℕ
statement_text numerals statement =
    label_text statement.label ++ body_text numerals statement.body
