-- What can be written in a line.
use Rattle.std.specs.{Prelude.{ℕ, ◌&&◌, Bool, true, List, length, nat_lt, Option, None, Some, is_none}, List.list_all}
use Rattle.word_arith.specs.declared.size.Size.{Size}
use Rattle.word_arith.specs.declared.size.Size.TheVariants as sizes
use Rattle.asm_text.specs.{declared.{mnemonic.Mnemonic.Mnemonic, term.Term.{Term, TheVariants.{Number, Name, Here}}, operand.Operand.{Operand, TheVariants.{Reg, Imm, Abs, Indexed, Symbolic, Indirect, IndirectInc}}, body.Body.{Body, TheVariants.{Empty, Instr, Org, Word, Byte, Ascii, Equ}}, statement.Statement.Statement}, Expr.SignedTerm, Form.{form_of, has_byte_form, operand_form}, Name.register_of, Statement.fits, Token.is_text_character, Word.{is_name, lower_case}}

-- a name is no register in any case
abbrev pub is_free_name : List ℕ → Bool
is_free_name name = is_name name && is_none (register_of (lower_case name))

abbrev pub is_writable_term : Term → Bool
is_writable_term (Number number) = nat_lt number 65536
is_writable_term (Name name) = is_free_name name
is_writable_term Here = true

-- one term or more
abbrev pub is_writable_expr : List SignedTerm → Bool
is_writable_expr expr = nat_lt 0 (length expr) && list_all (λ term. is_writable_term term.1) expr

abbrev pub is_writable_operand : Operand → Bool
is_writable_operand (Reg register) = true
is_writable_operand (Imm expr) = is_writable_expr expr
is_writable_operand (Abs expr) = is_writable_expr expr
is_writable_operand (Indexed expr register) = is_writable_expr expr
is_writable_operand (Symbolic expr) = is_writable_expr expr
is_writable_operand (Indirect register) = true
is_writable_operand (IndirectInc register) = true

abbrev pub is_none_or_writable : Option Operand → Bool
is_none_or_writable None = true
is_none_or_writable (Some operand) = is_writable_operand operand

abbrev pub has_size : Mnemonic → Size → Bool
has_size mnemonic sizes.Word = true
has_size mnemonic sizes.Byte = has_byte_form (form_of mnemonic)

-- one expression or more
abbrev pub are_writable : List (List SignedTerm) → Bool
are_writable exprs = nat_lt 0 (length exprs) && list_all is_writable_expr exprs

abbrev pub is_writable_body : Body → Bool
is_writable_body Empty = true
is_writable_body (Instr mnemonic size first second) =
    has_size mnemonic size
    && fits (operand_form (form_of mnemonic)) first second
    && is_none_or_writable first && is_none_or_writable second
is_writable_body (Org expr) = is_writable_expr expr
is_writable_body (Word exprs) = are_writable exprs
is_writable_body (Byte exprs) = are_writable exprs
is_writable_body (Ascii text) = list_all is_text_character text
is_writable_body (Equ name expr) = is_free_name name && is_writable_expr expr

abbrev pub is_free_label : Option (List ℕ) → Bool
is_free_label None = true
is_free_label (Some name) = is_free_name name

abbrev pub is_writable : Statement → Bool
is_writable statement =
    is_free_label statement.label && is_writable_body statement.body
