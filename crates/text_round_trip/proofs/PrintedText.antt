-- What is written has printed characters alone.
use Rattle.std.{proofs.{Common.{◌≡◌, ◌∙◌, ap, refl, ℕ, ◌≤◌, arith, Bool, true, false, inl, inr, List, [], ◌∷◌, ◌++◌, length, Option, Some, None}, lemmas.{Bool.{and_parts, and_from, or_cases, le-leb, leb-true, ltb-true, eqb-true}, List.Folds.list_all-append}}, specs.{Prelude.{◌==◌, ◌&&◌, ◌||◌, codes, map, nat_le, nat_lt, not}, Char.{is_ascii_alphanumeric, is_ascii_digit}, Int.is_in_range, List.list_all}}
use Rattle.asm_text.specs.{Token.is_text_character, Word.{is_word_character, is_name_character}, Name.{mnemonic_name, reg_name}, declared.{term.Term.{Term, TheVariants.{Number, Name, Here}}, operand.Operand.{Operand, TheVariants.{Reg, Imm, Abs, Indexed, Symbolic, Indirect, IndirectInc}}, body.Body.{Body, TheVariants.{Empty, Instr, Org, Word, Byte, Ascii, Equ}}, statement.Statement.Statement}, Expr.SignedTerm}
use Rattle.msp_asm.specs.ItemText.{size_suffix}
use Rattle.text_round_trip.{specs.{ReadBack.AreNumerals, StatementText.{Numerals, term_text, sign_text, more_text, expr_text, operand_text, more_operands_text, operands_text, operand_list, body_text, label_text, statement_text}, Writable.{is_free_name, is_writable_term, is_writable_expr, is_writable_operand, is_none_or_writable, is_writable_body, is_free_label, is_writable}}, proofs.{Numerals.number-is, WrittenDirective.symbolic-are, WrittenStatement.{instruction-parts, are_operands}, Words.mnemonic-operation, WrittenExpr.{are_terms, terms-are, name-characters}}}
use Rattle.msp_decode.specs.{declared.reg.Reg.{Reg as Register, TheVariants.R0}}

-- from a space (32) to a tilde (126)
abbrev pub is_printed : ℕ → Bool
is_printed c = is_in_range 32 126 c

abbrev pub are_printed : List ℕ → Bool
are_printed text = list_all is_printed text

between-printed : (c : ℕ) → 32 ≤ c → c ≤ 126 → is_printed c ≡ true
between-printed c low high =
    and_from (nat_le 32 c) (nat_le c 126) (le-leb 32 c low) (le-leb c 126 high)

in_range-printed : (low high c : ℕ) → 32 ≤ low → high ≤ 126 → is_in_range low high c ≡ true
    → is_printed c ≡ true
in_range-printed low high c least most is =
    let parts = and_parts (nat_le low c) (nat_le c high) is in
    between-printed c (omega (arith, leb-true low c parts.0, least))
    (omega (arith, leb-true c high parts.1, most))

same-printed : (c d : ℕ) → (c == d) ≡ true → is_printed d ≡ true → is_printed c ≡ true
same-printed c d same is = ap is_printed (eqb-true c d same) ∙ is

alphanumeric-printed : (c : ℕ) → is_ascii_alphanumeric c ≡ true → is_printed c ≡ true
alphanumeric-printed c is =
    elim (or_cases (is_ascii_digit c || is_in_range 65 90 c) (is_in_range 97 122 c) is) [
      | inl upper ↦ elim (or_cases (is_ascii_digit c) (is_in_range 65 90 c) upper) [
        | inl digit ↦ in_range-printed 48 57 c (omega arith) (omega arith) digit
        | inr letter ↦ in_range-printed 65 90 c (omega arith) (omega arith) letter
      ]
      | inr letter ↦ in_range-printed 97 122 c (omega arith) (omega arith) letter
    ]

word-printed : (c : ℕ) → is_word_character c ≡ true → is_printed c ≡ true
word-printed c is =
    elim (or_cases (is_name_character c) (c == 46) is) [
      | inl name ↦ elim (or_cases (is_ascii_alphanumeric c) (c == 95) name) [
        | inl letter ↦ alphanumeric-printed c letter
        | inr line ↦ same-printed c 95 line refl
      ]
      | inr dot ↦ same-printed c 46 dot refl
    ]

text-printed : (c : ℕ) → is_text_character c ≡ true → is_printed c ≡ true
text-printed c is =
    (and_parts (is_printed c) (not (c == 0x22))
    (and_parts (is_printed c && not (c == 0x22)) (not (c == 0x5C)) is).0).0

all-printed : (test : ℕ → Bool) → ((c : ℕ) → test c ≡ true → is_printed c ≡ true)
    → (text : List ℕ) → list_all test text ≡ true → are_printed text ≡ true
all-printed test each [] all = refl
all-printed test each (c ∷ text) all =
    let parts = and_parts (test c) (list_all test text) all in
    and_from (is_printed c) (are_printed text) (each c parts.0)
    (all-printed test each text parts.1)

words-printed : (word : List ℕ) → list_all is_word_character word ≡ true
    → are_printed word ≡ true
words-printed word all = all-printed is_word_character word-printed word all

both-printed : (a b : List ℕ) → are_printed a ≡ true → are_printed b ≡ true
    → are_printed (a ++ b) ≡ true
both-printed a b first next =
    list_all-append is_printed a b ∙ and_from (are_printed a) (are_printed b) first next

name-printed : (name : List ℕ) → is_free_name name ≡ true → are_printed name ≡ true
name-printed name is = words-printed name (name-characters name is)

term-printed : (numerals : Numerals) → AreNumerals numerals → (term : Term)
    → is_writable_term term ≡ true → are_printed (term_text numerals term) ≡ true
term-printed numerals are (Number number) is =
    words-printed (numerals number)
    (number-is (numerals number) number (are number (ltb-true number 65536 is))).all
term-printed numerals are (Name name) is = name-printed name is
term-printed numerals are Here is = refl

sign-printed : (is_subtracted : Bool) → are_printed (sign_text is_subtracted) ≡ true
sign-printed false = refl
sign-printed true = refl

more-printed : (numerals : Numerals) → AreNumerals numerals → (terms : List SignedTerm)
    → are_terms terms ≡ true → are_printed (more_text numerals terms) ≡ true
more-printed numerals are [] all = refl
more-printed numerals are ((is_subtracted, term) ∷ rest) all =
    let parts = and_parts (is_writable_term term) (are_terms rest) all in
    both-printed (sign_text is_subtracted ++ term_text numerals term) (more_text numerals rest)
    (both-printed (sign_text is_subtracted) (term_text numerals term) (sign-printed is_subtracted)
    (term-printed numerals are term parts.0)) (more-printed numerals are rest parts.1)

expr-printed : (numerals : Numerals) → AreNumerals numerals → (expr : List SignedTerm)
    → is_writable_expr expr ≡ true → are_printed (expr_text numerals expr) ≡ true
expr-printed numerals are [] is = refl
expr-printed numerals are ((false, term) ∷ rest) is =
    let parts =
    and_parts (is_writable_term term) (are_terms rest) (terms-are ((false, term) ∷ rest) is) in
    both-printed (term_text numerals term) (more_text numerals rest)
    (term-printed numerals are term parts.0) (more-printed numerals are rest parts.1)
expr-printed numerals are ((true, term) ∷ rest) is =
    let parts =
    and_parts (is_writable_term term) (are_terms rest) (terms-are ((true, term) ∷ rest) is) in
    both-printed (codes "-" ++ term_text numerals term) (more_text numerals rest)
    (term-printed numerals are term parts.0) (more-printed numerals are rest parts.1)

register-printed : (register : Register) → are_printed (reg_name register) ≡ true
register-printed R0 = refl
register-printed register = refl

operand-printed : (numerals : Numerals) → AreNumerals numerals → (operand : Operand)
    → is_writable_operand operand ≡ true → are_printed (operand_text numerals operand) ≡ true
operand-printed numerals are (Reg register) is = register-printed register
operand-printed numerals are (Imm expr) is = expr-printed numerals are expr is
operand-printed numerals are (Abs expr) is = expr-printed numerals are expr is
operand-printed numerals are (Indexed expr register) is =
    let word : List ℕ = expr_text numerals expr in
    both-printed (word ++ codes "(" ++ reg_name register) (codes ")")
    (both-printed (word ++ codes "(") (reg_name register)
    (both-printed word (codes "(") (expr-printed numerals are expr is) refl)
    (register-printed register)) refl
operand-printed numerals are (Symbolic expr) is = expr-printed numerals are expr is
operand-printed numerals are (Indirect register) is = register-printed register
operand-printed numerals are (IndirectInc register) is =
    both-printed (codes "@" ++ reg_name register) (codes "+") (register-printed register) refl

more_operands-printed : (numerals : Numerals) → AreNumerals numerals → (rest : List Operand)
    → are_operands rest ≡ true → are_printed (more_operands_text numerals rest) ≡ true
more_operands-printed numerals are [] all = refl
more_operands-printed numerals are (next ∷ rest) all =
    let parts = and_parts (is_writable_operand next) (are_operands rest) all in
    both-printed (codes "," ++ operand_text numerals next) (more_operands_text numerals rest)
    (operand-printed numerals are next parts.0) (more_operands-printed numerals are rest parts.1)

operands-printed : (numerals : Numerals) → AreNumerals numerals → (all : List Operand)
    → are_operands all ≡ true → are_printed (operands_text numerals all) ≡ true
operands-printed numerals are [] all = refl
operands-printed numerals are (first ∷ rest) all =
    let parts = and_parts (is_writable_operand first) (are_operands rest) all in
    both-printed (codes " " ++ operand_text numerals first) (more_operands_text numerals rest)
    (operand-printed numerals are first parts.0) (more_operands-printed numerals are rest parts.1)

none_or_writable-are : (first second : Option Operand)
    → is_none_or_writable first ≡ true → is_none_or_writable second ≡ true
    → are_operands (operand_list first second) ≡ true
none_or_writable-are None second one two = refl
none_or_writable-are (Some first) None one two = rw one refl
none_or_writable-are (Some first) (Some second) one two = rw (one, two) refl

body-printed : (numerals : Numerals) → AreNumerals numerals → (body : Body)
    → is_writable_body body ≡ true → are_printed (body_text numerals body) ≡ true
body-printed numerals are Empty is = refl
body-printed numerals are (Instr mnemonic size first second) is =
    let parts = instruction-parts mnemonic size first second is in
    let word : List ℕ = mnemonic_name mnemonic ++ size_suffix size in
    both-printed word (operands_text numerals (operand_list first second))
    (words-printed word (mnemonic-operation mnemonic size parts.sized).all)
    (operands-printed numerals are (operand_list first second)
    (none_or_writable-are first second parts.one parts.two))
body-printed numerals are (Org expr) is =
    operands-printed numerals are (Symbolic expr ∷ []) (rw is refl)
body-printed numerals are (Word exprs) is =
    operands-printed numerals are (map Symbolic exprs)
    (symbolic-are exprs
    (and_parts (nat_lt 0 (length exprs)) (list_all is_writable_expr exprs) is).1)
body-printed numerals are (Byte exprs) is =
    operands-printed numerals are (map Symbolic exprs)
    (symbolic-are exprs
    (and_parts (nat_lt 0 (length exprs)) (list_all is_writable_expr exprs) is).1)
body-printed numerals are (Ascii text) is =
    both-printed text (34 ∷ []) (all-printed is_text_character text-printed text is) refl
body-printed numerals are (Equ name expr) is =
    let parts = and_parts (is_free_name name) (is_writable_expr expr) is in
    operands-printed numerals are
    (Symbolic ((false, Name name) ∷ []) ∷ Symbolic expr ∷ []) (rw (parts.0, parts.1) refl)

label-printed : (label : Option (List ℕ)) → is_free_label label ≡ true
    → are_printed (label_text label) ≡ true
label-printed None is = refl
label-printed (Some name) is = both-printed name (codes ": ") (name-printed name is) refl

pub line-printed : (numerals : Numerals) → AreNumerals numerals → (line : Statement)
    → is_writable line ≡ true → are_printed (statement_text numerals line) ≡ true
line-printed numerals are line is =
    let parts = and_parts (is_free_label line.label) (is_writable_body line.body) is in
    both-printed (label_text line.label) (body_text numerals line.body)
    (label-printed line.label parts.0) (body-printed numerals are line.body parts.1)
