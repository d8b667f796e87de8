-- A statement with operands, as it is written and as it is read.
use Rattle.std.{proofs.{Common.{◌≡◌, sym, refl, subst, ℕ, Bool, true, false, List, [], ◌∷◌, ◌++◌, append-nil, Some, Ok, ◌∙◌, Option, None, ap, ◌-◌, ◌<◌, arith, not, append_assoc, length, length-append, take, drop, Result}, lemmas.{Bool.{and_parts, false≢true, and_from}, List.{take-append-drop, Folds.list_all-append}}, Math.Seq.{drop-append_seam, take-append_seam}}, specs.{Prelude.{map, ◌&&◌, codes}, List.list_all}}
use Rattle.text_scan.specs.{Reader.◌>>=◌, declared.fault_kind.FaultKind.FaultKind}
use Rattle.asm_text.specs.{declared.{body.Body.{Body, TheVariants.Instr}, operand.Operand.{Operand, TheVariants.{Reg, Imm, Abs, Indexed, Symbolic, Indirect, IndirectInc}}, operation.Operation.Operation, token.Token.{Token, TheVariants.Comma}, mnemonic.Mnemonic.Mnemonic, operand_form.OperandForm.OperandForm}, Operand.{operand_of, operands_of, is_comma, expr_of, with_expr, place_operand, place_of}, Statement.{is_ascii_directive, body_of, statement_body, labelled_body, fits}, Token.word_token, Form.{form_of, operand_form}, Name.reg_name, Expr.SignedTerm}
use Rattle.text_round_trip.{specs.{ReadBack.AreNumerals, StatementText.{Numerals, operand_text, more_operands_text, operands_text, body_text, expr_text}, Writable.{is_writable_operand, is_none_or_writable, has_size, is_writable_body}}, proofs.{Falls.{FallsInto, falls-then, falls-apart, falls-nothing, blank-falls, comma-falls, falls-into, hash-falls, ampersand-falls, at-falls, plus-falls, open-falls, close-falls}, Operands.{no_colon-first, has_no_comma, joint_tokens, joint-read, IsOperandOf}, Words.{IsOperation, begins_with_colon, without_label, operation-falls, no_label, operation-read, mnemonic-operation, register-falls}, WrittenExpr.{terms-are, expr_tokens, expr-falls, expr-read, is_expr_token, are_expr_tokens, expr-are, expr-some}}}
use Rattle.word_arith.specs.declared.size.Size.{Size}
use Rattle.msp_decode.specs.declared.reg.Reg.{Reg as Register}
use Rattle.asm_text.specs.declared.operand_form.OperandForm.TheVariants as forms
use Rattle.asm_text.specs.declared.token.Token.TheVariants as tokens

-- The tokens of operands, and what they are read as.

abbrev pub operand_tokens : Operand → List Token
operand_tokens (Reg register) = tokens.Register register ∷ []
operand_tokens (Imm expr) = tokens.Hash ∷ expr_tokens expr
operand_tokens (Abs expr) = tokens.Ampersand ∷ expr_tokens expr
operand_tokens (Indexed expr register) =
    expr_tokens expr ++ tokens.Open ∷ tokens.Register register ∷ tokens.Close ∷ []
operand_tokens (Symbolic expr) = expr_tokens expr
operand_tokens (Indirect register) = tokens.At ∷ tokens.Register register ∷ []
operand_tokens (IndirectInc register) = tokens.At ∷ tokens.Register register ∷ tokens.Plus ∷ []

pub operand-falls : (numerals : Numerals) → AreNumerals numerals → (operand : Operand)
    → is_writable_operand operand ≡ true
    → FallsInto (operand_text numerals operand) (operand_tokens operand)
operand-falls numerals are (Reg register) is = register-falls register
operand-falls numerals are (Imm expr) is =
    falls-then hash-falls (expr-falls numerals are expr (terms-are expr is))
operand-falls numerals are (Abs expr) is =
    falls-then ampersand-falls (expr-falls numerals are expr (terms-are expr is))
operand-falls numerals are (Indexed expr register) is =
    let text : expr_text numerals expr ++ (codes "(" ++ (reg_name register ++ codes ")"))
    ≡ expr_text numerals expr ++ codes "(" ++ reg_name register ++ codes ")" =
    sym (append_assoc (expr_text numerals expr ++ codes "(") (reg_name register) (codes ")")
    ∙ append_assoc (expr_text numerals expr) (codes "(") (reg_name register ++ codes ")")) in
    subst (λ (word : List ℕ). FallsInto word (operand_tokens (Indexed expr register))) text
    (falls-apart (expr-falls numerals are expr (terms-are expr is)) refl
    (falls-then open-falls
    (falls-apart (register-falls register) refl (falls-into close-falls))))
operand-falls numerals are (Symbolic expr) is =
    expr-falls numerals are expr (terms-are expr is)
operand-falls numerals are (Indirect register) is = falls-then at-falls (register-falls register)
operand-falls numerals are (IndirectInc register) is =
    falls-then at-falls (falls-apart (register-falls register) refl (falls-into plus-falls))

no-comma : (token : Token) → is_expr_token token ≡ true → not (is_comma token) ≡ true
no-comma tokens.Comma is = absurd (false≢true is)
no-comma token is = refl

none-comma : (all : List Token) → are_expr_tokens all ≡ true → has_no_comma all ≡ true
none-comma [] are = refl
none-comma (token ∷ all) are =
    let parts = and_parts (is_expr_token token) (are_expr_tokens all) are in
    and_from (not (is_comma token)) (has_no_comma all) (no-comma token parts.0)
    (none-comma all parts.1)

no-colon : (all rest : List Token) → are_expr_tokens all ≡ true → 0 < length all
    → begins_with_colon (all ++ rest) ≡ false
no-colon [] rest are some = absurd (omega arith)
no-colon (tokens.Colon ∷ all) rest are some = absurd (false≢true are)
no-colon (token ∷ all) rest are some = refl

-- no other form begins with such a token
place-form : (all rest : List Token) → are_expr_tokens all ≡ true → 0 < length all
    → operand_of (all ++ rest) ≡ place_of (all ++ rest)
place-form [] rest are some = absurd (omega arith)
place-form (tokens.Hash ∷ all) rest are some = absurd (false≢true are)
place-form (tokens.Ampersand ∷ all) rest are some = absurd (false≢true are)
place-form (tokens.At ∷ all) rest are some = absurd (false≢true are)
place-form (tokens.Register register ∷ all) rest are some = absurd (false≢true are)
place-form (token ∷ all) rest are some = refl

symbolic-form : (all prefix last : List Token) → are_expr_tokens last ≡ true
    → place_operand all prefix last ≡ with_expr (λ expr. Symbolic expr) all
symbolic-form all prefix [] are = refl
symbolic-form all prefix (tokens.Open ∷ last) are = absurd (false≢true are)
symbolic-form all prefix (token ∷ last) are = refl

drop-are : (count : ℕ) (all : List Token) → are_expr_tokens all ≡ true
    → are_expr_tokens (drop count all) ≡ true
drop-are count all are =
    (and_parts (are_expr_tokens (take count all)) (are_expr_tokens (drop count all))
    (sym (list_all-append is_expr_token (take count all) (drop count all))
    ∙ ap are_expr_tokens (take-append-drop count all) ∙ are)).1

symbolic-read : (all : List Token) (expr : List SignedTerm) → are_expr_tokens all ≡ true
    → 0 < length all → expr_of all ≡ Ok expr → operand_of all ≡ Ok (Symbolic expr)
symbolic-read all expr are some outcome =
    ap operand_of (sym (append-nil all)) ∙ place-form all [] are some
    ∙ ap place_of (append-nil all)
    ∙ symbolic-form all (take (length all - 3) all) (drop (length all - 3) all)
    (drop-are (length all - 3) all are)
    ∙ ap (λ (answer : Result (List SignedTerm) FaultKind).
    answer >>= (λ outcome. Ok (Symbolic outcome))) outcome

indexed-read : (all : List Token) (expr : List SignedTerm) (register : Register)
    → are_expr_tokens all ≡ true → 0 < length all → expr_of all ≡ Ok expr
    → operand_of (all ++ tokens.Open ∷ tokens.Register register ∷ tokens.Close ∷ [])
    ≡ Ok (Indexed expr register)
indexed-read all expr register are some outcome =
    let last : List Token = tokens.Open ∷ tokens.Register register ∷ tokens.Close ∷ [] in
    let whole : List Token = all ++ last in
    let count : length whole - 3 ≡ length all = omega (arith, length-append all last) in
    place-form all last are some
    ∙ ap (λ (n : ℕ). place_operand whole (take n whole) (drop n whole)) count
    ∙ ap (λ (back : List Token). place_operand whole (take (length all) whole) back)
    (drop-append_seam all last)
    ∙ ap (λ (prefix : List Token). with_expr (λ answer. Indexed answer register) prefix)
    (take-append_seam all last)
    ∙ ap (λ (answer : Result (List SignedTerm) FaultKind).
    answer >>= (λ outcome. Ok (Indexed outcome register))) outcome

-- operands are read back
pub operand-read : (operand : Operand) → is_writable_operand operand ≡ true
    → IsOperandOf (operand_tokens operand) operand
operand-read (Reg register) is =
    record { some = omega arith; alone = refl; read = refl; begins = λ rest. refl }
operand-read (Imm expr) is = record {
  some = omega arith;
  alone = none-comma (expr_tokens expr) (expr-are expr);
  read = rw (expr-read expr is) refl;
  begins = λ rest. refl;
}
operand-read (Abs expr) is = record {
  some = omega arith;
  alone = none-comma (expr_tokens expr) (expr-are expr);
  read = rw (expr-read expr is) refl;
  begins = λ rest. refl;
}
operand-read (Indexed expr register) is =
    let last : List Token = tokens.Open ∷ tokens.Register register ∷ tokens.Close ∷ [] in
    let all : List Token = expr_tokens expr in
    let are = expr-are expr in
    let some = expr-some expr is in record {
      some = omega (arith, some, length-append all last);
      alone = list_all-append (λ token. not (is_comma token)) all last
          ∙ rw (none-comma all are) refl;
      read = indexed-read all expr register are some (expr-read expr is);
      begins = λ rest. ap begins_with_colon (append_assoc all last rest)
          ∙ no-colon all (last ++ rest) are some;
    }
operand-read (Symbolic expr) is =
    let all : List Token = expr_tokens expr in
    let are = expr-are expr in
    let some = expr-some expr is in record {
      some = some;
      alone = none-comma all are;
      read = symbolic-read all expr are some (expr-read expr is);
      begins = λ rest. no-colon all rest are some;
    }
operand-read (Indirect register) is =
    record { some = omega arith; alone = refl; read = refl; begins = λ rest. refl }
operand-read (IndirectInc register) is =
    record { some = omega arith; alone = refl; read = refl; begins = λ rest. refl }

-- the tokens of operands one behind the other
abbrev all_tokens : Operand → List Operand → List Token
all_tokens first rest = joint_tokens (operand_tokens first) (map operand_tokens rest)

abbrev pub are_operands : List Operand → Bool
are_operands all = list_all is_writable_operand all

operands-falls : (numerals : Numerals) → AreNumerals numerals → (first : Operand)
    (rest : List Operand) → is_writable_operand first ≡ true → are_operands rest ≡ true
    → FallsInto (operand_text numerals first ++ more_operands_text numerals rest)
    (all_tokens first rest)
unfolding joint_tokens
operands-falls numerals are first [] is all =
    subst (λ (all : List Token). FallsInto (operand_text numerals first ++ []) all)
    (append-nil (operand_tokens first))
    (falls-apart (operand-falls numerals are first is) refl falls-nothing)
operands-falls numerals are first (next ∷ rest) is all =
    let parts = and_parts (is_writable_operand next) (are_operands rest) all in
    falls-apart (operand-falls numerals are first is) refl
    (falls-then comma-falls (operands-falls numerals are next rest parts.0 parts.1))

parts-alone : (all : List Operand) → are_operands all ≡ true
    → list_all has_no_comma (map operand_tokens all) ≡ true
parts-alone [] each = refl
parts-alone (first ∷ rest) each =
    let parts = and_parts (is_writable_operand first) (are_operands rest) each in
    rw ((operand-read first parts.0).alone) (parts-alone rest parts.1)

parts-read : (all : List Operand) → are_operands all ≡ true
    → map operand_of (map operand_tokens all) ≡ map Ok all
parts-read [] each = refl
parts-read (first ∷ rest) each =
    let parts = and_parts (is_writable_operand first) (are_operands rest) each in
    rw ((operand-read first parts.0).read, parts-read rest parts.1) refl

operands-read : (first : Operand) (rest : List Operand)
    → is_writable_operand first ≡ true → are_operands rest ≡ true
    → operands_of (all_tokens first rest) ≡ Ok (first ∷ rest)
operands-read first rest is all =
    let answer = operand-read first is in
    joint-read (operand_tokens first) (map operand_tokens rest) (first ∷ rest) answer.some
    answer.alone (parts-alone rest all) (rw (answer.read, parts-read rest all) refl)

operands-prefix : (first : Operand) (rest : List Operand) → is_writable_operand first ≡ true
    → begins_with_colon (all_tokens first rest) ≡ false
unfolding joint_tokens
operands-prefix first [] is = no_colon-first (operand-read first is)
operands-prefix first (next ∷ rest) is =
    (operand-read first is).begins
    (Comma ∷ joint_tokens (operand_tokens next) (map operand_tokens rest))

-- a text is read as a statement, alone and behind a label
pub record IsBodyText (text : List ℕ) (body : Body) : Type 0 where
  pub tokens : List Token
  pub falls : FallsInto text tokens
  pub read : statement_body tokens ≡ Ok body
  pub plain : labelled_body tokens ≡ (statement_body tokens >>= without_label)

pub operation-body : (numerals : Numerals) → AreNumerals numerals → {word : List ℕ}
    {operation : Operation} (all : List Operand) (body : Body)
    → IsOperation word operation → is_ascii_directive (Some operation) ≡ false
    → are_operands all ≡ true → body_of (Some operation) all ≡ Ok body
    → IsBodyText (word ++ operands_text numerals all) body
operation-body numerals are {word = word} [] body is other all answer =
    record {
      tokens = word_token word ∷ [];
      falls = subst (λ (text : List ℕ). FallsInto text (word_token word ∷ []))
          (sym (append-nil word)) (operation-falls is);
      read = operation-read [] [] is other refl answer;
      plain = no_label (word_token word) [] refl;
    }
operation-body numerals are {word = word} (first ∷ rest) body is other all answer =
    let parts = and_parts (is_writable_operand first) (are_operands rest) all in record {
      tokens = word_token word ∷ all_tokens first rest;
      falls = falls-apart (operation-falls is) refl
          (falls-then blank-falls (operands-falls numerals are first rest parts.0 parts.1));
      read = operation-read (all_tokens first rest) (first ∷ rest) is other
          (operands-read first rest parts.0 parts.1) answer;
      plain = no_label (word_token word) (all_tokens first rest)
          (operands-prefix first rest parts.0);
    }

-- Instructions are read back.

second-alone : (form : OperandForm) (operand : Operand) → fits form None (Some operand) ≡ false
second-alone forms.Nothing operand = refl
second-alone form operand = refl

-- the operands of an instruction that can be written
pub record IsWritableInstruction (mnemonic : Mnemonic) (size : Size)
    (first second : Option Operand) : Type 0 where
  pub sized : has_size mnemonic size ≡ true
  pub fitting : fits (operand_form (form_of mnemonic)) first second ≡ true
  pub one : is_none_or_writable first ≡ true
  pub two : is_none_or_writable second ≡ true

pub instruction-parts : (mnemonic : Mnemonic) (size : Size) (first second : Option Operand)
    → is_writable_body (Instr mnemonic size first second) ≡ true
    → IsWritableInstruction mnemonic size first second
instruction-parts mnemonic size first second is =
    let is_sized : Bool = has_size mnemonic size in
    let does_fit : Bool = fits (operand_form (form_of mnemonic)) first second in
    let last = and_parts (is_sized && does_fit && is_none_or_writable first)
    (is_none_or_writable second) is in
    let middle = and_parts (is_sized && does_fit) (is_none_or_writable first) last.0 in
    let prefix = and_parts is_sized does_fit middle.0 in
    record { sized = prefix.0; fitting = prefix.1; one = middle.1; two = last.1 }

pub instruction-text : (numerals : Numerals) → AreNumerals numerals → (mnemonic : Mnemonic)
    (size : Size) (first second : Option Operand)
    → IsWritableInstruction mnemonic size first second
    → IsBodyText (body_text numerals (Instr mnemonic size first second))
    (Instr mnemonic size first second)
instruction-text numerals are mnemonic size None None is =
    operation-body numerals are [] (Instr mnemonic size None None)
    (mnemonic-operation mnemonic size is.sized) refl refl (rw is.fitting refl)
instruction-text numerals are mnemonic size None (Some second) is =
    absurd (false≢true
    (sym (second-alone (operand_form (form_of mnemonic)) second) ∙ is.fitting))
instruction-text numerals are mnemonic size (Some first) None is =
    operation-body numerals are (first ∷ []) (Instr mnemonic size (Some first) None)
    (mnemonic-operation mnemonic size is.sized) refl (rw is.one refl) (rw is.fitting refl)
instruction-text numerals are mnemonic size (Some first) (Some second) is =
    operation-body numerals are (first ∷ second ∷ [])
    (Instr mnemonic size (Some first) (Some second))
    (mnemonic-operation mnemonic size is.sized) refl (rw (is.one, is.two) refl)
    (rw is.fitting refl)
