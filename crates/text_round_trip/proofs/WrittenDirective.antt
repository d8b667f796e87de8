-- Directives are read back.
use Rattle.std.{proofs.{Common.{◌≡◌, ◌∙◌, ap, refl, ℕ, ◌+◌, arith, Bool, true, false, not, cond, List, [], ◌∷◌, ◌++◌, append_assoc, length, length-append, take, Option, Result, Ok, Some}, Math.Seq.take-append_seam, lemmas.Bool.{and_parts, and_from, false≢true}}, specs.{Prelude.{◌==◌, codes, map, slice_index, nat_lt, if◌then◌else◌}, List.{list_all, position_or_len}}}
use Rattle.text_scan.specs.{declared.fault_kind.FaultKind.FaultKind, Reader.◌>>=◌}
use Rattle.asm_text.specs.{declared.{body.Body.{Body, TheVariants.{Empty, Org, Word, Byte, Ascii, Equ}}, operand.Operand.{Operand, TheVariants.Symbolic}, operation.Operation.Operation, term.Term.TheVariants.Name, token.Token.TheVariants.Text}, Expr.SignedTerm, Statement.{body_of, is_ascii_directive, all_exprs, exprs_of, operation_body, statement_body}, Token.{word_token, is_text_character, ends_text, piece_of}}
use Rattle.asm_text.specs.declared.operation.Operation.TheVariants as operations
use Rattle.asm_text.specs.declared.piece.Piece.TheVariants as pieces
use Rattle.text_round_trip.{specs.{ReadBack.AreNumerals, StatementText.{Numerals, operands_text, body_text}, Writable.{is_free_name, is_writable_expr, are_writable, is_writable_body}}, proofs.{Falls.{FallsInto, token-prefix, falls-then, falls-apart, falls-nothing, blank-falls}, Words.{IsOperation, operation-falls, first-operation, no_label}, WrittenStatement.{IsBodyText, are_operands, operation-body}}}

-- nothing
pub empty-text : IsBodyText [] Empty
empty-text = record { tokens = []; falls = falls-nothing; read = refl; plain = refl }

-- `.org`
org-operation : IsOperation (codes ".org") operations.Org
org-operation =
    record { all = refl; some = omega arith; begins = refl; register = refl; names = refl }

pub org-text : (numerals : Numerals) → AreNumerals numerals → (expr : List SignedTerm)
    → is_writable_expr expr ≡ true → IsBodyText (body_text numerals (Org expr)) (Org expr)
org-text numerals are expr is =
    operation-body numerals are (Symbolic expr ∷ []) (Org expr) org-operation refl (rw is refl) refl

-- `.word` and `.byte`
exprs-all : (exprs : List (List SignedTerm)) → all_exprs (map Symbolic exprs) ≡ Ok exprs
exprs-all [] = refl
exprs-all (expr ∷ exprs) = rw (exprs-all exprs) refl

exprs-read : (exprs : List (List SignedTerm)) → nat_lt 0 (length exprs) ≡ true
    → exprs_of (map Symbolic exprs) ≡ Ok exprs
exprs-read [] some = absurd (false≢true some)
exprs-read (expr ∷ exprs) some = exprs-all (expr ∷ exprs)

pub symbolic-are : (exprs : List (List SignedTerm)) → list_all is_writable_expr exprs ≡ true
    → are_operands (map Symbolic exprs) ≡ true
symbolic-are [] all = refl
symbolic-are (expr ∷ exprs) all =
    let parts = and_parts (is_writable_expr expr) (list_all is_writable_expr exprs) all in
    and_from (is_writable_expr expr) (are_operands (map Symbolic exprs)) parts.0
    (symbolic-are exprs parts.1)

word-directive : IsOperation (codes ".word") operations.Word
word-directive =
    record { all = refl; some = omega arith; begins = refl; register = refl; names = refl }

byte-directive : IsOperation (codes ".byte") operations.Byte
byte-directive =
    record { all = refl; some = omega arith; begins = refl; register = refl; names = refl }

-- a directive with expressions
exprs-text : (numerals : Numerals) → AreNumerals numerals → (exprs : List (List SignedTerm))
    → are_writable exprs ≡ true → {word : List ℕ} {operation : Operation}
    (make : List (List SignedTerm) → Body) → IsOperation word operation
    → is_ascii_directive (Some operation) ≡ false
    → ((all : List Operand)
    → body_of (Some operation) all ≡ (exprs_of all >>= (λ answer. Ok (make answer))))
    → IsBodyText (word ++ operands_text numerals (map Symbolic exprs)) (make exprs)
exprs-text numerals are exprs is make is_named other read =
    let parts = and_parts (nat_lt 0 (length exprs)) (list_all is_writable_expr exprs) is in
    operation-body numerals are (map Symbolic exprs) (make exprs) is_named other
    (symbolic-are exprs parts.1)
    (read (map Symbolic exprs)
    ∙ ap (λ (answer : Result (List (List SignedTerm)) FaultKind).
    answer >>= (λ all. Ok (make all))) (exprs-read exprs parts.0))

pub words-text : (numerals : Numerals) → AreNumerals numerals → (exprs : List (List SignedTerm))
    → are_writable exprs ≡ true → IsBodyText (body_text numerals (Word exprs)) (Word exprs)
words-text numerals are exprs is =
    exprs-text numerals are exprs is (λ all. Word all) word-directive refl (λ all. refl)

pub bytes-text : (numerals : Numerals) → AreNumerals numerals → (exprs : List (List SignedTerm))
    → are_writable exprs ≡ true → IsBodyText (body_text numerals (Byte exprs)) (Byte exprs)
bytes-text numerals are exprs is =
    exprs-text numerals are exprs is (λ all. Byte all) byte-directive refl (λ all. refl)

-- `.ascii`

text-length : (text rest : List ℕ) → list_all is_text_character text ≡ true
    → position_or_len ends_text (text ++ 34 ∷ rest) ≡ length text
text-length [] rest all = refl
text-length (c ∷ text) rest all =
    let parts = and_parts (is_text_character c) (list_all is_text_character text) all in
    let next = text-length text rest parts.1 in
    ap (λ (b : Bool). cond (not (not b)) (1 + position_or_len ends_text (text ++ 34 ∷ rest)) 0)
    parts.0 ∙ omega (arith, next)

quote-behind : (text rest : List ℕ) → slice_index (text ++ 34 ∷ rest) (length text) ≡ 34
quote-behind [] rest = refl
quote-behind (c ∷ text) rest = quote-behind text rest

quoted-piece : (text rest : List ℕ) → list_all is_text_character text ≡ true
    → piece_of (34 ∷ text ++ 34 ∷ rest) ≡ pieces.Token (Text text) (length text + 2)
unfolding piece_of
quoted-piece text rest all =
    let whole : List ℕ = text ++ 34 ∷ rest in
    ap (λ (count : ℕ). if slice_index whole count == 0x22
    then pieces.Token (Text (take count whole)) (count + 2) else pieces.Stray)
    (text-length text rest all)
    ∙ ap (λ (c : ℕ). if c == 0x22
    then pieces.Token (Text (take (length text) whole)) (length text + 2)
    else pieces.Stray) (quote-behind text rest)
    ∙ ap (λ (answer : List ℕ). pieces.Token (Text answer) (length text + 2))
    (take-append_seam text (34 ∷ rest))

quoted-falls : (text : List ℕ) → list_all is_text_character text ≡ true
    → FallsInto (34 ∷ text ++ 34 ∷ []) (Text text ∷ [])
quoted-falls text all = record {
  cut = λ rest apart.
      token-prefix (length text + 2) (34 ∷ text ++ 34 ∷ []) rest (Text text) (omega arith)
      (omega (arith, length-append text (34 ∷ [])))
      (ap (λ (later : List ℕ). piece_of (34 ∷ later)) (append_assoc text (34 ∷ []) rest)
      ∙ quoted-piece text rest all);
}

ascii-operation : IsOperation (codes ".ascii") operations.Ascii
ascii-operation =
    record { all = refl; some = omega arith; begins = refl; register = refl; names = refl }

ascii-read : (text : List ℕ)
    → statement_body (word_token (codes ".ascii") ∷ Text text ∷ []) ≡ Ok (Ascii text)
unfolding operation_body
ascii-read text =
    ap (λ (first : Result (Option Operation) FaultKind).
    first >>= (λ operation. operation_body operation (Text text ∷ [])))
    (first-operation ascii-operation)

pub ascii-text : (numerals : Numerals) (text : List ℕ) → list_all is_text_character text ≡ true
    → IsBodyText (body_text numerals (Ascii text)) (Ascii text)
ascii-text numerals text all = record {
  tokens = word_token (codes ".ascii") ∷ Text text ∷ [];
  falls = falls-apart (operation-falls ascii-operation) refl
      (falls-then blank-falls (quoted-falls text all));
  read = ascii-read text;
  plain = no_label (word_token (codes ".ascii")) (Text text ∷ []) refl;
}

-- `.equ`

equ-operation : IsOperation (codes ".equ") operations.Equ
equ-operation =
    record { all = refl; some = omega arith; begins = refl; register = refl; names = refl }

pub equ-text : (numerals : Numerals) → AreNumerals numerals → (name : List ℕ)
    (expr : List SignedTerm) → is_writable_body (Equ name expr) ≡ true
    → IsBodyText (body_text numerals (Equ name expr)) (Equ name expr)
equ-text numerals are name expr is =
    let parts = and_parts (is_free_name name) (is_writable_expr expr) is in
    operation-body numerals are (Symbolic ((false, Name name) ∷ []) ∷ Symbolic expr ∷ [])
    (Equ name expr) equ-operation refl (rw (parts.0, parts.1) refl) refl
