-- A source is read back.
use Rattle.std.{proofs.{Common.{◌≡◌, ◌∙◌, ap, sym, subst, ℕ, zero, suc, ◌+◌, ◌<◌, ◌≤◌, arith, true, List, [], ◌∷◌, ◌++◌, append_assoc, length, get_or, refl, Result, Ok, Option, Some, None}, lemmas.{Bool.{and_parts, leb-true}, Str.IsUtf8-from_ascii}}, specs.{Prelude.{codes, map, nat_le}, List.list_all, Str.{IsAscii, Lines.lines}}}
use Rattle.text_scan.{specs.{declared.{fault_at.FaultAt.FaultAt, fault_kind.FaultKind.FaultKind}, LineFold.{numbered_lines, text_lines}, Reader.{◌>>=◌, in_line}}, proofs.{FirstLine.{lines_cut, lines-line}, TextUtf8.utf8_of-whole}}
use Rattle.asm_text.specs.{declared.{statement.Statement.Statement, body.Body.{Body, TheVariants.{Empty, Instr, Org, Word, Byte, Ascii, Equ}}, token.Token.TheVariants.Colon}, Operand.all_of, Source.{statement_of, source_of, line_statement, statement_in_line}}
use Rattle.text_round_trip.{specs.{ReadBack.{AreNumerals, at_line, source_text, from_line}, StatementText.{Numerals, statement_text, body_text, label_text}, Writable.{is_writable, is_free_label, is_writable_body}}, proofs.{PrintedText.{is_printed, are_printed, line-printed}, Falls.{FallsInto, falls-then, falls-apart, colon-falls, blank-falls}, WrittenStatement.{IsBodyText, instruction-parts, instruction-text}, WrittenExpr.{token_of_name, name-falls}, Words.{without_label, line-read}, WrittenDirective.{empty-text, org-text, words-text, bytes-text, ascii-text, equ-text}}}

-- A line is read back.

-- What stands behind a label is read back.

pub body-written : (numerals : Numerals) → AreNumerals numerals → (body : Body)
    → is_writable_body body ≡ true → IsBodyText (body_text numerals body) body
body-written numerals are Empty is = empty-text
body-written numerals are (Instr mnemonic size first second) is =
    instruction-text numerals are mnemonic size first second
    (instruction-parts mnemonic size first second is)
body-written numerals are (Org expr) is = org-text numerals are expr is
body-written numerals are (Word exprs) is = words-text numerals are exprs is
body-written numerals are (Byte exprs) is = bytes-text numerals are exprs is
body-written numerals are (Ascii text) is = ascii-text numerals text is
body-written numerals are (Equ name expr) is = equ-text numerals are name expr is

-- a name with a colon and a blank before a text
labelled-text : (name text : List ℕ)
    → name ++ (codes ":" ++ (codes " " ++ text)) ≡ name ++ codes ": " ++ text
labelled-text name text = sym (append_assoc name (codes ": ") text)

labelled-back : (number : ℕ) (label : Option (List ℕ)) (text : List ℕ) (body : Body)
    → is_free_label label ≡ true → IsBodyText text body
    → line_statement number (label_text label ++ text) ≡ Ok (statement_in_line number (label, body))
labelled-back number None text body free is =
    line-read number (None, body) is.falls
    (is.plain ∙ ap (λ (answer : Result Body FaultKind). answer >>= without_label) is.read)
labelled-back number (Some name) text body free is =
    line-read number (Some name, body)
    (subst (λ (line : List ℕ). FallsInto line (token_of_name name ∷ Colon ∷ is.tokens))
    (labelled-text name text)
    (falls-apart (name-falls name free) refl
    (falls-then colon-falls (falls-then blank-falls is.falls))))
    (ap (λ (answer : Result Body FaultKind). answer >>= (λ body. Ok (Some name, body))) is.read)

pub read-back : (numerals : Numerals) (number : ℕ) (statement : Statement)
    → AreNumerals numerals → is_writable statement ≡ true
    → line_statement number (statement_text numerals statement) ≡ Ok (at_line number statement)
read-back numerals number statement are is =
    let parts = and_parts (is_free_label statement.label) (is_writable_body statement.body) is in
    labelled-back number statement.label (body_text numerals statement.body) statement.body parts.0
    (body-written numerals are statement.body parts.1)

-- a printed line and its end

printed-at : (line : List ℕ) → are_printed line ≡ true → (k : ℕ) → k < length line
    → (32 ≤ get_or line k 0) × (get_or line k 0 ≤ 126)
printed-at [] all k below = absurd (omega arith)
printed-at (c ∷ line) all zero below =
    let parts = and_parts (is_printed c) (are_printed line) all in
    let within = and_parts (nat_le 32 c) (nat_le c 126) parts.0 in
    (leb-true 32 c within.0, leb-true c 126 within.1)
printed-at (c ∷ line) all (suc k) below =
    printed-at line (and_parts (is_printed c) (are_printed line) all).1 k (omega arith)

first-line : (line rest : List ℕ) → are_printed line ≡ true
    → lines (line ++ 10 ∷ rest) ≡ line ∷ lines rest
first-line [] rest all = lines_cut (10 ∷ rest) 0 (omega arith) refl
first-line (c ∷ line) rest all =
    lines-line (c ∷ line) rest (omega arith)
    (λ k below. let within = printed-at (c ∷ line) all k below in omega (arith, within.0))

-- the lines of a text, numbered from one on
abbrev lines_from : ℕ → List ℕ → List (ℕ × List ℕ)
lines_from number text = numbered_lines number (lines text)

-- a line before others
abbrev line_before : Numerals → Statement → List Statement → List ℕ
line_before numerals statement rest =
    statement_text numerals statement ++ 10 ∷ source_text numerals rest

text-cut : (numerals : Numerals) (statement : Statement) (rest : List Statement)
    → source_text numerals (statement ∷ rest) ≡ line_before numerals statement rest
text-cut numerals statement rest =
    append_assoc (statement_text numerals statement) (codes "\n") (source_text numerals rest)

-- a statement and the later ones
both-read : {read : Result Statement FaultAt} {later : Result (List Statement) FaultAt}
    (statement : Statement) (statements : List Statement) → read ≡ Ok statement
    → later ≡ Ok statements
    → (read >>= (λ first. later >>= (λ rest. Ok (first ∷ rest)))) ≡ Ok (statement ∷ statements)
both-read statement statements first rest = rw (first, rest) refl

read-from : (numerals : Numerals) → AreNumerals numerals → (all : List Statement)
    → list_all is_writable all ≡ true → (number : ℕ)
    → all_of {Fault = FaultAt} (map statement_of (lines_from number (source_text numerals all)))
    ≡ Ok (from_line number all)
read-from numerals are [] writable number = refl
read-from numerals are (statement ∷ rest) writable number =
    let parts = and_parts (is_writable statement) (list_all is_writable rest) writable in
    let line : List ℕ = statement_text numerals statement in
    ap (λ (text : List ℕ). all_of (map statement_of (lines_from number text)))
    (text-cut numerals statement rest)
    ∙ ap (λ (all : List (List ℕ)). all_of (map statement_of (numbered_lines number all)))
    (first-line line (source_text numerals rest) (line-printed numerals are statement parts.0))
    ∙ both-read (at_line number statement) (from_line (number + 1) rest)
    (ap (in_line number) (read-back numerals number statement are parts.0))
    (read-from numerals are rest parts.1 (number + 1))

-- the text is UTF-8

printed-ascii : (line rest : List ℕ) → are_printed line ≡ true → IsAscii rest
    → IsAscii (line ++ 10 ∷ rest)
printed-ascii [] rest all ascii zero = omega arith
printed-ascii [] rest all ascii (suc i) = ascii i
printed-ascii (c ∷ line) rest all ascii zero =
    let within = printed-at (c ∷ line) all 0 (omega arith) in omega (arith, within.1)
printed-ascii (c ∷ line) rest all ascii (suc i) =
    printed-ascii line rest (and_parts (is_printed c) (are_printed line) all).1 ascii i

source-ascii : (numerals : Numerals) → AreNumerals numerals → (all : List Statement)
    → list_all is_writable all ≡ true → IsAscii (source_text numerals all)
source-ascii numerals are [] writable = λ i. omega arith
source-ascii numerals are (statement ∷ rest) writable =
    let parts = and_parts (is_writable statement) (list_all is_writable rest) writable in
    subst (λ (text : List ℕ). IsAscii text) (sym (text-cut numerals statement rest))
    (printed-ascii (statement_text numerals statement) (source_text numerals rest)
    (line-printed numerals are statement parts.0) (source-ascii numerals are rest parts.1))

pub source-read_back : (numerals : Numerals) (all : List Statement) → AreNumerals numerals
    → list_all is_writable all ≡ true
    → source_of (source_text numerals all) ≡ Ok (from_line 1 all)
unfolding source_of
source-read_back numerals all are writable =
    let text : List ℕ = source_text numerals all in
    let utf8 = (utf8_of-whole text).1
    (IsUtf8-from_ascii text (source-ascii numerals are all writable)) in
    ap (λ (sound : Result Unit FaultAt).
    sound >>= (λ _. all_of (map statement_of (text_lines text)))) utf8
    ∙ read-from numerals are all writable 1
