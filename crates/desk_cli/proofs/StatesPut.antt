-- The lines of entries, one after another.
use Rattle.std.{proofs.{Common.{◌≡◌, ◌∙◌, ◌<◌, ◌+◌, ℕ, List, [], ◌∷◌, ◌++◌, Option, Some, None, length, take, drop, get_or, take-append-drop, append_assoc, append-nil, refl, ap, sym}, lemmas.List.take_more}, specs.Prelude.codes}
use Rattle.desk_memory.specs.Entry.{Entry}
use Rattle.printed_lines.specs.Line.{line_of, with_pieces}
use Rattle.line_buffer.proofs.PieceLines.{line_of-parts}
use Rattle.desk_cli.specs.StateText.{desk_pieces, form_for, form_name, state_line, states_text}

states-append : (before later : List Entry)
    → states_text (before ++ later) ≡ states_text before ++ states_text later
states-append [] later = refl
states-append (entry ∷ before) later =
    ap (λ (rest : List ℕ). state_line entry ++ rest) (states-append before later)
    ∙ sym (append_assoc (state_line entry) (states_text before) (states_text later))

-- one line more
pub states-next : (entries : List Entry) (i : ℕ) (d entry : Entry) → i < length entries
    → entry ≡ get_or entries i d
    → states_text (take (i + 1) entries) ≡ states_text (take i entries) ++ state_line entry
states-next entries i d entry below is =
    ap states_text (take_more entries i d below)
    ∙ states-append (take i entries) (get_or entries i d ∷ [])
    ∙ ap (λ (rest : List ℕ). states_text (take i entries) ++ rest)
    (append-nil (state_line (get_or entries i d)))
    ∙ ap (λ (next : Entry). states_text (take i entries) ++ state_line next) (sym is)

-- the text begins with the lines so far and one more
pub states-begin : (entries : List Entry) (i : ℕ) (d entry : Entry) → i < length entries
    → entry ≡ get_or entries i d
    → states_text entries
    ≡ (states_text (take i entries) ++ state_line entry) ++ states_text (drop (i + 1) entries)
states-begin entries i d entry below is =
    ap states_text (sym (take-append-drop (i + 1) entries))
    ∙ states-append (take (i + 1) entries) (drop (i + 1) entries)
    ∙ ap (λ (begin : List ℕ). begin ++ states_text (drop (i + 1) entries))
    (states-next entries i d entry below is)

-- a line that is put in parts: up to its names, and what follows them
pub line-parts : (name : List ℕ) (gone : Option (List ℕ)) (later : List (List ℕ))
    → line_of (form_name (form_for gone)) (name ∷ desk_pieces gone ++ later)
    ≡ with_pieces (form_name (form_for gone)) (name ∷ desk_pieces gone) ++ line_of [] later
line-parts name None later = line_of-parts (codes "state2") [] name later
line-parts name (Some desk) later =
    line_of-parts (codes "moved") (name ∷ codes "to" ∷ []) desk later
