-- Lines of pieces: their words, and how long they are.
use Rattle.std.{proofs.{Common.{◌≡◌, ◌∙◌, ℕ, ◌+◌, ◌/◌, ◌%◌, ◌<◌, ◌^◌, Bool, true, false, List, [], ◌∷◌, ◌++◌, length, length-append, append_assoc, append-nil, refl, ap, sym, arith}, lemmas.Str.{IsUtf8-append, IsUtf8-from_ascii, Ascii.{IsAscii-nil, IsAscii-cons}}}, specs.{Prelude.{codes, IsUtf8}, List.join_with_byte, Str.{IsAscii, Lines.lines}}}
use Rattle.named_value.specs.Names.{IsPlainWord}
use Rattle.printed_lines.specs.Line.{flag_digit, byte_digits, word_digits, with_pieces, line_of}
use Rattle.text_scan.{specs.Word.words_of, proofs.{FirstLine.lines-line, PlainWords.{ArePlain, words_of-join, printed-join, printed_bounds, printed-ascii, plain-encoded, one_byte, two_bytes}}}
use Rattle.line_buffer.specs.LineLaw.{ArePieces, room, IsReadByWords, HasRoom}

-- pieces one after the other, and behind a text

pub with_pieces-append : (text : List ℕ) (first later : List (List ℕ))
    → with_pieces text (first ++ later) ≡ with_pieces (with_pieces text first) later
with_pieces-append text [] later = refl
with_pieces-append text (piece ∷ first) later =
    with_pieces-append (text ++ 32 ∷ piece) first later

with_pieces-behind : (front text : List ℕ) (pieces : List (List ℕ))
    → with_pieces (front ++ text) pieces ≡ front ++ with_pieces text pieces
with_pieces-behind front text [] = refl
with_pieces-behind front text (piece ∷ later) =
    ap (λ all. with_pieces all later) (append_assoc front text (32 ∷ piece))
    ∙ with_pieces-behind front (text ++ 32 ∷ piece) later

-- a line that is put in parts: up to a piece, and what follows it
pub line_of-parts : (keyword : List ℕ) (first : List (List ℕ)) (piece : List ℕ)
    (later : List (List ℕ))
    → line_of keyword (first ++ piece ∷ later)
    ≡ (with_pieces keyword first ++ 32 ∷ piece) ++ line_of [] later
line_of-parts keyword first piece later =
    let front : List ℕ = with_pieces keyword first ++ 32 ∷ piece in
    ap (λ text. text ++ codes "\n")
    (with_pieces-append keyword first (piece ∷ later)
    ∙ ap (λ all. with_pieces all later) (sym (append-nil front))
    ∙ with_pieces-behind front [] later)
    ∙ append_assoc front (with_pieces [] later) (codes "\n")

-- words of printed characters

pub pieces-append : (first later : List (List ℕ)) → ArePieces first → ArePieces later
    → ArePieces (first ++ later)
pieces-append [] later none are = are
pieces-append (piece ∷ first) later are more = (are.0, pieces-append first later are.1 more)

pub plain-flag : (flag : Bool) → IsPlainWord (flag_digit flag)
plain-flag true = (omega arith, refl)
plain-flag false = (omega arith, refl)

pub plain-byte : (byte : ℕ) → byte < 2 ^ 8 → IsPlainWord (byte_digits byte)
plain-byte byte fits = plain-encoded (byte ∷ []) (one_byte byte fits) (omega arith)

pub plain-word : (word : ℕ) → word < 2 ^ 16 → IsPlainWord (word_digits word)
plain-word word fits =
    plain-encoded (word / 256 ∷ word % 256 ∷ []) (two_bytes word fits) (omega arith)

-- the length

length-pieces : (text : List ℕ) (pieces : List (List ℕ))
    → length (with_pieces text pieces) ≡ length text + room pieces
length-pieces text [] = omega arith
length-pieces text (piece ∷ later) =
    omega (
      arith,
      length-append text (32 ∷ piece),
      length-pieces (text ++ 32 ∷ piece) later,
    )

pub has_room : HasRoom
has_room keyword pieces =
    omega (
      arith,
      length-append (with_pieces keyword pieces) (codes "\n"),
      length-pieces keyword pieces,
    )

-- the words of a line

join-seam : (first next : List ℕ) (words : List (List ℕ))
    → join_with_byte 32 ((first ++ 32 ∷ next) ∷ words)
    ≡ first ++ 32 ∷ join_with_byte 32 (next ∷ words)
join-seam first next [] = refl
join-seam first next (word ∷ words) =
    append_assoc first (32 ∷ next) (32 ∷ join_with_byte 32 (word ∷ words))

with_pieces-words : (text : List ℕ) (pieces : List (List ℕ))
    → with_pieces text pieces ≡ join_with_byte 32 (text ∷ pieces)
with_pieces-words text [] = refl
with_pieces-words text (piece ∷ later) =
    with_pieces-words (text ++ 32 ∷ piece) later ∙ join-seam text piece later

plain-pieces : (pieces : List (List ℕ)) → ArePieces pieces → ArePlain pieces
plain-pieces [] are = tt
plain-pieces (piece ∷ later) are = (are.0, plain-pieces later are.1)

pub first_line : IsReadByWords
first_line keyword pieces rest are =
    let words : List (List ℕ) = keyword ∷ pieces in
    let plain = plain-pieces words are in
    let line : List ℕ = with_pieces keyword pieces in
    let joined = with_pieces-words keyword pieces in
    record {
      line = ap lines (append_assoc line (10 ∷ []) rest)
          ∙ lines-line line rest (omega (arith, are.0.0, length-pieces keyword pieces))
          (rw joined (printed_bounds (join_with_byte 32 words) (printed-join words plain)));
      words = ap words_of joined ∙ words_of-join words plain;
    }

pub utf8_line : (keyword : List ℕ) (pieces : List (List ℕ)) → ArePieces (keyword ∷ pieces)
    → IsUtf8 (line_of keyword pieces)
utf8_line keyword pieces are =
    let line : List ℕ = with_pieces keyword pieces in
    let printed : IsAscii line =
    rw (with_pieces-words keyword pieces)
    (printed-ascii _ (printed-join (keyword ∷ pieces) (plain-pieces (keyword ∷ pieces) are))) in
    IsUtf8-append line (10 ∷ []) (IsUtf8-from_ascii line printed)
    (IsUtf8-from_ascii (10 ∷ []) (IsAscii-cons 10 [] (omega arith) IsAscii-nil))
