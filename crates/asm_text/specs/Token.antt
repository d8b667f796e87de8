-- The tokens of a line.
use Rattle.std.specs.{Prelude.{ℕ, ◌<◌, ◌≤◌, ◌+◌, ◌-◌, ◌==◌, Bool, not, ◌&&◌, List, [], ◌∷◌, Option, Some, None, zero, suc, length, take, slice_index, if◌then◌else◌, nat_le, Result, Ok, Err}, Char.is_ascii_digit, List.{position_or_len, before_first}}
use Rattle.msp_decode.specs.declared.reg.Reg.{Reg}
use Rattle.text_scan.specs.{declared.fault_kind.FaultKind.{FaultKind, TheVariants.Syntax}, Word.is_blank}
use Rattle.asm_text.specs.{declared.{operation.Operation.Operation, piece.Piece.Piece, token.Token.Token}, Word.{is_word_character, ends_word, is_name, number_of, operation_of, lower_case}, Name.register_of}
use Rattle.asm_text.specs.declared.piece.Piece.TheVariants as pieces
use Rattle.asm_text.specs.declared.token.Token.TheVariants as tokens

abbrev pub number_piece : Option ℕ → ℕ → Piece
number_piece None count = pieces.Stray
number_piece (Some number) count = pieces.Token (tokens.Number number) count

abbrev pub name_token : List ℕ → Option Operation → Token
name_token word operation =
    if is_name word then tokens.Name word operation else tokens.Word operation

abbrev pub named_token : Option Reg → Token → Token
named_token None name = name
named_token (Some register) name = tokens.Register register

-- registers and operations in any case
abbrev pub word_token : List ℕ → Token
word_token word =
    named_token (register_of (lower_case word)) (name_token word (operation_of (lower_case word)))

-- a word that begins with a digit is a number
unfoldable pub word_piece : List ℕ → Piece
word_piece word =
    if is_ascii_digit (slice_index word 0) then number_piece (number_of word) (length word)
    else pieces.Token (word_token word) (length word)

-- 20 to 7E, and neither `"` (22) nor `\` (5C)
abbrev pub is_text_character : ℕ → Bool
is_text_character c = nat_le 0x20 c && nat_le c 0x7E && not (c == 0x22) && not (c == 0x5C)

abbrev pub ends_text : ℕ → Bool
ends_text c = not (is_text_character c)

-- characters up to the next quote
abbrev pub text_piece : List ℕ → Piece
text_piece characters =
    let count : ℕ = position_or_len ends_text characters in
    if slice_index characters count == 0x22
    then pieces.Token (tokens.Text (take count characters)) (count + 2)
    else pieces.Stray

-- the marks `$ : , # & @ + - ( )`
abbrev pub mark_piece : ℕ → Piece
mark_piece c =
    if c == 0x24 then pieces.Token tokens.Here 1
    else if c == 0x3A then pieces.Token tokens.Colon 1
    else if c == 0x2C then pieces.Token tokens.Comma 1
    else if c == 0x23 then pieces.Token tokens.Hash 1
    else if c == 0x26 then pieces.Token tokens.Ampersand 1
    else if c == 0x40 then pieces.Token tokens.At 1
    else if c == 0x2B then pieces.Token tokens.Plus 1
    else if c == 0x2D then pieces.Token tokens.Minus 1
    else if c == 0x28 then pieces.Token tokens.Open 1
    else if c == 0x29 then pieces.Token tokens.Close 1
    else pieces.Stray

-- what stands first: a blank, a comment from `;` (3B) on, or the longest token
unfoldable pub piece_of : List ℕ → Piece
piece_of [] = pieces.Stray
piece_of (c ∷ rest) =
    if is_blank c then pieces.Blank
    else if c == 0x3B then pieces.Comment
    else if c == 0x22 then text_piece rest
    else if is_word_character c then word_piece (before_first ends_word (c ∷ rest))
    else mark_piece c

-- a token has a character or more, and at most so many
abbrev pub IsWithin : Piece → ℕ → Type 0
IsWithin (pieces.Token token count) most = (0 < count) × (count ≤ most)
IsWithin piece most = Unit {0}

-- a token before others
abbrev pub token_before : Token → Result (List Token) FaultKind → Result (List Token) FaultKind
token_before token (Ok later) = Ok (token ∷ later)
token_before token (Err kind) = Err kind

-- what a piece gives with what is read behind it, where so many characters are passed
abbrev pub with_later : Piece → (ℕ → Result (List Token) FaultKind) → Result (List Token) FaultKind
with_later pieces.Blank later = later 0
with_later pieces.Comment later = Ok []
with_later (pieces.Token token count) later = token_before token (later (count - 1))
with_later pieces.Stray later = Err Syntax

-- the tokens of characters, of which the first few may be passed
unfoldable pub tokens_behind : (skip : ℕ) → List ℕ → Result (List Token) FaultKind
tokens_behind skip [] = Ok []
tokens_behind (suc skip) (c ∷ rest) = tokens_behind skip rest
tokens_behind zero (c ∷ rest) =
    with_later (piece_of (c ∷ rest)) (λ skip. tokens_behind skip rest)

-- the tokens of a line
abbrev pub tokens_of : List ℕ → Result (List Token) FaultKind
tokens_of line = tokens_behind 0 line
