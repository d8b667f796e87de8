-- How a text falls into tokens, piece by piece.
use Rattle.std.{proofs.{Common.{◌≡◌, ◌∙◌, ap, sym, refl, ℕ, ◌+◌, ◌<◌, arith, Bool, true, false, cond, not, List, [], ◌∷◌, ◌++◌, append_assoc, length, take, drop, length-append, Result, Ok, Err}, Math.Seq.{drop-append_seam, take-append_seam}, lemmas.Bool.{ne_eqb, false≢true, and_parts}}, specs.{Prelude.{◌==◌, codes}, List.{list_all, position_or_len, before_first}}}
use Rattle.text_scan.specs.declared.fault_kind.FaultKind.{FaultKind}
use Rattle.asm_text.specs.declared.piece.Piece.TheVariants as pieces
use Rattle.asm_text.{specs.{declared.token.Token.{Token, TheVariants.{Here, Colon, Comma, Hash, Ampersand, At, Plus, Minus, Open, Close}}, Word.{is_word_character, ends_word}, Token.{word_piece, piece_of, token_before, tokens_of}}, proofs.{Behind.{behind, behind-none}, TokenSteps.{left-blank, left-token}}}

-- no word goes on there
abbrev pub ends : List ℕ → Bool
ends [] = true
ends (c ∷ rest) = ends_word c

-- a text that falls into these tokens, whatever stands behind it
pub record FallsAlways (text : List ℕ) (tokens : List Token) : Type 0 where
  pub cut : (rest : List ℕ) → tokens_of (text ++ rest) ≡ behind tokens (tokens_of rest)

-- a text that does so where no word goes on behind it
pub record FallsInto (text : List ℕ) (tokens : List Token) : Type 0 where
  pub cut : (rest : List ℕ) → ends rest ≡ true
      → tokens_of (text ++ rest) ≡ behind tokens (tokens_of rest)

behind-behind : (a b : List Token) (outcome : Result (List Token) FaultKind)
    → behind a (behind b outcome) ≡ behind (a ++ b) outcome
behind-behind a b (Ok later) = ap (λ all. Ok all) (sym (append_assoc a b later))
behind-behind a b (Err kind) = refl

before-behind : (token : Token) (outcome : Result (List Token) FaultKind)
    → token_before token outcome ≡ behind (token ∷ []) outcome
before-behind token (Ok later) = refl
before-behind token (Err kind) = refl

-- no word goes on behind a text and another
pub ends-append : (a rest : List ℕ) → ends a ≡ true → ends rest ≡ true → ends (a ++ rest) ≡ true
ends-append [] rest first next = next
ends-append (c ∷ a) rest first next = first

pub falls-then : {a b : List ℕ} {first next : List Token} → FallsAlways a first
    → FallsInto b next → FallsInto (a ++ b) (first ++ next)
falls-then {a = a} {b = b} {first = first} {next = next} before after = record {
  cut = λ rest apart.
      ap tokens_of (append_assoc a b rest)
      ∙ before.cut (b ++ rest)
      ∙ ap (behind first) (after.cut rest apart)
      ∙ behind-behind first next (tokens_of rest);
}

pub falls-apart : {a b : List ℕ} {first next : List Token} → FallsInto a first
    → ends b ≡ true → FallsInto b next → FallsInto (a ++ b) (first ++ next)
falls-apart {a = a} {b = b} {first = first} {next = next} before between after = record {
  cut = λ rest apart.
      ap tokens_of (append_assoc a b rest)
      ∙ before.cut (b ++ rest) (ends-append b rest between apart)
      ∙ ap (behind first) (after.cut rest apart)
      ∙ behind-behind first next (tokens_of rest);
}

-- nothing falls into nothing
pub falls-nothing : FallsInto [] []
falls-nothing = record { cut = λ rest apart. behind-none (tokens_of rest) }

-- a token that begins a text
pub token-prefix : (count : ℕ) (text rest : List ℕ) (token : Token) → 0 < count
    → count ≡ length text → piece_of (text ++ rest) ≡ pieces.Token token count
    → tokens_of (text ++ rest) ≡ behind (token ∷ []) (tokens_of rest)
token-prefix count text rest token some long is =
    let passes : 0 + count ≡ length text = omega (arith, long) in
    let below : 0 < length (text ++ rest) = omega (arith, some, long, length-append text rest) in
    left-token 0 count (text ++ rest) token below some is
    ∙ ap (token_before token)
    (ap (λ (n : ℕ). tokens_of (drop n (text ++ rest))) passes
    ∙ ap tokens_of (drop-append_seam text rest))
    ∙ before-behind token (tokens_of rest)

blank-prefix : (c : ℕ) (rest : List ℕ) → piece_of (c ∷ rest) ≡ pieces.Blank
    → tokens_of (c ∷ rest) ≡ tokens_of rest
blank-prefix c rest is = left-blank 0 (c ∷ rest) (omega arith) is

pub blank-falls : FallsAlways (codes " ") []
unfolding piece_of
blank-falls = record { cut = λ rest. blank-prefix 32 rest refl ∙ behind-none (tokens_of rest) }

-- a mark
mark-falls : (mark : ℕ) (token : Token)
    → ((rest : List ℕ) → piece_of (mark ∷ rest) ≡ pieces.Token token 1)
    → FallsAlways (mark ∷ []) (token ∷ [])
mark-falls mark token is = record {
  cut = λ rest. token-prefix 1 (mark ∷ []) rest token (omega arith) refl (is rest);
}

pub colon-falls : FallsAlways (codes ":") (Colon ∷ [])
unfolding piece_of
colon-falls = mark-falls 58 Colon (λ rest. refl)

pub comma-falls : FallsAlways (codes ",") (Comma ∷ [])
unfolding piece_of
comma-falls = mark-falls 44 Comma (λ rest. refl)

pub hash-falls : FallsAlways (codes "#") (Hash ∷ [])
unfolding piece_of
hash-falls = mark-falls 35 Hash (λ rest. refl)

pub ampersand-falls : FallsAlways (codes "&") (Ampersand ∷ [])
unfolding piece_of
ampersand-falls = mark-falls 38 Ampersand (λ rest. refl)

pub at-falls : FallsAlways (codes "@") (At ∷ [])
unfolding piece_of
at-falls = mark-falls 64 At (λ rest. refl)

pub plus-falls : FallsAlways (codes "+") (Plus ∷ [])
unfolding piece_of
plus-falls = mark-falls 43 Plus (λ rest. refl)

pub minus-falls : FallsAlways (codes "-") (Minus ∷ [])
unfolding piece_of
minus-falls = mark-falls 45 Minus (λ rest. refl)

pub open-falls : FallsAlways (codes "(") (Open ∷ [])
unfolding piece_of
open-falls = mark-falls 40 Open (λ rest. refl)

pub close-falls : FallsAlways (codes ")") (Close ∷ [])
unfolding piece_of
close-falls = mark-falls 41 Close (λ rest. refl)

pub here-falls : FallsAlways (codes "$") (Here ∷ [])
unfolding piece_of
here-falls = mark-falls 36 Here (λ rest. refl)

-- what falls always does so before what ends a word
pub falls-into : {text : List ℕ} {tokens : List Token} → FallsAlways text tokens
    → FallsInto text tokens
falls-into falls = record { cut = λ rest apart. falls.cut rest }

-- the characters of a word up to its end
word-length : (word rest : List ℕ) → list_all is_word_character word ≡ true → ends rest ≡ true
    → position_or_len ends_word (word ++ rest) ≡ length word
word-length [] [] all apart = refl
word-length [] (c ∷ rest) all apart =
    ap (λ (b : Bool). cond (not b) (1 + position_or_len ends_word rest) 0) apart
word-length (c ∷ word) rest all apart =
    let parts = and_parts (is_word_character c) (list_all is_word_character word) all in
    let next = word-length word rest parts.1 apart in
    ap (λ (b : Bool). cond (not (not b)) (1 + position_or_len ends_word (word ++ rest)) 0) parts.0
    ∙ omega (arith, next)

word-cut : (word rest : List ℕ) → list_all is_word_character word ≡ true → ends rest ≡ true
    → before_first ends_word (word ++ rest) ≡ word
word-cut word rest all apart =
    ap (λ (n : ℕ). take n (word ++ rest)) (word-length word rest all apart)
    ∙ take-append_seam word rest

other-character : (c d : ℕ) → is_word_character c ≡ true → is_word_character d ≡ false
    → (c == d) ≡ false
other-character c d is other =
    ne_eqb c d (λ same. false≢true (sym other ∙ ap is_word_character (sym same) ∙ is))

word-piece_of : (c : ℕ) (rest : List ℕ) → is_word_character c ≡ true
    → piece_of (c ∷ rest) ≡ word_piece (before_first ends_word (c ∷ rest))
unfolding piece_of
word-piece_of c rest is =
    rw (
      other-character c 32 is refl,
      other-character c 9 is refl,
      other-character c 0x3B is refl,
      other-character c 0x22 is refl,
      is,
    ) refl

pub word-falls : (word : List ℕ) (token : Token) → list_all is_word_character word ≡ true
    → 0 < length word → word_piece word ≡ pieces.Token token (length word)
    → FallsInto word (token ∷ [])
word-falls [] token all some is = absurd (omega arith)
word-falls (c ∷ word) token all some is =
    let parts = and_parts (is_word_character c) (list_all is_word_character word) all in
    record {
      cut = λ rest apart.
          token-prefix (length (c ∷ word)) (c ∷ word) rest token some refl
          (word-piece_of c (word ++ rest) parts.0
          ∙ ap word_piece (word-cut (c ∷ word) rest all apart) ∙ is);
    }
