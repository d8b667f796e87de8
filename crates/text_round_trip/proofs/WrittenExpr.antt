-- The tokens of expressions, and what they are read as.
use Rattle.std.{proofs.{Common.{◌≡◌, ◌∙◌, ap, refl, ℕ, ◌<◌, arith, Bool, true, false, not, List, [], ◌∷◌, length, Option, Some, None, Ok}, lemmas.Bool.{and_parts, and_from, or_left, false≢true, ltb-true}}, specs.{Prelude.{◌==◌, ◌&&◌, slice_index, is_none, nat_lt, nat_le, if◌then◌else◌}, Char.is_ascii_digit, List.list_all}}
use Rattle.msp_decode.specs.declared.reg.Reg.{Reg}
use Rattle.asm_text.specs.declared.piece.Piece.TheVariants as pieces
use Rattle.asm_text.specs.{declared.{term.Term.{Term, TheVariants.{Number, Name, Here}}, token.Token.Token}, Expr.SignedTerm, Operand.{term_of, sign_of, terms_of, expr_of}, Token.{number_piece, word_piece, named_token, name_token, word_token}, Word.{is_word_character, is_name, is_name_character, number_of, operation_of, lower_case}, Name.register_of}
use Rattle.asm_text.specs.declared.token.Token.TheVariants as tokens
use Rattle.text_round_trip.{specs.{ReadBack.AreNumerals, StatementText.{Numerals, term_text, sign_text, more_text, expr_text}, Writable.{is_free_name, is_writable_term, is_writable_expr}}, proofs.{Falls.{ends, FallsInto, FallsAlways, falls-then, falls-apart, falls-into, falls-nothing, word-falls, plus-falls, minus-falls, here-falls}, Numerals.number-falls}}
use borrow.Author.Tests.{not-true}

abbrev pub token_of_name : List ℕ → Token
token_of_name name = tokens.Name name (operation_of (lower_case name))

abbrev term_token : Term → Token
term_token (Number number) = tokens.Number number
term_token (Name name) = token_of_name name
term_token Here = tokens.Here

abbrev sign_token : Bool → Token
sign_token false = tokens.Plus
sign_token true = tokens.Minus

-- further terms
abbrev more_tokens : List SignedTerm → List Token
more_tokens [] = []
more_tokens ((is_subtracted, term) ∷ rest) =
    sign_token is_subtracted ∷ term_token term ∷ more_tokens rest

abbrev pub expr_tokens : List SignedTerm → List Token
expr_tokens [] = []
expr_tokens ((false, term) ∷ rest) = term_token term ∷ more_tokens rest
expr_tokens ((true, term) ∷ rest) = tokens.Minus ∷ term_token term ∷ more_tokens rest

-- names are words

all-characters : (word : List ℕ) → list_all is_name_character word ≡ true
    → list_all is_word_character word ≡ true
all-characters [] all = refl
all-characters (c ∷ word) all =
    let parts = and_parts (is_name_character c) (list_all is_name_character word) all in
    and_from (is_word_character c) (list_all is_word_character word)
    (or_left (is_name_character c) (c == 46) parts.0) (all-characters word parts.1)

no-register : (answer : Option Reg) → is_none answer ≡ true → answer ≡ None
no-register None is = refl
no-register (Some register) is = absurd (false≢true is)

name-token : (name : List ℕ) → is_name name ≡ true → register_of (lower_case name) ≡ None
    → word_token name ≡ token_of_name name
name-token name is other =
    ap (λ (answer : Option Reg). named_token answer
    (name_token name (operation_of (lower_case name)))) other
    ∙ ap (λ (test : Bool). if test then token_of_name name
    else tokens.Word (operation_of (lower_case name))) is

name-piece : (name : List ℕ) → is_ascii_digit (slice_index name 0) ≡ false
    → word_piece name ≡ pieces.Token (word_token name) (length name)
unfolding word_piece
name-piece name begins =
    ap (λ (test : Bool). if test then number_piece (number_of name) (length name)
    else pieces.Token (word_token name) (length name)) begins

-- the parts of what makes a name
record IsFreeName (name : List ℕ) : Type 0 where
  is : is_name name ≡ true
  other : register_of (lower_case name) ≡ None
  some : 0 < length name
  all : list_all is_name_character name ≡ true
  begins : is_ascii_digit (slice_index name 0) ≡ false

free-name : (name : List ℕ) → is_free_name name ≡ true → IsFreeName name
free-name name is =
    let both = and_parts (is_name name) (is_none (register_of (lower_case name))) is in
    let prefix = and_parts (nat_lt 0 (length name) && nat_le (length name) 64
    && list_all is_name_character name) (not (is_ascii_digit (slice_index name 0))) both.0 in
    let middle = and_parts (nat_lt 0 (length name) && nat_le (length name) 64)
    (list_all is_name_character name) prefix.0 in
    record {
      is = both.0;
      other = no-register (register_of (lower_case name)) both.1;
      some = ltb-true 0 (length name)
          (and_parts (nat_lt 0 (length name)) (nat_le (length name) 64) middle.0).0;
      all = middle.1;
      begins = not-true (is_ascii_digit (slice_index name 0)) prefix.1;
    }

pub name-characters : (name : List ℕ) → is_free_name name ≡ true
    → list_all is_word_character name ≡ true
name-characters name is = all-characters name (free-name name is).all

pub name-falls : (name : List ℕ) → is_free_name name ≡ true
    → FallsInto name (token_of_name name ∷ [])
name-falls name is =
    let free = free-name name is in
    word-falls name (token_of_name name) (all-characters name free.all) free.some
    (name-piece name free.begins
    ∙ ap (λ (token : Token). pieces.Token token (length name)) (name-token name free.is free.other))

term-falls : (numerals : Numerals) → AreNumerals numerals → (term : Term)
    → is_writable_term term ≡ true → FallsInto (term_text numerals term) (term_token term ∷ [])
term-falls numerals are (Number number) is =
    number-falls (numerals number) number (are number (ltb-true number 65536 is))
term-falls numerals are (Name name) is = name-falls name is
term-falls numerals are Here is = falls-into here-falls

sign-falls : (is_subtracted : Bool)
    → FallsAlways (sign_text is_subtracted) (sign_token is_subtracted ∷ [])
sign-falls false = plus-falls
sign-falls true = minus-falls

abbrev pub are_terms : List SignedTerm → Bool
are_terms terms = list_all (λ term. is_writable_term term.1) terms

-- the terms of what can be written
pub terms-are : (expr : List SignedTerm) → is_writable_expr expr ≡ true → are_terms expr ≡ true
terms-are expr is = (and_parts (nat_lt 0 (length expr)) (are_terms expr) is).1

more-ends : (numerals : Numerals) (terms : List SignedTerm)
    → ends (more_text numerals terms) ≡ true
more-ends numerals [] = refl
more-ends numerals ((false, term) ∷ rest) = refl
more-ends numerals ((true, term) ∷ rest) = refl

more-falls : (numerals : Numerals) → AreNumerals numerals → (terms : List SignedTerm)
    → are_terms terms ≡ true → FallsInto (more_text numerals terms) (more_tokens terms)
more-falls numerals are [] all = falls-nothing
more-falls numerals are ((is_subtracted, term) ∷ rest) all =
    let parts = and_parts (is_writable_term term) (are_terms rest) all in
    falls-apart (falls-then (sign-falls is_subtracted) (term-falls numerals are term parts.0))
    (more-ends numerals rest) (more-falls numerals are rest parts.1)

pub expr-falls : (numerals : Numerals) → AreNumerals numerals → (expr : List SignedTerm)
    → are_terms expr ≡ true → FallsInto (expr_text numerals expr) (expr_tokens expr)
expr-falls numerals are [] all = falls-nothing
expr-falls numerals are ((false, term) ∷ rest) all =
    let parts = and_parts (is_writable_term term) (are_terms rest) all in
    falls-apart (term-falls numerals are term parts.0) (more-ends numerals rest)
    (more-falls numerals are rest parts.1)
expr-falls numerals are ((true, term) ∷ rest) all =
    let parts = and_parts (is_writable_term term) (are_terms rest) all in
    falls-then minus-falls
    (falls-apart (term-falls numerals are term parts.0) (more-ends numerals rest)
    (more-falls numerals are rest parts.1))

-- expressions are read back

term-read : (term : Term) → term_of (term_token term) ≡ Ok term
term-read (Number number) = refl
term-read term = refl

sign-read : (is_subtracted : Bool) → sign_of (sign_token is_subtracted) ≡ Ok is_subtracted
sign-read false = refl
sign-read true = refl

terms-read : (is_subtracted : Bool) (term : Term) (rest : List SignedTerm)
    → terms_of is_subtracted (term_token term ∷ more_tokens rest)
    ≡ Ok ((is_subtracted, term) ∷ rest)
unfolding terms_of
terms-read is_subtracted term [] = rw (term-read term) refl
terms-read is_subtracted term ((sign, later) ∷ rest) =
    rw (term-read term, sign-read sign, terms-read sign later rest) refl

plain-read : (term : Term) (rest : List SignedTerm)
    → expr_of (term_token term ∷ more_tokens rest)
    ≡ terms_of false (term_token term ∷ more_tokens rest)
plain-read (Number number) rest = refl
plain-read term rest = refl

pub expr-read : (expr : List SignedTerm) → is_writable_expr expr ≡ true
    → expr_of (expr_tokens expr) ≡ Ok expr
expr-read [] is = absurd (false≢true is)
expr-read ((false, term) ∷ rest) is = plain-read term rest ∙ terms-read false term rest
expr-read ((true, term) ∷ rest) is = terms-read true term rest

-- the tokens of expressions
abbrev pub is_expr_token : Token → Bool
is_expr_token (tokens.Number number) = true
is_expr_token (tokens.Name name operation) = true
is_expr_token tokens.Here = true
is_expr_token tokens.Plus = true
is_expr_token tokens.Minus = true
is_expr_token token = false

abbrev pub are_expr_tokens : List Token → Bool
are_expr_tokens all = list_all is_expr_token all

term-are : (term : Term) → is_expr_token (term_token term) ≡ true
term-are (Number number) = refl
term-are term = refl

sign-are : (is_subtracted : Bool) → is_expr_token (sign_token is_subtracted) ≡ true
sign-are false = refl
sign-are true = refl

more-are : (terms : List SignedTerm) → are_expr_tokens (more_tokens terms) ≡ true
more-are [] = refl
more-are ((is_subtracted, term) ∷ rest) =
    rw (sign-are is_subtracted, term-are term) (more-are rest)

pub expr-are : (expr : List SignedTerm) → are_expr_tokens (expr_tokens expr) ≡ true
expr-are [] = refl
expr-are ((false, term) ∷ rest) = rw (term-are term) (more-are rest)
expr-are ((true, term) ∷ rest) = rw (term-are term) (more-are rest)

pub expr-some : (expr : List SignedTerm) → is_writable_expr expr ≡ true
    → 0 < length (expr_tokens expr)
expr-some [] is = absurd (false≢true is)
expr-some ((false, term) ∷ rest) is = omega arith
expr-some ((true, term) ∷ rest) is = omega arith
