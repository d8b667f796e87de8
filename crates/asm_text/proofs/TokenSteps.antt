-- The tokens of a line, one after another.
use Rattle.std.{proofs.{Common.{◌≡◌, ◌∙◌, ap, sym, refl, subst, ℕ, zero, suc, ◌+◌, ◌-◌, ◌<◌, ◌≤◌, arith, List, [], ◌∷◌, ◌++◌, append_assoc, append-nil, length, take, length-drop, drop, IfOk, MatchResult, drop-cons, add-one, Result, Ok, Err}, Math.ListN.drop_of_length-le, lemmas.{List.{drop-drop, take_rest}, Bool.false≢true}}, specs.{Result.is_ok, declared.alloc.AllocError.AllocError}}
use Rattle.text_scan.specs.declared.{fault_kind.FaultKind.{FaultKind, TheVariants.Syntax}, word_fault.WordFault.WordFault}
use Rattle.asm_text.{specs.{declared.{piece.Piece.Piece, token.Token.Token}, Token.{piece_of, IsWithin, token_before, with_later, tokens_behind}}, proofs.Behind.behind}
use Rattle.asm_text.specs.declared.piece.Piece.TheVariants as pieces

-- What a call answered, where its refusal was passed on as another.

-- `map_err` gave a value, so there was that value
pub ok_of_map_err : {T E D : Type 0} (P : E → Type 0) (r : Result T E) (s : Result T D) (x : T)
    → MatchResult r (λ y. s ≡ Ok y) P → is_ok s ≡ is_ok r → s ≡ Ok x → r ≡ Ok x
ok_of_map_err P (Ok y) s x cases variant is =
    let same : y ≡ x = cc (cases, is) in ap (λ v. Ok v) same
ok_of_map_err P (Err e) s x cases variant is = absurd (false≢true (sym variant ∙ ap is_ok is))

-- characters that are passed
tokens_behind-passed : (count : ℕ) (line : List ℕ)
    → tokens_behind count line ≡ tokens_behind 0 (drop count line)
unfolding tokens_behind
tokens_behind-passed zero line = refl
tokens_behind-passed (suc count) [] = refl
tokens_behind-passed (suc count) (c ∷ rest) = tokens_behind-passed count rest

behind-token : (prefix : List Token) (token : Token) (rest : Result (List Token) FaultKind)
    → behind prefix (token_before token rest) ≡ behind (prefix ++ token ∷ []) rest
behind-token prefix token (Ok rest) =
    ap (λ all. Ok all) (sym (append_assoc prefix (token ∷ []) rest))
behind-token prefix token (Err kind) = refl

-- what the characters from an index on give
abbrev pub tokens_from : ℕ → List ℕ → Result (List Token) FaultKind
tokens_from at line = tokens_behind 0 (drop at line)

left-cons : (at : ℕ) (line : List ℕ) → at < length line
    → tokens_from at line
    ≡ with_later (piece_of (drop at line)) (λ count. tokens_behind count (drop (suc at) line))
unfolding tokens_behind
left-cons at line below =
    subst (λ (rest : List ℕ). tokens_behind 0 rest
    ≡ with_later (piece_of rest) (λ count. tokens_behind count (drop (suc at) line)))
    (sym (drop-cons line at 0 below)) refl

-- what the first of them give
left-piece : (at : ℕ) (line : List ℕ) (piece : Piece) → at < length line
    → piece_of (drop at line) ≡ piece
    → tokens_from at line ≡ with_later piece (λ count. tokens_behind count (drop (suc at) line))
left-piece at line piece below is =
    left-cons at line below
    ∙ ap (λ answer. with_later answer (λ count. tokens_behind count (drop (suc at) line))) is

pub left-blank : (at : ℕ) (line : List ℕ) → at < length line
    → piece_of (drop at line) ≡ pieces.Blank → tokens_from at line ≡ tokens_from (at + 1) line
left-blank at line below is =
    left-piece at line pieces.Blank below is
    ∙ ap (λ (n : ℕ). tokens_behind 0 (drop n line)) (sym (add-one at))

pub left-token : (at count : ℕ) (line : List ℕ) (token : Token) → at < length line → 0 < count
    → piece_of (drop at line) ≡ pieces.Token token count
    → tokens_from at line ≡ token_before token (tokens_from (at + count) line)
left-token at count line token below some is =
    let index : suc at + (count - 1) ≡ at + count = omega (arith, some) in
    left-piece at line (pieces.Token token count) below is
    ∙ ap (token_before token)
    (tokens_behind-passed (count - 1) (drop (suc at) line)
    ∙ ap (tokens_behind 0) (drop-drop (count - 1) (suc at) line)
    ∙ ap (λ (n : ℕ). tokens_behind 0 (drop n line)) index)

-- how far a line was read
pub record ReadTo (whole : Result (List Token) FaultKind) (at : ℕ) (line : List ℕ)
    (prefix : List Token) : Type 0 where
  pub within : at ≤ length line
  pub so_far : whole ≡ behind prefix (tokens_from at line)

pub read_to-blank : {whole : Result (List Token) FaultKind} {at : ℕ} {line : List ℕ}
    {prefix : List Token} → ReadTo whole at line prefix → at < length line
    → piece_of (drop at line) ≡ pieces.Blank → ReadTo whole (at + 1) line prefix
read_to-blank {at = at} {line = line} {prefix = prefix} to below is = record {
  within = omega arith;
  so_far = to.so_far ∙ ap (behind prefix) (left-blank at line below is);
}

pub read_to-token : {whole : Result (List Token) FaultKind} {at : ℕ} {line : List ℕ}
    {prefix : List Token} (more : List Token) (token : Token) (count : ℕ)
    → ReadTo whole at line prefix → at < length line → 0 < count → at + count ≤ length line
    → piece_of (drop at line) ≡ pieces.Token token count → more ≡ prefix ++ token ∷ []
    → ReadTo whole (at + count) line more
read_to-token {at = at} {line = line} {prefix = prefix} more token count to below
    some within is adds = rw adds record {
      within = within;
      so_far = to.so_far ∙ ap (behind prefix) (left-token at count line token below some is)
          ∙ behind-token prefix token (tokens_from (at + count) line);
    }

pub read_to-comment : {whole : Result (List Token) FaultKind} {at : ℕ} {line : List ℕ}
    {prefix : List Token} → ReadTo whole at line prefix → at < length line
    → piece_of (drop at line) ≡ pieces.Comment → whole ≡ Ok prefix
read_to-comment {at = at} {line = line} {prefix = prefix} to below is =
    to.so_far ∙ ap (behind prefix) (left-piece at line pieces.Comment below is)
    ∙ ap (λ all. Ok all) (append-nil prefix)

pub read_to-stray : {whole : Result (List Token) FaultKind} {at : ℕ} {line : List ℕ}
    {prefix : List Token} → ReadTo whole at line prefix → at < length line
    → piece_of (drop at line) ≡ pieces.Stray → whole ≡ Err Syntax
read_to-stray {at = at} {line = line} {prefix = prefix} to below is =
    to.so_far ∙ ap (behind prefix) (left-piece at line pieces.Stray below is)

left-none : (at : ℕ) (line : List ℕ) → length line ≤ at → tokens_from at line ≡ Ok []
unfolding tokens_behind
left-none at line over = rw (drop_of_length-le line over) refl

pub read_to-end : {whole : Result (List Token) FaultKind} {at : ℕ} {line : List ℕ}
    {prefix : List Token} → ReadTo whole at line prefix → length line ≤ at → whole ≡ Ok prefix
read_to-end {at = at} {line = line} {prefix = prefix} to over =
    to.so_far ∙ ap (behind prefix) (left-none at line over)
    ∙ ap (λ all. Ok all) (append-nil prefix)

-- the piece that a call gave
pub piece_gives : {piece : Piece} (P : AllocError → Type 0) (r : Result Piece AllocError)
    (s : Result Piece WordFault) (at : ℕ) (line : List ℕ)
    → MatchResult r (λ y. s ≡ Ok y) P → is_ok s ≡ is_ok r → s ≡ Ok piece
    → IfOk r (λ p. p ≡ piece_of (take (length line - at) (drop at line)))
    → piece_of (drop at line) ≡ piece
piece_gives {piece = piece} P r s at line cases variant is says =
    let reads : piece ≡ piece_of (take (length line - at) (drop at line)) =
    rw (ok_of_map_err P r s piece cases variant is) at says in
    ap piece_of (sym (take_rest line at)) ∙ sym reads

pub token_within : {token : Token} {count at : ℕ} (P : AllocError → Type 0)
    (r : Result Piece AllocError) (s : Result Piece WordFault) (line : List ℕ)
    → MatchResult r (λ y. s ≡ Ok y) P → is_ok s ≡ is_ok r → s ≡ Ok (pieces.Token token count)
    → IfOk r (λ p. IsWithin p (length (take (length line - at) (drop at line))))
    → at ≤ length line
    → (0 < count) × (at + count ≤ length line)
token_within {token = token} {count = count} {at = at} P r s line cases variant is says within =
    let fits : (0 < count) × (count ≤ length (take (length line - at) (drop at line))) =
    rw (ok_of_map_err P r s (pieces.Token token count) cases variant is) at says in
    let long : length (drop at line) ≡ length line - at = length-drop at line in
    (fits.0, omega (arith, fits.1, ap length (take_rest line at), long, within))
