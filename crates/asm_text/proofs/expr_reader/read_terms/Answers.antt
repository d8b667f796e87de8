-- The terms of an expression, one after another.
use Rattle.std.proofs.{Common.{◌≡◌, ◌∙◌, ap, sym, Bool, List, [], ◌∷◌, ◌++◌, ◌-◌, ◌<◌, ◌≤◌, arith, length, take, drop, get_or, Result, Ok, Err}, lemmas.{List.take_rest, Result.err_from_is_err_and}}
use Rattle.text_scan.specs.{declared.fault_kind.FaultKind.{FaultKind, TheVariants.Syntax}, Reader.◌>>=◌}
use Rattle.asm_text.{specs.{declared.{term.Term.Term, token.Token.Token}, Expr.SignedTerm, Operand.{term_of, sign_of, terms_of}}, proofs.{Behind.{behind, behind-values}, TokenSteps.ok_of_map_err}}
use Rattle.asm_text.proofs.expr_reader.read_terms.Goals as goal

terms-more : {whole : Result (List SignedTerm) FaultKind} (prefix more : List SignedTerm)
    (is_subtracted next : Bool) (token sign : Token) (rest : List Token) (term : Term)
    → whole ≡ behind prefix (terms_of is_subtracted (token ∷ sign ∷ rest))
    → term_of token ≡ Ok term → sign_of sign ≡ Ok next → more ≡ prefix ++ (is_subtracted, term) ∷ []
    → whole ≡ behind more (terms_of next rest)
unfolding terms_of
terms-more prefix more is_subtracted next token sign rest term so_far is has_sign adds =
    rw adds (so_far ∙ ap (λ list. behind prefix (list >>= (λ value. sign_of sign >>= (λ n. terms_of
    n rest
    >>= (λ later. Ok ((is_subtracted, value) ∷ later)))))) is
    ∙ ap (λ list. behind prefix (list >>= (λ n. terms_of n rest
    >>= (λ later. Ok ((is_subtracted, term) ∷ later))))) has_sign
    ∙ behind-values prefix (is_subtracted, term) (terms_of next rest))

terms-no_term : {whole : Result (List SignedTerm) FaultKind} (prefix : List SignedTerm)
    (is_subtracted : Bool) (token sign : Token) (rest : List Token) (kind : FaultKind)
    → whole ≡ behind prefix (terms_of is_subtracted (token ∷ sign ∷ rest))
    → term_of token ≡ Err kind → whole ≡ Err kind
unfolding terms_of
terms-no_term prefix is_subtracted token sign rest kind so_far is =
    so_far ∙ ap (λ list. behind prefix (list >>= (λ value. sign_of sign >>= (λ n. terms_of n rest
    >>= (λ later. Ok ((is_subtracted, value) ∷ later)))))) is

terms-no_sign : {whole : Result (List SignedTerm) FaultKind} (prefix : List SignedTerm)
    (is_subtracted : Bool) (token sign : Token) (rest : List Token) (term : Term) (kind : FaultKind)
    → whole ≡ behind prefix (terms_of is_subtracted (token ∷ sign ∷ rest))
    → term_of token ≡ Ok term → sign_of sign ≡ Err kind → whole ≡ Err kind
unfolding terms_of
terms-no_sign prefix is_subtracted token sign rest term kind so_far is has_sign =
    so_far ∙ ap (λ list. behind prefix (list >>= (λ value. sign_of sign >>= (λ n. terms_of n rest
    >>= (λ later. Ok ((is_subtracted, value) ∷ later)))))) is
    ∙ ap (λ list. behind prefix (list >>= (λ n. terms_of n rest
    >>= (λ later. Ok ((is_subtracted, term) ∷ later))))) has_sign

terms-last : {whole : Result (List SignedTerm) FaultKind} (prefix more : List SignedTerm)
    (is_subtracted : Bool) (token : Token) (term : Term)
    → whole ≡ behind prefix (terms_of is_subtracted (token ∷ [])) → term_of token ≡ Ok term
    → more ≡ prefix ++ (is_subtracted, term) ∷ [] → whole ≡ Ok more
unfolding terms_of
terms-last prefix more is_subtracted token term so_far is adds =
    rw adds (so_far ∙ ap (λ list. behind prefix (list >>= (λ value. Ok ((is_subtracted, value) ∷
    [])))) is)

terms-last_fault : {whole : Result (List SignedTerm) FaultKind} (prefix : List SignedTerm)
    (is_subtracted : Bool) (token : Token) (kind : FaultKind)
    → whole ≡ behind prefix (terms_of is_subtracted (token ∷ [])) → term_of token ≡ Err kind
    → whole ≡ Err kind
unfolding terms_of
terms-last_fault prefix is_subtracted token kind so_far is =
    so_far ∙ ap (λ list. behind prefix (list >>= (λ value. Ok ((is_subtracted, value) ∷ [])))) is

-- the same of a list of tokens by its places

next_term : {whole : Result (List SignedTerm) FaultKind} (prefix more : List SignedTerm)
    (is_subtracted next : Bool) (tail : List Token) (d e : Token) (term : Term)
    → whole ≡ behind prefix (terms_of is_subtracted tail) → 2 ≤ length tail
    → term_of (get_or tail 0 d) ≡ Ok term → sign_of (get_or tail 1 e) ≡ Ok next
    → more ≡ prefix ++ (is_subtracted, term) ∷ []
    → whole ≡ behind more (terms_of next (take (length tail - 2) (drop 2 tail)))
next_term prefix more is_subtracted next [] d e term so_far long is has_sign adds =
    absurd (omega arith)
next_term prefix more is_subtracted next (a ∷ []) d e term so_far long is has_sign adds =
    absurd (omega arith)
next_term prefix more is_subtracted next (a ∷ b ∷ rest) d e term so_far long is has_sign adds =
    terms-more prefix more is_subtracted next a b rest term so_far is has_sign adds
    ∙ ap (λ (tail : List Token). behind more (terms_of next tail)) (sym (take_rest (a ∷ b ∷ rest)
    2))

no_term : {whole : Result (List SignedTerm) FaultKind} (prefix : List SignedTerm)
    (is_subtracted : Bool) (tail : List Token) (d : Token) (kind : FaultKind)
    → whole ≡ behind prefix (terms_of is_subtracted tail) → 1 ≤ length tail
    → term_of (get_or tail 0 d) ≡ Err kind → whole ≡ Err kind
no_term prefix is_subtracted [] d kind so_far long is = absurd (omega arith)
no_term prefix is_subtracted (a ∷ []) d kind so_far long is =
    terms-last_fault prefix is_subtracted a kind so_far is
no_term prefix is_subtracted (a ∷ b ∷ rest) d kind so_far long is =
    terms-no_term prefix is_subtracted a b rest kind so_far is

no_sign : {whole : Result (List SignedTerm) FaultKind} (prefix : List SignedTerm)
    (is_subtracted : Bool) (tail : List Token) (d e : Token) (term : Term) (kind : FaultKind)
    → whole ≡ behind prefix (terms_of is_subtracted tail) → 2 ≤ length tail
    → term_of (get_or tail 0 d) ≡ Ok term → sign_of (get_or tail 1 e) ≡ Err kind
    → whole ≡ Err kind
no_sign prefix is_subtracted [] d e term kind so_far long is has_sign = absurd (omega arith)
no_sign prefix is_subtracted (a ∷ []) d e term kind so_far long is has_sign = absurd (omega arith)
no_sign prefix is_subtracted (a ∷ b ∷ rest) d e term kind so_far long is has_sign =
    terms-no_sign prefix is_subtracted a b rest term kind so_far is has_sign

last_term : {whole : Result (List SignedTerm) FaultKind} (prefix more : List SignedTerm)
    (is_subtracted : Bool) (tail : List Token) (d : Token) (term : Term)
    → whole ≡ behind prefix (terms_of is_subtracted tail) → 1 ≤ length tail → length tail < 2
    → term_of (get_or tail 0 d) ≡ Ok term → more ≡ prefix ++ (is_subtracted, term) ∷ []
    → whole ≡ Ok more
last_term prefix more is_subtracted [] d term so_far some few is adds = absurd (omega arith)
last_term prefix more is_subtracted (a ∷ []) d term so_far some few is adds =
    terms-last prefix more is_subtracted a term so_far is adds
last_term prefix more is_subtracted (a ∷ b ∷ rest) d term so_far some few is adds = absurd (omega
    arith)

term_missing : {whole : Result (List SignedTerm) FaultKind} (prefix : List SignedTerm)
    (is_subtracted : Bool) (tail : List Token) → whole ≡ behind prefix (terms_of is_subtracted tail)
    → length tail < 1 → whole ≡ Err Syntax
unfolding terms_of
term_missing prefix is_subtracted [] so_far none = so_far
term_missing prefix is_subtracted (a ∷ rest) so_far none = absurd (omega arith)

pub returns-in_err-term_of : goal.returns-in_err-term_of
returns-in_err-term_of c =
    let p = err_from_is_err_and c.from_residual.result c.from_residual.ensures.1 in
    let some : 1 ≤ length c.loop-rest.rest.now = omega (arith, c.in-len2-up.len_at_least) in
    rw (p.1, p.2) (no_term c.loop-rest.expr c.loop-rest.sign c.loop-rest.rest.now _
    c.in_err-term_of.field-0.0 c.loop-rest.invariant some
    (ap term_of (sym c.first-item.is) ∙ sym c.term_of.ensures ∙ c.in_err-term_of.was))

pub returns-in_err-sign : goal.returns-in_err-sign
returns-in_err-sign c =
    let p = err_from_is_err_and c.from_residual-in_err-sign.result
    c.from_residual-in_err-sign.ensures.1 in
    rw (p.1, p.2) (no_sign c.loop-rest.expr c.loop-rest.sign c.loop-rest.rest.now _ _
    c.in_ok-term_of.field-0 c.in_err-sign.field-0.0 c.loop-rest.invariant c.in-len2-up.len_at_least
    (ap term_of (sym c.first-item.is) ∙ sym c.term_of.ensures ∙ c.in_ok-term_of.was)
    (ap sign_of (sym c.sign_token-item.is) ∙ sym c.sign_of.ensures ∙ c.in_err-sign.was))

pub loop-rest-preserved : goal.loop-rest-preserved
loop-rest-preserved c =
    let adds : c.add.new.self ≡ c.loop-rest.expr ++ (c.loop-rest.sign, c.in_ok-term_of.field-0) ∷
    [] =
    rw (ok_of_map_err _ c.add.result c.map_err.result _ c.map_err.ensures.cases
    c.map_err.ensures.variant
    c.in_ok-map_err.was) at c.add.ensures in
    next_term c.loop-rest.expr c.add.new.self c.loop-rest.sign c.in_ok-sign.sign
    c.loop-rest.rest.now _ _ c.in_ok-term_of.field-0 c.loop-rest.invariant c.in-len2-up.len_at_least
    (ap term_of (sym c.first-item.is) ∙ sym c.term_of.ensures ∙ c.in_ok-term_of.was)
    (ap sign_of (sym c.sign_token-item.is) ∙ sym c.sign_of.ensures ∙ c.in_ok-sign.was) adds

pub returns-in_err-term_of-in-len1-up : goal.returns-in_err-term_of-in-len1-up
returns-in_err-term_of-in-len1-up c =
    let p = err_from_is_err_and c.from_residual-in_err-term_of-in-len1-up.result
    c.from_residual-in_err-term_of-in-len1-up.ensures.1 in
    rw (p.1, p.2) (no_term c.loop-rest.expr c.loop-rest.sign c.loop-rest.rest.now _
    c.in_err-term_of-in-len1-up.field-0.0 c.loop-rest.invariant c.in-len1-up.len_at_least
    (ap term_of (sym c.last-item.is) ∙ sym c.term_of-in-len1-up.ensures
    ∙ c.in_err-term_of-in-len1-up.was))

pub returns : goal.returns
returns c =
    let adds : c.add-in-len1-up.new.self
    ≡ c.loop-rest.expr ++ (c.loop-rest.sign, c.in_ok-term_of-in-len1-up.field-0) ∷ [] =
    rw (ok_of_map_err _ c.add-in-len1-up.result c.map_err-in-len1-up.result _
    c.map_err-in-len1-up.ensures.cases c.map_err-in-len1-up.ensures.variant
    c.in_ok-map_err-in-len1-up.was) at c.add-in-len1-up.ensures in
    last_term c.loop-rest.expr c.add-in-len1-up.new.self c.loop-rest.sign c.loop-rest.rest.now _
    c.in_ok-term_of-in-len1-up.field-0 c.loop-rest.invariant c.in-len1-up.len_at_least
    c.in_default.len_below
    (ap term_of (sym c.last-item.is) ∙ sym c.term_of-in-len1-up.ensures
    ∙ c.in_ok-term_of-in-len1-up.was) adds

pub returns-in-empty : goal.returns-in-empty
returns-in-empty c =
    term_missing c.loop-rest.expr c.loop-rest.sign c.loop-rest.rest.now c.loop-rest.invariant
    c.in-empty.len_below
