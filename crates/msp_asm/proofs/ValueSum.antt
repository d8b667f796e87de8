-- The value of an expression, term by term.
use Rattle.std.proofs.{Common.{◌≡◌, ◌∙◌, ap, sym, refl, ◌+◌, ◌<◌, ℕ, suc, ℤ, ◌+ℤ◌, List, Option, Some, None, Bool, length, drop, get_or, drop-cons, add-one}, Math.IntN.+ℤ_assoc}
use Rattle.asm_text.specs.Expr.{SignedTerm}
use Rattle.msp_asm.specs.Value.{Scope, term_value, with_sign, with_term, value}

-- a sum so far, and the value of what is left
abbrev pub sum_with : ℤ → Option ℤ → Option ℤ
sum_with total None = None
sum_with total (Some rest) = Some (total +ℤ rest)

by_rest : (is_subtracted : Bool) (total part : ℤ) (rest : Option ℤ)
    → sum_with total (with_term is_subtracted (Some part) rest)
    ≡ sum_with (total +ℤ with_sign is_subtracted part) rest
by_rest is_subtracted total part None = refl
by_rest is_subtracted total part (Some rest) =
    ap Some (sym (+ℤ_assoc total (with_sign is_subtracted part) rest))

-- the sum with the next term
pub term_added : (scope : Scope) (all : Option ℤ) (expr : List SignedTerm) (i : ℕ) (d : SignedTerm)
    (total part : ℤ)
    → i < length expr
    → all ≡ sum_with total (value scope (drop i expr))
    → term_value scope (get_or expr i d).1 ≡ Some part
    → all
    ≡ sum_with (total +ℤ with_sign (get_or expr i d).0 part) (value scope (drop (i + 1) expr))
term_added scope all expr i d total part below so_far is =
    so_far
    ∙ ap (λ later. sum_with total (value scope later)) (drop-cons expr i d below)
    ∙ ap (λ first. sum_with total (with_term (get_or expr i d).0 first (value scope (drop (suc i)
    expr)))) is
    ∙ by_rest (get_or expr i d).0 total part (value scope (drop (suc i) expr))
    ∙ ap (λ k.
    sum_with (total +ℤ with_sign (get_or expr i d).0 part) (value scope (drop k expr)))
    (sym (add-one i))

-- a term without a value
pub term_missing : (scope : Scope) (all : Option ℤ) (expr : List SignedTerm) (i : ℕ)
    (d : SignedTerm) (total : ℤ)
    → i < length expr
    → all ≡ sum_with total (value scope (drop i expr))
    → term_value scope (get_or expr i d).1 ≡ None
    → all ≡ None
term_missing scope all expr i d total below so_far is =
    so_far
    ∙ ap (λ later. sum_with total (value scope later)) (drop-cons expr i d below)
    ∙ ap (λ first. sum_with total (with_term (get_or expr i d).0 first (value scope (drop (suc i)
    expr)))) is

-- one turn of the sum
pub sum_step : (scope : Scope) (expr items : List SignedTerm) (i : ℕ) (d : SignedTerm)
    (total part same_part term next : ℤ)
    → items ≡ expr
    → same_part ≡ part
    → i < length items
    → value scope expr ≡ sum_with total (value scope (drop i expr))
    → Some part ≡ term_value scope (get_or items i d).1
    → term ≡ with_sign (get_or items i d).0 same_part
    → next ≡ total +ℤ term
    → value scope expr ≡ sum_with next (value scope (drop (i + 1) expr))
sum_step scope expr items i d total part same_part term next same one below so_far is adds sum =
    let here : value scope items ≡ sum_with total (value scope (drop i items)) = rw same so_far in
    let more : value scope items
    ≡ sum_with (total +ℤ with_sign (get_or items i d).0 part)
    (value scope (drop (i + 1) items)) =
    term_added scope (value scope items) items i d total part below here (sym is) in
    let last : next ≡ total +ℤ with_sign (get_or items i d).0 part =
    sum ∙ ap (λ t. total +ℤ t) (adds ∙ ap (with_sign (get_or items i d).0) one) in
    rw (sym same) (more ∙ ap (λ t. sum_with t (value scope (drop (i + 1) items))) (sym last))
