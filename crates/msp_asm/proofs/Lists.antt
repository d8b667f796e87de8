-- Lists that are gathered item by item.
use Rattle.std.{proofs.{Common.{◌≡◌, ◌∙◌, ap, sym, refl, ◌+◌, ◌<◌, ℕ, suc, List, ◌++◌, length, drop, get_or, drop-cons, add-one, Result, Ok, Err, flat_map}, lemmas.List.append_assoc}, specs.Prelude.ℤ}
use Rattle.text_scan.specs.{declared.{fault_kind.FaultKind.FaultKind, word_fault.WordFault.{WordFault, TheVariants.{Kind, Memory}}}, Reader.◌>>=◌}
use Rattle.msp_asm.specs.{StatementBytes.AddsBytes, Statement.{value_bytes, all_bytes}}
use Rattle.word_arith.specs.declared.size.Size.{Size}

-- a list so far, and what is left
abbrev pub with_prefix : {A : Type 0} → List A → Result (List A) FaultKind
    → Result (List A) FaultKind
with_prefix prefix (Ok rest) = Ok (prefix ++ rest)
with_prefix prefix (Err kind) = Err kind

one_gathered : {A : Type 0} (prefix first : List A) (rest : Result (List A) FaultKind)
    → with_prefix prefix (rest >>= (λ part. Ok (first ++ part)))
    ≡ with_prefix (prefix ++ first) rest
one_gathered prefix first (Ok rest) = ap Ok (sym (append_assoc prefix first rest))
one_gathered prefix first (Err kind) = refl

-- the bytes with those of the next value
pub bytes_more : (size : Size) (all : Result (List ℕ) FaultKind) (values : List ℤ) (i : ℕ) (d : ℤ)
    (prefix part : List ℕ)
    → i < length values
    → all ≡ with_prefix prefix (all_bytes size (drop i values))
    → value_bytes size (get_or values i d) ≡ Ok part
    → all ≡ with_prefix (prefix ++ part) (all_bytes size (drop (i + 1) values))
bytes_more size all values i d prefix part below so_far is =
    so_far
    ∙ ap (λ later. with_prefix prefix (all_bytes size later)) (drop-cons values i d below)
    ∙ ap (λ (first : Result (List ℕ) FaultKind). with_prefix prefix
    (first >>= (λ one. all_bytes size (drop (suc i) values) >>= (λ rest. Ok (one ++ rest))))) is
    ∙ one_gathered prefix part (all_bytes size (drop (suc i) values))
    ∙ ap (λ k. with_prefix (prefix ++ part) (all_bytes size (drop k values))) (sym (add-one i))

pub bytes_fault : (size : Size) (all : Result (List ℕ) FaultKind) (values : List ℤ) (i : ℕ) (d : ℤ)
    (prefix : List ℕ) (kind : FaultKind)
    → i < length values
    → all ≡ with_prefix prefix (all_bytes size (drop i values))
    → value_bytes size (get_or values i d) ≡ Err kind
    → all ≡ Err kind
bytes_fault size all values i d prefix kind below so_far is =
    so_far
    ∙ ap (λ later. with_prefix prefix (all_bytes size later)) (drop-cons values i d below)
    ∙ ap (λ (first : Result (List ℕ) FaultKind). with_prefix prefix
    (first >>= (λ one. all_bytes size (drop (suc i) values) >>= (λ rest. Ok (one ++ rest))))) is

-- the bytes of the next word
pub words_more : (f : ℕ → List ℕ) (all prefix : List ℕ) (words : List ℕ) (i d : ℕ)
    → i < length words
    → all ≡ prefix ++ flat_map f (drop i words)
    → all ≡ (prefix ++ f (get_or words i d)) ++ flat_map f (drop (i + 1) words)
words_more f all prefix words i d below so_far =
    so_far
    ∙ ap (λ later. prefix ++ flat_map f later) (drop-cons words i d below)
    ∙ sym (append_assoc prefix (f (get_or words i d)) (flat_map f (drop (suc i) words)))
    ∙ ap (λ k. (prefix ++ f (get_or words i d)) ++ flat_map f (drop k words)) (sym (add-one i))

adds_value : (size : Size) (all : Result (List ℕ) FaultKind) (values : List ℤ) (i : ℕ) (d : ℤ)
    (old now new prefix : List ℕ) (u : Unit {0}) (answer : Result (List ℕ) FaultKind)
    → i < length values
    → now ≡ old ++ prefix
    → all ≡ with_prefix prefix (all_bytes size (drop i values))
    → value_bytes size (get_or values i d) ≡ answer
    → AddsBytes (Ok u) now new answer
    → (more : List ℕ) × (new ≡ old ++ more)
    × (all ≡ with_prefix more (all_bytes size (drop (i + 1) values)))
adds_value size all values i d old now new prefix u (Ok part) below before so_far is adds = (
  prefix ++ part,
  adds ∙ ap (λ bytes. bytes ++ part) before ∙ append_assoc old prefix part,
  bytes_more size all values i d prefix part below so_far is,
)
adds_value size all values i d old now new prefix u (Err kind) below before so_far is adds =
    absurd adds

-- a value was added
pub value_added : (size : Size) (all : Result (List ℕ) FaultKind) (values : List ℤ) (i : ℕ) (d : ℤ)
    (item : ℤ) (old now new prefix : List ℕ) (u : Unit {0})
    → item ≡ get_or values i d
    → i < length values
    → now ≡ old ++ prefix
    → all ≡ with_prefix prefix (all_bytes size (drop i values))
    → AddsBytes (Ok u) now new (value_bytes size item)
    → (more : List ℕ) × (new ≡ old ++ more)
    × (all ≡ with_prefix more (all_bytes size (drop (i + 1) values)))
value_added size all values i d item old now new prefix u is below before so_far adds =
    adds_value size all values i d old now new prefix u (value_bytes size item) below before so_far
    (ap (value_bytes size) (sym is)) adds

-- a value was refused
pub value_refused : (size : Size) (all : Result (List ℕ) FaultKind) (values : List ℤ) (i : ℕ)
    (d item : ℤ) (old now new last prefix : List ℕ) (fault : WordFault)
    → item ≡ get_or values i d
    → i < length values
    → all ≡ with_prefix prefix (all_bytes size (drop i values))
    → AddsBytes (Err fault) now new (value_bytes size item)
    → AddsBytes (Err fault) old last all
value_refused size all values i d item old now new last prefix (Kind kind) is below so_far refuses =
    bytes_fault size all values i d prefix kind below so_far
    (ap (value_bytes size) (sym is) ∙ refuses)
value_refused size all values i d item old now new last prefix
    (Memory error) is below so_far refuses =
    tt
