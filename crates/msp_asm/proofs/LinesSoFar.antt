-- The first fault of statements that are taken in order.
use Rattle.std.{proofs.{Common.{◌≡◌, ◌∙◌, ◌<◌, ◌+◌, ℕ, ap, sym, refl, arith, List, [], ◌∷◌, ◌++◌, length, reverse, take, drop, get_or, slice_index, take-append-drop, Option, Some, None, Ok, Err, inl, inr}, lemmas.{List.{reverse-append, take_more, get_or_append_left, get_or-append-add}, Bool.cases_lt}}, specs.Option.option_or}
use Rattle.text_scan.specs.{declared.{fault_at.FaultAt.FaultAt, fault_kind.FaultKind.FaultKind, word_fault.WordFault.{WordFault, TheVariants.{Kind, Memory}}}, Reader.fault_in_line}
use Rattle.asm_text.specs.declared.statement.Statement.{Statement}
use Rattle.msp_asm.specs.{FirstPass.{at_line, first_fault}, FirstPassState.AnswersFault, Assembly.IsFault}

abbrev pub Faults : Type 0
Faults = List Statement → Statement → Option FaultKind

-- the statements up to one, newest first
pub earlier_more : (statements : List Statement) (i : ℕ) (d s : Statement) → i < length statements
    → s ≡ get_or statements i d
    → reverse (take (i + 1) statements) ≡ s ∷ reverse (take i statements)
earlier_more statements i d s below is =
    ap reverse (take_more statements i d below)
    ∙ reverse-append (take i statements) (get_or statements i d ∷ [])
    ∙ ap (λ (x : Statement). x ∷ reverse (take i statements)) (sym is)

all_after : (statements : List Statement) (i : ℕ)
    → reverse statements ≡ reverse (drop i statements) ++ reverse (take i statements)
all_after statements i =
    ap reverse (sym (take-append-drop i statements))
    ∙ reverse-append (take i statements) (drop i statements)

-- a fault stays the first
fault_later : (fault : Faults) (later earlier : List Statement) (at : FaultAt)
    → first_fault fault earlier ≡ Some at
    → first_fault fault (later ++ earlier) ≡ Some at
fault_later fault [] earlier at answer = answer
fault_later fault (s ∷ later) earlier at answer =
    ap (λ first. option_or first (at_line s.line (fault (later ++ earlier) s)))
    (fault_later fault later earlier at answer)

-- no fault up to one more
pub sound_more : (fault : Faults) (statements : List Statement) (i : ℕ) (d s : Statement)
    (u : Unit {0})
    → i < length statements
    → s ≡ get_or statements i d
    → first_fault fault (reverse (take i statements)) ≡ None
    → AnswersFault (Ok u) (fault (reverse (take i statements)) s)
    → first_fault fault (reverse (take (i + 1) statements)) ≡ None
sound_more fault statements i d s u below is sound none =
    ap (first_fault fault) (earlier_more statements i d s below is)
    ∙ ap (λ first. option_or first (at_line s.line (fault (reverse (take i statements)) s))) sound
    ∙ ap (at_line s.line) none

-- the first fault of all
pub fault_of_all : (fault : Faults) (statements : List Statement) (i : ℕ)
    (d s : Statement) (answer : WordFault)
    → i < length statements
    → s ≡ get_or statements i d
    → first_fault fault (reverse (take i statements)) ≡ None
    → AnswersFault (Err answer) (fault (reverse (take i statements)) s)
    → IsFault (fault_in_line s.line answer) (first_fault fault (reverse statements))
fault_of_all fault statements i d s (Kind kind) below is sound answer =
    let here : first_fault fault (reverse (take (i + 1) statements))
    ≡ Some (record { line = s.line; kind = kind }) =
    ap (first_fault fault) (earlier_more statements i d s below is)
    ∙ ap (λ first. option_or first (at_line s.line (fault (reverse (take i statements)) s))) sound
    ∙ ap (at_line s.line) answer in
    ap (first_fault fault) (all_after statements (i + 1))
    ∙ fault_later fault (reverse (drop (i + 1) statements)) (reverse (take (i + 1) statements))
    (record { line = s.line; kind = kind }) here
fault_of_all fault statements i d s (Memory error) below is sound answer = tt

-- places that are kept in order
pub places_more : (heres : ℕ → ℕ) (old new : List ℕ) (place i : ℕ)
    → length old ≡ i
    → new ≡ old ++ place ∷ []
    → place ≡ heres i
    → ((j : ℕ) → j < i → slice_index old j ≡ heres j)
    → (j : ℕ) → j < i + 1 → slice_index new j ≡ heres j
places_more heres old new place i count adds is so_far j below =
    elim (cases_lt j i) [
      | inl less ↦
          ap (λ places. slice_index places j) adds
          ∙ get_or_append_left old (place ∷ []) 0 j (omega (arith, less, count))
          ∙ so_far j less
      | inr more ↦
          let same : j ≡ length old + 0 = omega (arith, more, below, count) in
          let last : j ≡ i = omega (arith, more, below) in
          ap (λ places. slice_index places j) adds
          ∙ ap (slice_index (old ++ place ∷ [])) same
          ∙ get_or-append-add old (place ∷ []) 0 0
          ∙ is ∙ ap heres (sym last)
    ]

-- a fault that is the first of two, and there is none
pub neither : {A : Type 0} (first second : Option A) → option_or first second ≡ None
    → (first ≡ None) × (second ≡ None)
neither None second is = (refl, is)
neither (Some answer) second is = absurd cc

no_kind : (line : ℕ) (kind : Option FaultKind) → at_line line kind ≡ None → kind ≡ None
no_kind line None is = refl
no_kind line (Some kind) is = absurd cc

-- without a first fault a statement has none, nor have those before it
pub no_fault_at : (fault : Faults) (later earlier : List Statement) (s : Statement)
    → first_fault fault (later ++ s ∷ earlier) ≡ None
    → fault earlier s ≡ None
no_fault_at fault [] earlier s none =
    no_kind s.line (fault earlier s)
    (neither (first_fault fault earlier) (at_line s.line (fault earlier s)) none).1
no_fault_at fault (last ∷ later) earlier s none =
    no_fault_at fault later earlier s
    (neither (first_fault fault (later ++ s ∷ earlier))
    (at_line last.line (fault (later ++ s ∷ earlier) last)) none).0
