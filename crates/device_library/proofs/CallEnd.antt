-- How a call ends: by the run whose text was kept.
use Rattle.std.proofs.Common.{rules, ◌≡◌, [], ℕ, Bool, true, false, List, Option, Some, None, inl, inr, ap, subst, sym}
use Rattle.outside_edge.{specs.Shelf.SureShelf, proofs.Counts.never_rises}
use Rattle.input_files.specs.{declared.status.Status.{Status, TheVariants.{Done, Rejected, ReadFault, WriteFault, Memory}}, Reading.{Files, first_refusal}}
use Rattle.device_cli.specs.{Answer.{Answers, Follows, HasOutcome, PutsAll, IsRun}, Row.Row}
use Rattle.device_library.specs.{Call.{IsAnswer, IsCall}, KeptText.KeptBytes, Shown.{IsTold, Shows, ShowsFirst}}

abbrev kept_is : KeptBytes → List ℕ → Type 0
kept_is text bytes = bytes ≡ text.held

-- the answers for which there is a file that is absent or has a fault
record IsRefusing (status : Status) : Type 0 where
  done : status ≡ Done → ⊥
  rejected : status ≡ Rejected → ⊥
  written : status ≡ WriteFault → ⊥
  read : status ≡ ReadFault → ⊥
  memory : status ≡ Memory → ⊥

first-is : (first : Option Status) (status : Status) → IsRefusing status → Follows first status
    → first ≡ Some status
first-is (Some refusal) status refusing (inl is) = ap Some (sym is)
first-is (Some refusal) status refusing (inr (inl is)) = absurd (refusing.read is)
first-is (Some refusal) status refusing (inr (inr is)) = absurd (refusing.memory is)
first-is None status refusing (inl is) = absurd (refusing.done is)
first-is None status refusing (inr (inl is)) = absurd (refusing.rejected is)
first-is None status refusing (inr (inr (inl is))) = absurd (refusing.written is)
first-is None status refusing (inr (inr (inr (inl is)))) = absurd (refusing.read is)
first-is None status refusing (inr (inr (inr (inr is)))) = absurd (refusing.memory is)

shown-text : (files : Files) (row : Row) (accepted : Bool) (before after : KeptBytes)
    (piece : List ℕ) (count : ℕ) → before.held ≡ [] → Shows after.held piece count
    → HasOutcome files row (PutsAll kept_is before after accepted)
    → HasOutcome files row (λ outcome.
    (outcome.is_accepted ≡ accepted) × Shows outcome.text piece count)
shown-text files row accepted before after piece count empty shows
    (outcome, reaches, puts, lawful) = (
      outcome,
      reaches,
      (
        puts.0,
        subst (λ (text : List ℕ). Shows text piece count) (sym (puts.1 [] (sym empty))) shows,
      ),
      lawful,
    )

shown-first : (files : Files) (row : Row) (accepted : Bool) (before after : KeptBytes)
    (piece : List ℕ) (count : ℕ) → before.held ≡ [] → ShowsFirst after.held piece count
    → HasOutcome files row (PutsAll kept_is before after accepted)
    → HasOutcome files row (λ outcome. ShowsFirst outcome.text piece count)
shown-first files row accepted before after piece count empty shows
    (outcome, reaches, puts, lawful) = (
      outcome,
      reaches,
      subst (λ (text : List ℕ). ShowsFirst text piece count) (sym (puts.1 [] (sym empty))) shows,
      lawful,
    )

-- a run over files in memory, whose text is kept
abbrev Ran : SureShelf → SureShelf → KeptBytes → KeptBytes → Row → Status → Type 0
Ran shelf shelf_after before after row how =
    Answers (λ (shelf : SureShelf). Some shelf.files) (λ shelf. 0) (λ shelf. shelf.misses) kept_is
    (λ text. text.faults) shelf shelf_after before after row how

abbrev RanWords :
    SureShelf → SureShelf → KeptBytes → KeptBytes → Option Row → Status → Type 0
RanWords shelf shelf_after before after row how =
    IsRun (λ (shelf : SureShelf). Some shelf.files) (λ shelf. 0) (λ shelf. shelf.misses) kept_is
    (λ text. text.faults) shelf shelf_after before after row how

refused : (shelf shelf_after : SureShelf) (before after : KeptBytes) (row : Row) (status : Status)
    (piece : List ℕ) (count : ℕ) → IsRefusing status
    → Ran shelf shelf_after before after row status
    → first_refusal row shelf.files ≡ Some status
refused shelf shelf_after before after row status piece count refusing ran =
    first-is (first_refusal row shelf.files) status refusing ran.order

told-row : (shelf shelf_after : SureShelf) (before after : KeptBytes) (row : Row)
    (how told : Status) (piece : List ℕ) (count : ℕ) → before.held ≡ []
    → Ran shelf shelf_after before after row how
    → IsTold how after.held piece count told
    → IsAnswer shelf.files row piece count told
told-row shelf shelf_after before after row Done told piece count empty ran (inl (is, shows)) =
    rw is (shown-text (Some shelf.files) row true before after piece count empty shows ran.cause)
told-row shelf shelf_after before after row Done told piece count empty ran (inr (is, shows)) =
    rw is (shown-first (Some shelf.files) row true before after piece count empty shows ran.cause)
told-row shelf shelf_after before after row Rejected told piece count empty ran (inl (is, shows)) =
    rw is (shown-text (Some shelf.files) row false before after piece count empty shows ran.cause)
told-row shelf shelf_after before after row Rejected told piece count empty ran (inr (is, shows)) =
    rw is (shown-first (Some shelf.files) row false before after piece count empty shows ran.cause)
told-row shelf shelf_after before after row WriteFault told piece count empty ran is = rw is tt
told-row shelf shelf_after before after row Memory told piece count empty ran is = rw is tt
told-row shelf shelf_after before after row ReadFault told piece count empty ran is =
    absurd (never_rises ran.cause.0)
told-row shelf shelf_after before after row refusal told piece count empty ran is =
    rw is (refused shelf shelf_after before after row refusal piece count (search rules) ran)

told-words : (shelf shelf_after : SureShelf) (before after : KeptBytes) (row : Option Row)
    (how told : Status) (piece : List ℕ) (count : ℕ) → before.held ≡ []
    → RanWords shelf shelf_after before after row how
    → IsTold how after.held piece count told
    → IsCall shelf.files row piece count told
told-words shelf shelf_after before after None how told piece count empty ran is =
    inl (subst (λ (how : Status). IsTold how after.held piece count told) ran.0 is)
told-words shelf shelf_after before after (Some row) how told piece count empty ran is =
    told-row shelf shelf_after before after row how told piece count empty ran is

-- a call for which there was no memory
pub memory-call : (contents : List (List ℕ × List ℕ)) (row : Option Row) (piece : List ℕ)
    (count : ℕ) (told : Status) → told ≡ Memory → IsCall contents row piece count told
memory-call contents None piece count told is = inr is
memory-call contents (Some row) piece count told is = rw is tt

-- the same over these files, where this text was kept
pub told-call : (contents : List (List ℕ × List ℕ)) (text : List ℕ)
    (shelf shelf_after : SureShelf) (before after : KeptBytes) (row : Option Row)
    (how told : Status) (piece : List ℕ) (count : ℕ)
    → shelf.files ≡ contents → before.held ≡ [] → text ≡ after.held
    → RanWords shelf shelf_after before after row how
    → IsTold how text piece count told
    → IsCall contents row piece count told
told-call contents text shelf shelf_after before after row how told piece count same empty kept ran
    is =
    subst (λ (files : List (List ℕ × List ℕ)). IsCall files row piece count told) same
    (told-words shelf shelf_after before after row how told piece count empty ran
    (subst (λ (text : List ℕ). IsTold how text piece count told) kept is))
