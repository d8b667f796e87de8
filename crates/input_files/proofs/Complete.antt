-- Where files and input are told, and no file is refused or failed.
use Rattle.std.proofs.Common.{◌≡◌, ℕ, List, Option, Some, None, IfSome, refl, inl, inr, subst, rules}
use Rattle.input_files.specs.{declared.{status.Status.{Status, TheVariants.{Memory, ReadFault, Spent, Words}}, refusal.Refusal.Refusal}, Reading.{Files, IsFailure, IsRefusal, Refuses, first_refusal}, Row.RowOf, Status.status_of_refusal}

-- What a refusal is not, and what it counts.

-- files that were refused have not spent the input
pub refused-spent : (refusal : Refusal) → status_of_refusal refusal ≡ Spent → ⊥
refused-spent = search rules

pub refused-words : {Outcome : Type 0} (files : Files) (missed failed : Type 0)
    (row : RowOf Outcome) → IsRefusal files missed failed row Words → ⊥
refused-words files missed failed row (inl miss) = cc miss.0
refused-words files missed failed row (inr (inl fails)) = cc fails.0
refused-words files missed failed row (inr (inr (inl memory))) = cc memory
refused-words files missed failed row (inr (inr (inr (fault, is, reaches)))) = cc is

pub failed-counted : {Outcome : Type 0} (files : Files) (missed failed : Type 0)
    (row : RowOf Outcome) → IsRefusal files missed failed row ReadFault → failed
failed-counted files missed failed row (inl miss) = absurd (cc miss.0)
failed-counted files missed failed row (inr (inl fails)) = fails.1
failed-counted files missed failed row (inr (inr (inl memory))) = absurd (cc memory)
failed-counted files missed failed row (inr (inr (inr (fault, is, reaches)))) = absurd (cc is)

-- what holds there of an input of few bytes
abbrev pub HoldsIfTold : {Outcome : Type 0} → Files → Option (List ℕ) → RowOf Outcome
    → (List ℕ → Type 0) → Type 0 → Type 0 → Type 0
HoldsIfTold files left row few failed Claim =
    IfSome files (λ contents. IfSome left (λ bytes.
    first_refusal row contents ≡ None → few bytes → ¬ failed → Claim))

-- files of which none failed were refused only for lack of memory
failed-memory : {Outcome : Type 0} (files : Files) (missed failed : Type 0)
    (row : RowOf Outcome) (status : Status)
    → IsFailure status → IsRefusal files missed failed row status → ¬ failed → status ≡ Memory
failed-memory files missed failed row status (inl fails) cause no_read =
    absurd (no_read (failed-counted files missed failed row (rw fails at cause)))
failed-memory files missed failed row status (inr memory) cause no_read = memory

pub refused-complete : {Outcome : Type 0} (files : Files) (left : Option (List ℕ))
    (missed failed : Type 0) (row : RowOf Outcome) (status : Status) (few : List ℕ → Type 0)
    (Claim : Type 0)
    → IfSome files (λ contents. Refuses (first_refusal row contents) status)
    → IsRefusal files missed failed row status → (status ≡ Memory → Claim)
    → HoldsIfTold files left row few failed Claim
refused-complete None left missed failed row status few Claim order cause claims = tt
refused-complete (Some contents) None missed failed row status few Claim order cause claims = tt
refused-complete (Some contents) (Some bytes) missed failed row status few Claim order cause
    claims =
    let Fails : Option Status → Type 0 = λ answer. Refuses answer status in
    λ none is_few no_read. claims (failed-memory (Some contents) missed failed row status
    (subst Fails none order) cause no_read)

pub told-complete : {Outcome : Type 0} (files : Files) (left : Option (List ℕ)) (failed : Type 0)
    (row : RowOf Outcome) (few : List ℕ → Type 0) (Claim : Type 0)
    → ((bytes : List ℕ) → left ≡ Some bytes → few bytes → Claim)
    → HoldsIfTold files left row few failed Claim
told-complete None left failed row few Claim claims = tt
told-complete (Some contents) None failed row few Claim claims = tt
told-complete (Some contents) (Some bytes) failed row few Claim claims =
    λ none is_few no_read. claims bytes refl is_few
