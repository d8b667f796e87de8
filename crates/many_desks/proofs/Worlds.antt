-- One memory changes, and all others stay.
use Rattle.std.{proofs.{Common.{◌≡◌, ◌⊎◌, ℕ, List, true, refl, inl, inr}, lemmas.{Bool.cases_Bool, Slice.Eq.bytes_eq-Decides}}, specs.Str.bytes_eq}
use Rattle.report_text.proofs.ReportWords.{other_bytes}
use Rattle.desk_memory.specs.Entry.{Entry}
use Rattle.many_desks.specs.Act.{World, with_memory}

pub same_or_other : (one other : List ℕ) → (one ≡ other) ⊎ (one ≡ other → ⊥)
same_or_other one other = elim (cases_Bool (bytes_eq one other)) [
  | inl hit ↦ inl ((bytes_eq-Decides one other).0 hit)
  | inr miss ↦ inr (λ same. let known = (bytes_eq-Decides one other).1 same in cc)
]

pub same_bytes : (one other : List ℕ) → one ≡ other → bytes_eq one other ≡ true
same_bytes one other same = (bytes_eq-Decides one other).1 same

pub changed_memory : (world : World) (desk : List ℕ) (entries : List Entry)
    → with_memory world desk entries desk ≡ entries
changed_memory world desk entries = rw (same_bytes desk desk refl) refl

pub other_memory : (world : World) (desk : List ℕ) (entries : List Entry) (other : List ℕ)
    → (desk ≡ other → ⊥)
    → with_memory world desk entries other ≡ world other
other_memory world desk entries other apart = rw (other_bytes desk other apart) refl
