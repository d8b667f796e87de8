-- What a memory keeps through a crash.
use Rattle.std.specs.Prelude.{◌≡◌, ◌≤◌, ◌⊎◌, ℕ, List, Result, IfErr}
use Rattle.outside_edge.specs.Calls.{Rose}
use Rattle.desk_memory.specs.{declared.memory_fault.MemoryFault.{MemoryFault, TheVariants.Memory}, Entry.Entry}

-- a call that fails has counted a fault, or was refused memory where it takes any
pub record CountsOrLacks {M V : Type 0} (faults : M → ℕ) (lacks : Type 0) (old new : M)
    (result : Result V MemoryFault) : Type 0 where
  pub cause : IfErr result (λ fault.
      ((fault ≡ Memory) × lacks) ⊎ Rose (faults old) (faults new))
  pub counted : faults old ≤ faults new

-- whatever a crash leaves now, it might have left before, or it is these entries
abbrev pub LeavesOr :
    {M : Type 0} → (M → List Entry → Type 0) → M → M → List Entry → Type 0
LeavesOr may_leave old new entries =
    (found : List Entry) → may_leave new found → may_leave old found ⊎ (found ≡ entries)

-- a crash leaves these entries and no others
abbrev pub IsKept : {M : Type 0} → (M → List Entry → Type 0) → M → List Entry → Type 0
IsKept may_leave memory entries = (found : List Entry) → may_leave memory found → found ≡ entries
