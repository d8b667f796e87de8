-- Entries that are noted in a memory, which then settles.
use Rattle.std.specs.Prelude.{◌≡◌, ◌⊎◌, List, Option, Some, None, IfSome}
use Rattle.desk_memory.specs.{declared.{memory.Memory.Ghosts as MemoryGhosts, memory_fault.MemoryFault.MemoryFault}, Entry.Entry}
use Rattle.verifier_desk.specs.Serving.{HasFailed, Keeps}
use Rattle.input_files.specs.{declared.status.Status.{Status, TheVariants.Done}}
use Rattle.desk_cli.specs.Status.{status_of_unkept}

-- the memory keeps all of these entries, or it failed; and whatever a crash leaves it left before,
-- or it is all of them
pub record HasNoted {M : Type 0} (m : MemoryGhosts M) (opened left : M) (all : List Entry)
    (result : Option MemoryFault) : Type 0 where
  pub honest : m.is_honest left → m.is_honest opened
  pub keeps : result ≡ None → Keeps m left all
  pub cause : IfSome result (λ fault. HasFailed m opened left fault)
  pub whole : m.is_honest left → (found : List Entry) → m.may_leave left found
      → m.may_leave opened found ⊎ (found ≡ all)

abbrev pub status_of_noted : Option MemoryFault → Status
status_of_noted None = Done
status_of_noted (Some fault) = status_of_unkept fault

-- and the answer says which
pub record NotesAll {M : Type 0} (m : MemoryGhosts M) (opened left : M) (all : List Entry)
    (status : Status) : Type 0 where
  pub result : Option MemoryFault
  pub noted : HasNoted m opened left all result
  pub answer : status ≡ status_of_noted result
