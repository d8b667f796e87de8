-- Memories that are opened or made by their names: what is found in one, and why one is not got.
use Rattle.std.specs.Prelude.{◌≡◌, ◌⊎◌, ℕ, List, [], Option, Some, IfSome}
use Rattle.outside_edge.specs.Calls.{Rose}
use Rattle.desk_memory.specs.{declared.memory.Memory.Ghosts as MemoryGhosts, Entry.Entry}
use Rattle.desk_database.specs.{declared.memory_file_fault.MemoryFileFault.{MemoryFileFault, TheVariants.OutOfMemory}}
use Rattle.verifier_desk.specs.Serving.{Keeps}
use Rattle.input_files.specs.declared.status.Status.{Status}
use Rattle.desk_cli.specs.Status.{status_of_unopened}

-- what is asked for
pub data Request : Type 0 where
  Opening : Request
  Making : Request

-- What is told of memories by their names: that none was got yet; that what is there can be opened,
-- or a memory be made of it; why one was not got, between two moments; the desk and the entries
-- that an open finds, now or after a crash; that what was there at first is unharmed, now and after
-- a crash; that what was read of them is what was written; and the memory that was closed, as it
-- was left.
pub record ToldMemories (F M : Type 0) : Type 1 where
  pub is_unopened : F → Type 0
  pub fits : Request → F → List ℕ → Type 0
  pub fails : Request → F → F → List ℕ → MemoryFileFault → Type 0
  pub finds : F → List ℕ → List ℕ → List Entry → Type 0
  pub is_unharmed : F → List ℕ → Type 0
  pub is_honest : F → Type 0
  pub left : F → Option M

-- a memory was opened, as what is there can be: it has the desk and the entries that were found
-- under its name, and keeps them
pub record IsOpened {F M : Type 0} (told : ToldMemories F M) (m : MemoryGhosts M) (memories : F)
    (name : List ℕ) (now : M) (desk : List ℕ) (entries : List Entry) : Type 0 where
  pub keeps : Keeps m now entries
  pub fit : m.is_honest now → told.fits Opening memories name
  pub found : m.is_honest now → told.finds memories name desk entries

-- a memory was made, as it can be of what is there: it has no entry, and nothing of it is kept yet
pub record IsMade {F M : Type 0} (told : ToldMemories F M) (m : MemoryGhosts M) (memories : F)
    (name : List ℕ) (now : M) : Type 0 where
  pub has : m.stands now []
  pub fit : m.is_honest now → told.fits Making memories name
  pub unkept : m.is_honest now → (found : List Entry) → m.may_leave now found → ⊥

-- a memory was not got, and holds what it held; what is no memory is unharmed too
pub record IsUnopened {F M : Type 0} (told : ToldMemories F M) (asked : Request) (old new : F)
    (name : List ℕ) (fault : MemoryFileFault) : Type 0 where
  pub cause : told.fails asked old new name fault
  pub spared : told.is_honest new → (desk : List ℕ) (found : List Entry)
      → told.finds new name desk found → told.finds old name desk found
  pub unharmed : told.is_honest new → told.is_unharmed old name → told.is_unharmed new name

-- a memory was not got, which is the answer
pub record LacksMemory {F M : Type 0} (told : ToldMemories F M) (asked : Request)
    (memories memories_after : F) (name : List ℕ) (status : Status) : Type 0 where
  pub fault : MemoryFileFault
  pub answer : status ≡ status_of_unopened fault
  pub unopened : IsUnopened told asked memories memories_after name fault

-- a memory was opened, something was done with it, and it was closed as it was left
pub record Uses {F M : Type 0} (told : ToldMemories F M) (m : MemoryGhosts M)
    (desk_of : M → List ℕ) (memories memories_after : F) (name : List ℕ)
    (Does : List ℕ → List Entry → M → M → Type 0) : Type 0 where
  pub opened : M
  pub left : M
  pub entries : List Entry
  pub found : IsOpened told m memories name opened (desk_of opened) entries
  pub does : Does (desk_of opened) entries opened left
  pub closed : told.left memories_after ≡ Some left

-- or it was not opened, which is the answer, and nothing else was done
abbrev pub UsesIf : {F M : Type 0} → ToldMemories F M → MemoryGhosts M → (M → List ℕ) → F → F
    → List ℕ → Status → Type 0 → (List ℕ → List Entry → M → M → Type 0) → Type 0
UsesIf told m desk_of memories memories_after name status Nothing Does =
    (LacksMemory told Opening memories memories_after name status × Nothing)
    ⊎ Uses told m desk_of memories memories_after name Does

-- nothing but a lack of memory keeps the memory of a name from being opened, and none of its calls
-- has failed
pub record IsUnhindered {F M : Type 0} (told : ToldMemories F M) (m : MemoryGhosts M)
    (old new : F) (name : List ℕ) : Type 0 where
  pub free : (fault : MemoryFileFault) → told.fails Opening old new name fault
      → fault ≡ OutOfMemory
  pub kept : IfSome (told.left new) (λ left. m.is_honest left × ¬ Rose 0 (m.faults left))
