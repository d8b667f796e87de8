-- The command `adopt`: devices come into the memory of a desk, by the lines by which they moved to
-- that desk.
use Rattle.std.specs.Prelude.{◌≡◌, ◌⊎◌, ◌↔◌, ◌+◌, ℕ, List, [], ◌∷◌, slice_index_or, Option, Some, None, IfSome, Ok}
use Rattle.outside_edge.specs.{Shelf.KeepsFiles, declared.shelf.Shelf.Ghosts as ShelfGhosts}
use Rattle.text_scan.specs.{declared.{fault_at.FaultAt.FaultAt, fault_kind.FaultKind.FaultKind}}
use Rattle.desk_memory.specs.{declared.memory.Memory.Ghosts as MemoryGhosts, Entry.Entry, Moving.{with_arrivals, adoption_fault}}
use Rattle.input_files.specs.{declared.{bad_file.BadFile.TheVariants.States, status.Status.{Status, TheVariants.{Bad, Memory, Words}}}, Reading.{IsUnread, Reaches}}
use Rattle.desk_cli.specs.{Founding.states_row, MemoryFiles.{ToldMemories, UsesIf}, Noting.NotesAll, StateFile.NumberedEntries}

-- the names of the lines and of the memory
pub record AdoptNames : Type 0 where
  pub lines : List ℕ
  pub memory : List ℕ

-- `adopt MOVED MEMORY`
abbrev pub adopt_names_of : List (List ℕ) → Option AdoptNames
adopt_names_of (lines ∷ memory ∷ []) = Some (record { lines = lines; memory = memory })
adopt_names_of arguments = None

-- the first of the lines that a desk does not take into a memory with these entries
abbrev pub fault_at : ℕ → Option FaultKind → Option FaultAt → Option FaultAt
fault_at number None later = later
fault_at number (Some kind) later = Some (record { line = number; kind = kind })

abbrev pub first_refused_from :
    List ℕ → ℕ → List ℕ → List Entry → List Entry → Option FaultAt
first_refused_from numbers place desk entries [] = None
first_refused_from numbers place desk entries (line ∷ later) =
    fault_at (slice_index_or numbers place 0) (adoption_fault desk entries line)
    (first_refused_from numbers (place + 1) desk entries later)

abbrev pub first_refused : List ℕ → List Entry → NumberedEntries → Option FaultAt
first_refused desk entries lines =
    first_refused_from lines.numbers 0 desk entries lines.entries

-- the answer where none are taken, of which this is the first that is refused
abbrev pub IsUntaken : Option FaultAt → Status → Type 0
IsUntaken None status = status ≡ Memory
IsUntaken (Some fault) status = status ≡ Bad (States fault)

-- what came of lines in a memory that has these entries: one is refused, or all were adopted
abbrev pub AdoptsIf : {M : Type 0} → MemoryGhosts M → M → M → List Entry → List Entry
    → Option FaultAt → Status → Type 0
AdoptsIf m opened left entries lines (Some fault) status =
    (status ≡ Bad (States fault)) × (left ≡ opened)
AdoptsIf m opened left entries lines None status =
    ((status ≡ Memory) × (left ≡ opened))
    ⊎ NotesAll m opened left (with_arrivals entries lines) status

abbrev pub Adopts : {M : Type 0} → MemoryGhosts M → NumberedEntries → Status → List ℕ
    → List Entry → M → M → Type 0
Adopts m lines status desk entries opened left =
    AdoptsIf m opened left entries lines.entries (first_refused desk entries lines) status

-- an answer to arguments that may name lines and a memory: the lines were refused, and no memory
-- was opened, or it was used with them
pub record IsAdoptAnswer {S F M : Type 0} (s : ShelfGhosts S) (told : ToldMemories F M)
    (m : MemoryGhosts M) (desk_of : M → List ℕ) (shelf shelf_after : S)
    (memories memories_after : F) (names : Option AdoptNames) (status : Status) : Type 0 where
  pub words : (status ≡ Words) ↔ (names ≡ None)
  pub unread : status ≡ Words → (shelf_after ≡ shelf) × (memories_after ≡ memories)
  pub answers : IfSome names (λ names.
      (IsUnread s shelf shelf_after (states_row names.lines) status × (memories_after ≡ memories))
      ⊎ ((lines : NumberedEntries) × Reaches (s.files shelf) (states_row names.lines) (Ok lines)
      × UsesIf told m desk_of memories memories_after names.memory status (Unit {0})
      (Adopts m lines status)))
  pub kept : KeepsFiles s.files s.faults s.misses shelf shelf_after
