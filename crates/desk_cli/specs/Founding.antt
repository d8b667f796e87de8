-- The commands `found` and `remember`: a new memory of a desk, with the entries that a text has, or
-- with none.
use Rattle.std.specs.Prelude.{◌≡◌, ◌⊎◌, ◌↔◌, Bool, ℕ, List, [], ◌∷◌, if◌then◌else◌, Option, Some, None, IfSome, Ok, is_ok}
use Rattle.outside_edge.specs.{Shelf.KeepsFiles, declared.shelf.Shelf.Ghosts as ShelfGhosts}
use Rattle.desk_memory.specs.{declared.memory.Memory.Ghosts as MemoryGhosts, Entry.{Entry, with_entries}}
use Rattle.verifier_desk.specs.DeviceKey.{name_fault}
use Rattle.input_files.specs.{declared.status.Status.{Status, TheVariants.Words}, Reading.{IsUnread, Reaches}, Row.{RowOf, Ends, read_file}}
use Rattle.desk_cli.specs.{FileKind.states_kind, MemoryFiles.{IsMade, LacksMemory, Making, ToldMemories}, Noting.NotesAll, StateFile.NumberedEntries}

-- the names of the new memory and of its desk
pub record FoundNames : Type 0 where
  pub memory : List ℕ
  pub desk : List ℕ

-- a word that a desk or a device can have as its name
abbrev pub is_name : List ℕ → Bool
is_name word = is_ok (name_fault word)

-- `found MEMORY DESK`
abbrev pub found_names_of : List (List ℕ) → Option FoundNames
found_names_of (memory ∷ desk ∷ []) =
    if is_name desk then Some (record { memory = memory; desk = desk }) else None
found_names_of arguments = None

-- a memory was made for a desk, was to keep all of these entries, and was closed as it was left
pub record Founds {F M : Type 0} (told : ToldMemories F M) (m : MemoryGhosts M)
    (desk_of : M → List ℕ) (memories memories_after : F) (names : FoundNames)
    (entries : List Entry) (status : Status) : Type 0 where
  pub opened : M
  pub left : M
  pub made : IsMade told m memories names.memory opened
  pub desk : desk_of opened ≡ names.desk
  pub notes : NotesAll m opened left (with_entries [] entries) status
  pub closed : told.left memories_after ≡ Some left

-- or none was made, which is the answer
abbrev pub FoundsIf : {F M : Type 0} → ToldMemories F M → MemoryGhosts M → (M → List ℕ) → F → F
    → FoundNames → List Entry → Status → Type 0
FoundsIf told m desk_of memories memories_after names entries status =
    LacksMemory told Making memories memories_after names.memory status
    ⊎ Founds told m desk_of memories memories_after names entries status

-- an answer to arguments that may name a memory and its desk
pub record IsFoundAnswer {F M : Type 0} (told : ToldMemories F M) (m : MemoryGhosts M)
    (desk_of : M → List ℕ) (memories memories_after : F) (names : Option FoundNames)
    (status : Status) : Type 0 where
  pub words : (status ≡ Words) ↔ (names ≡ None)
  pub unread : status ≡ Words → memories_after ≡ memories
  pub answers : IfSome names (λ names.
      FoundsIf told m desk_of memories memories_after names [] status)

-- the names of a text of states, the new memory and its desk
pub record RememberNames : Type 0 where
  pub states : List ℕ
  pub found : FoundNames

-- `remember STATES MEMORY DESK`
abbrev pub with_states : List ℕ → Option FoundNames → Option RememberNames
with_states states None = None
with_states states (Some found) = Some (record { states = states; found = found })

abbrev pub remember_names_of : List (List ℕ) → Option RememberNames
remember_names_of [] = None
remember_names_of (states ∷ arguments) = with_states states (found_names_of arguments)

-- the row that reads its file
abbrev pub states_row : List ℕ → RowOf NumberedEntries
states_row name = read_file states_kind name (λ states. Ends (Ok states))

-- an answer to arguments that may name its file, a memory and a desk: the file was refused, and no
-- memory was opened, or one was to be made with its entries
pub record IsRememberAnswer {S F M : Type 0} (s : ShelfGhosts S) (told : ToldMemories F M)
    (m : MemoryGhosts M) (desk_of : M → List ℕ) (shelf shelf_after : S)
    (memories memories_after : F) (names : Option RememberNames) (status : Status)
    : Type 0 where
  pub words : (status ≡ Words) ↔ (names ≡ None)
  pub unread : status ≡ Words → (shelf_after ≡ shelf) × (memories_after ≡ memories)
  pub answers : IfSome names (λ names.
      (IsUnread s shelf shelf_after (states_row names.states) status × (memories_after ≡ memories))
      ⊎ ((states : NumberedEntries)
      × Reaches (s.files shelf) (states_row names.states) (Ok states)
      × FoundsIf told m desk_of memories memories_after names.found states.entries status))
  pub kept : KeepsFiles s.files s.faults s.misses shelf shelf_after
