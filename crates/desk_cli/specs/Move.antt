-- The command `move`: a device goes from the memory of its desk to another desk.
use Rattle.std.specs.{Prelude.{◌≡◌, ◌≤◌, ◌⊎◌, ◌↔◌, ◌==◌, ◌&&◌, ℕ, List, [], ◌∷◌, if◌then◌else◌, not, Option, Some, None, IfSome, Result, Ok, Err}, Str.bytes_eq}
use Rattle.outside_edge.specs.declared.sink.Sink.{Ghosts as SinkGhosts}
use Rattle.desk_memory.specs.{declared.{memory.Memory.Ghosts as MemoryGhosts, memory_fault.MemoryFault.MemoryFault}, AnswerReader.most_number, Entry.{Entry, Home, home_of, last_in}, Moving.{with_departure, gone_to, is_gone_to, is_here, moved_lines}}
use Rattle.input_files.specs.{declared.{status.Status.{Status, TheVariants.{BadMemory, Memory, Words}}, unfit.Unfit.{Unfit, TheVariants.{Gone, LastMove, NoDevice, OwnDesk}}}}
use Rattle.desk_cli.specs.{Founding.is_name, MemoryFiles.{ToldMemories, UsesIf}, Noting.HasNoted, States.PutsText, StateText.states_text, Status.status_of_unkept}

-- the names of the memory, the device and the desk that it goes to
pub record MoveNames : Type 0 where
  pub memory : List ℕ
  pub device : List ℕ
  pub desk : List ℕ

-- `move MEMORY NAME DESK`
abbrev pub move_names_of : List (List ℕ) → Option MoveNames
move_names_of (memory ∷ device ∷ desk ∷ []) =
    if is_name device && is_name desk
    then Some (record { memory = memory; device = device; desk = desk })
    else None
move_names_of arguments = None

-- what becomes of the last entry of a device that shall go from one desk to another: why it cannot
-- go, or the entry by which it goes, or none, where it is gone there already
abbrev pub departure : List ℕ → List ℕ → Option Entry → Result (Option Entry) Unfit
departure from to None = Err NoDevice
departure from to (Some last) =
    if is_gone_to to last then Ok None
    else if not (is_here last) then Err Gone
    else if bytes_eq to from then Err OwnDesk
    else if last.home.moves == most_number then Err LastMove
    else Ok (Some (gone_to to last))

-- the answer where it stays: it cannot go, or there is no memory for what it needs
abbrev pub Stays : Result (Option Entry) Unfit → Status → Type 0
Stays (Ok leaving) status = status ≡ Memory
Stays (Err unfit) status = status ≡ BadMemory unfit

-- where the device of a last entry is at home once it left by this entry, or as it is gone already
abbrev pub home_behind : Option Entry → Option Entry → Home
home_behind None last = home_of last
home_behind (Some gone) last = gone.home

-- the lines by which a device moves
abbrev pub moves_text : List ℕ → List Entry → List ℕ
moves_text device entries = states_text (moved_lines device entries)

-- the memory keeps these entries before the text is put; or it failed, and nothing is put
pub record KeepsAndPuts {M W : Type 0} (m : MemoryGhosts M) (w : SinkGhosts W)
    (opened left : M) (old new : W) (entries : List Entry) (text : List ℕ) (status : Status)
    : Type 0 where
  pub result : Option MemoryFault
  pub noted : HasNoted m opened left entries result
  pub puts : result ≡ None → PutsText w old new text status
  pub fails : IfSome result (λ fault. (status ≡ status_of_unkept fault) × (new ≡ old))

-- what came of a departure, in a memory that has these entries
abbrev pub Departs : {M W : Type 0} → MemoryGhosts M → SinkGhosts W → M → M → W → W
    → MoveNames → List Entry → Result (Option Entry) Unfit → Status → Type 0
Departs m w opened left old new names entries (Err unfit) status =
    (status ≡ BadMemory unfit) × (left ≡ opened) × (new ≡ old)
Departs m w opened left old new names entries (Ok None) status =
    (left ≡ opened)
    × (((status ≡ Memory) × (new ≡ old))
    ⊎ PutsText w old new (moves_text names.device entries) status)
Departs m w opened left old new names entries (Ok (Some gone)) status =
    ((status ≡ Memory) × (left ≡ opened) × (new ≡ old))
    ⊎ KeepsAndPuts m w opened left old new (with_departure names.device names.desk entries)
    (moves_text names.device (with_departure names.device names.desk entries)) status

abbrev pub Moves : {M W : Type 0} → MemoryGhosts M → SinkGhosts W → W → W → MoveNames → Status
    → List ℕ → List Entry → M → M → Type 0
Moves m w old new names status desk entries opened left =
    Departs m w opened left old new names entries
    (departure desk names.desk (last_in entries names.device)) status

-- an answer to arguments that may name a memory, a device and a desk
pub record IsMoveAnswer {F M W : Type 0} (told : ToldMemories F M) (m : MemoryGhosts M)
    (desk_of : M → List ℕ) (w : SinkGhosts W) (memories memories_after : F) (old new : W)
    (names : Option MoveNames) (status : Status) : Type 0 where
  pub words : (status ≡ Words) ↔ (names ≡ None)
  pub unread : status ≡ Words → (memories_after ≡ memories) × (new ≡ old)
  pub answers : IfSome names (λ names.
      UsesIf told m desk_of memories memories_after names.memory status (new ≡ old)
      (Moves m w old new names status))
  pub sink_counted : w.faults old ≤ w.faults new
