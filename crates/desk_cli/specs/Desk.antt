-- The command `desk`: it serves devices over the lines of a source.
use Rattle.std.specs.Prelude.{◌≡◌, ◌<◌, ◌≤◌, ◌⊎◌, ◌↔◌, ◌+◌, ℕ, List, [], ◌∷◌, length, Option, Some, None, IfSome, Ok}
use Rattle.sha2.specs.Sha256.{sha256}
use Rattle.mem_map.specs.Image.{byte_in}
use Rattle.outside_edge.specs.{Calls.Rose, Shelf.KeepsFiles, declared.{shelf.Shelf.Ghosts as ShelfGhosts, sink.Sink.Ghosts as SinkGhosts, source.Source.Ghosts as SourceGhosts}}
use Rattle.report_verifier.specs.Policy.{PolicyFields}
use Rattle.desk_memory.specs.{declared.{memory.Memory.Ghosts as MemoryGhosts, no_memory.NoMemory.NoMemory}, Entry.Entry, NoMemory.forgets}
use Rattle.source_server.specs.{declared.served.Served.Served, Serving.{Serves, Ports}, Taken.{KeepsLimit, most_input}}
use Rattle.verifier_desk.specs.{declared.answer_fault.AnswerFault.AnswerFault, Desk.desk_with, DeviceKey.{DeviceKey, first_gone}, KeyOwner.{IsFirstTaken, KeysStandApart}, Replies.DeskFields, Serving.desk_promise}
use Rattle.input_files.specs.{declared.{status.Status.{Status, TheVariants.{BadMemory, Done, Memory, Spent, Words}}, unfit.Unfit.TheVariants.{GoneDevice, TakenKey}}, FileKind.image_kind, Reading.{IsUnread, Reaches, first_refusal}, Row.{RowOf, Ends, read_file}}
use Rattle.desk_cli.specs.{declared.desk.FileValues.FileValues, FileKind.{desk_policy_kind, keys_kind}, MemoryFiles.{IsUnhindered, ToldMemories, UsesIf}, Status.status_of_served}

-- the names of its files
pub record DeskNames : Type 0 where
  pub keys : List ℕ
  pub image : List ℕ
  pub policy : List ℕ
  pub memory : Option (List ℕ)

-- `desk KEYS IMAGE POLICY`, or `desk KEYS IMAGE POLICY MEMORY`
abbrev pub desk_names_of : List (List ℕ) → Option DeskNames
desk_names_of (keys ∷ image ∷ policy ∷ []) =
    Some (record { keys = keys; image = image; policy = policy; memory = None })
desk_names_of (keys ∷ image ∷ policy ∷ memory ∷ []) =
    Some (record { keys = keys; image = image; policy = policy; memory = Some memory })
desk_names_of arguments = None

-- what its files say: whom it serves, and what it judges reports by
pub record DeskValues : Type 0 where
  pub devices : List DeviceKey
  pub image : ℕ → Option ℕ
  pub policy : PolicyFields

abbrev pub values_of : FileValues → DeskValues
values_of values =
    record { devices = values.devices; image = byte_in values.image; policy = values.policy }

-- the row that reads its files in their order; the memory is no file of a row
abbrev pub desk_row : DeskNames → RowOf DeskValues
desk_row names =
    read_file keys_kind names.keys (λ devices.
    read_file image_kind names.image (λ image.
    read_file desk_policy_kind names.policy (λ policy.
    Ends (Ok (record { devices = devices; image = image; policy = policy })))))

-- a desk served the source over a memory
pub record HasServed {R M W : Type 0} (r : SourceGhosts R) (m : MemoryGhosts M)
    (w : SinkGhosts W) (desk : DeskFields) (opened left : M) (old new : Ports R W)
    (status : Status) : Type 0 where
  pub ended : Served AnswerFault
  pub answer : status ≡ status_of_served ended
  pub honest : m.is_honest left → m.is_honest opened
  pub serves : Serves r (desk_promise m w desk (record { memory = opened; sink = old.sink }))
      old.source new.source (record { memory = left; sink = new.sink }) ended

-- the key of a device stands under another name in the memory
pub record IsTaken (devices : List DeviceKey) (entries : List Entry) (status : Status)
    : Type 0 where
  pub place : ℕ
  pub answer : status ≡ BadMemory (TakenKey (place + 1))
  pub first : IsFirstTaken sha256 devices entries (Some place)

-- or the device is gone to another desk
pub record IsGone (devices : List DeviceKey) (entries : List Entry) (status : Status) : Type 0 where
  pub place : ℕ
  pub answer : status ≡ BadMemory (GoneDevice (place + 1))
  pub first : first_gone entries 0 devices ≡ Some place

-- what came of a memory that has these entries: a key is taken, a device is gone or memory ran out,
-- and it stays as it is, or the desk served the source
abbrev pub Meets : {R M W : Type 0} → SourceGhosts R → MemoryGhosts M → SinkGhosts W
    → DeskValues → Ports R W → Ports R W → Status → List ℕ → List Entry → M → M → Type 0
Meets r m w values old new status desk entries opened left =
    ((IsTaken values.devices entries status ⊎ IsGone values.devices entries status
    ⊎ (status ≡ Memory)) × (left ≡ opened) × (new ≡ old))
    ⊎ (KeysStandApart sha256 values.devices entries
    × (first_gone entries 0 values.devices ≡ None)
    × HasServed r m w (desk_with values.devices values.image values.policy entries) opened left
    old new status)

-- the desk of these files served the source: with no memory, or over that of a name
abbrev pub ServesFrom : {F R M W : Type 0} → ToldMemories F M → SourceGhosts R
    → MemoryGhosts M → (M → List ℕ) → SinkGhosts W → DeskValues → Option (List ℕ) → F → F
    → Ports R W → Ports R W → Status → Type 0
ServesFrom told r m desk_of w values None memories memories_after old new status =
    (memories_after ≡ memories)
    × ((opened : NoMemory) × (left : NoMemory)
    × HasServed r forgets w (desk_with values.devices values.image values.policy []) opened left
    old new status)
ServesFrom told r m desk_of w values (Some name) memories memories_after old new status =
    UsesIf told m desk_of memories memories_after name status (new ≡ old)
    (Meets r m w values old new status)

-- a memory of a name can be opened and served: nothing hinders that, the keys of these devices
-- stand apart in it, and none is gone
abbrev pub MayServe : {F M : Type 0} → ToldMemories F M → MemoryGhosts M → List DeviceKey
    → Option (List ℕ) → F → F → Type 0
MayServe told m devices None old new = Unit {0}
MayServe told m devices (Some name) old new =
    IsUnhindered told m old new name
    × ((desk : List ℕ) (entries : List Entry) → told.finds old name desk entries
    → KeysStandApart sha256 devices entries × (first_gone entries 0 devices ≡ None))

-- an answer to arguments that may name its files
pub record IsDeskAnswer {S F R M W : Type 0} (s : ShelfGhosts S) (told : ToldMemories F M)
    (r : SourceGhosts R) (m : MemoryGhosts M) (desk_of : M → List ℕ) (w : SinkGhosts W)
    (shelf shelf_after : S) (memories memories_after : F) (old new : Ports R W)
    (names : Option DeskNames) (status : Status) : Type 0 where
  pub words : (status ≡ Words) ↔ (names ≡ None)
  pub unread : status ≡ Words
      → (shelf_after ≡ shelf) × (memories_after ≡ memories) × (new ≡ old)
  -- the files were refused, no memory was opened and nothing was taken or put, or they were read
  -- without fault, and their desk served the source
  pub answers : IfSome names (λ names.
      (IsUnread s shelf shelf_after (desk_row names) status × (memories_after ≡ memories)
      × (new ≡ old))
      ⊎ ((values : DeskValues) × Reaches (s.files shelf) (desk_row names) (Ok values)
      × ServesFrom told r m desk_of w values names.memory memories memories_after old new status))
  -- where files and lines are told, no file is refused, the lines are not too many, no fault was
  -- counted, and the memory can be served, all lines were answered or memory ran out
  pub complete : IfSome names (λ names. IfSome (s.files shelf) (λ contents.
      IfSome (r.left old.source) (λ lines.
      first_refusal (desk_row names) contents ≡ None
      → length lines < most_input
      → ¬ Rose (s.faults shelf) (s.faults shelf_after)
      → ¬ Rose (r.faults old.source) (r.faults new.source)
      → ¬ Rose (w.faults old.sink) (w.faults new.sink)
      → ((values : DeskValues) → Reaches (s.files shelf) (desk_row names) (Ok values)
      → MayServe told m values.devices names.memory memories memories_after)
      → (status ≡ Done) ⊎ (status ≡ Memory))))
  pub limit : KeepsLimit r old.source new.source (status ≡ Spent)
  pub kept : KeepsFiles s.files s.faults s.misses shelf shelf_after
  pub source_counted : r.faults old.source ≤ r.faults new.source
  pub sink_counted : w.faults old.sink ≤ w.faults new.sink
