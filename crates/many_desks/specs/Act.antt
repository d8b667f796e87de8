-- What becomes of the memories of many desks: desks serve lines, and devices move between them. A
-- desk is told by its name.
use Rattle.std.specs.{Prelude.{◌≡◌, ◌⊎◌, ℕ, true, List, [], ◌∷◌, if◌then◌else◌, All, Option, None}, Str.bytes_eq}
use Rattle.desk_memory.specs.{Entry.{Entry, last_in, owner_in}, Moving.{with_arrivals, adoption_fault, with_departure, entries_of, has_here, moved_lines}}
use Rattle.verifier_desk.specs.{DeviceKey.first_gone, KeyOwner.KeysStandApart, Noted.entries_after, Run.Run}

-- the entries that the memory of each desk has, by the desk's name
abbrev pub World : Type 0
World = List ℕ → List Entry

pub data Act : Type 0 where
  -- a desk serves lines over its memory
  Serves : List ℕ → Run → Act
  -- a memory notes that the device of a name goes to another desk
  Sends : List ℕ → List ℕ → List ℕ → Act
  -- a memory adopts lines by which devices move
  Adopts : List ℕ → List Entry → Act

-- the desk whose memory an act changes, and what that has after it
abbrev pub desk_of : Act → List ℕ
desk_of (Serves desk run) = desk
desk_of (Sends desk name target) = desk
desk_of (Adopts desk lines) = desk

abbrev pub entries_by : Act → List Entry → List Entry
entries_by (Serves desk run) entries = entries_after run.desk run.lines
entries_by (Sends desk name target) entries = with_departure name target entries
entries_by (Adopts desk lines) entries = with_arrivals entries lines

abbrev pub with_memory : World → List ℕ → List Entry → List ℕ → List Entry
with_memory world desk entries other = if bytes_eq desk other then entries else world other

-- the memories after acts, the newest first
abbrev pub world_after : World → List Act → World
world_after start [] = start
world_after start (act ∷ earlier) =
    let world = world_after start earlier in
    with_memory world (desk_of act) (entries_by act (world (desk_of act)))

-- by these lines the device of a name has moved to a desk
abbrev pub IsMove : World → Act → List ℕ → List ℕ → List Entry → Type 0
IsMove world (Sends desk device target) name to lines =
    (device ≡ name) × (target ≡ to)
    × (lines ≡ moved_lines device (with_departure device target (world desk)))
IsMove world act name to lines = ⊥

abbrev pub WasMoved : World → List Act → List ℕ → List ℕ → List Entry → Type 0
WasMoved start [] name to lines = ⊥
WasMoved start (act ∷ earlier) name to lines =
    IsMove (world_after start earlier) act name to lines ⊎ WasMoved start earlier name to lines

-- what a memory did not know before an act, and does know after it
abbrev pub IsLearned : {A : Type 0} → Option A → Option A → Type 0
IsLearned before after = (before ≡ None) × (after ≡ None → ⊥)

-- A desk may serve lines: it has what its memory has, its keys stand apart, and none of its devices
-- is gone. A device and a key that its memory learns by them is known to no other memory.
pub record MayServe (world : World) (desk : List ℕ) (run : Run) : Type 0 where
  pub begun : run.desk.entries ≡ world desk
  pub apart : KeysStandApart run.desk.digest run.desk.devices run.desk.entries
  pub here : first_gone run.desk.entries 0 run.desk.devices ≡ None
  pub devices : (name other : List ℕ) → (desk ≡ other → ⊥)
      → IsLearned (last_in run.desk.entries name)
      (last_in (entries_after run.desk run.lines) name)
      → last_in (world other) name ≡ None
  pub keys : (mark other : List ℕ) → (desk ≡ other → ⊥)
      → IsLearned (owner_in run.desk.entries mark)
      (owner_in (entries_after run.desk run.lines) mark)
      → owner_in (world other) mark ≡ None

-- A memory may adopt lines that have no fault there: of each device all lines by which it moved
-- there, at whatever time, or none.
pub record MayAdopt (start : World) (earlier : List Act) (desk : List ℕ) (lines : List Entry)
    : Type 0 where
  pub faultless :
      All (λ line. adoption_fault desk (world_after start earlier desk) line ≡ None) lines
  pub moved : (name : List ℕ)
      → (entries_of name lines ≡ []) ⊎ WasMoved start earlier name desk (entries_of name lines)

-- a device goes from where it is
abbrev pub IsAllowed : World → List Act → Act → Type 0
IsAllowed start earlier (Serves desk run) = MayServe (world_after start earlier) desk run
IsAllowed start earlier (Sends desk name target) =
    has_here (last_in (world_after start earlier desk) name) ≡ true
IsAllowed start earlier (Adopts desk lines) = MayAdopt start earlier desk lines

abbrev pub AreAllowed : World → List Act → Type 0
AreAllowed start [] = Unit {0}
AreAllowed start (act ∷ earlier) = IsAllowed start earlier act × AreAllowed start earlier
