-- What a desk's memory keeps: an entry for each device and each key that it was served under, the
-- oldest first.
use Rattle.std.specs.{Prelude.{ℕ, ◌&&◌, Bool, List, [], ◌∷◌, if◌then◌else◌, not, Option, Some, None, option_map, unwrap_or, suc, ◌^◌, ◌==◌, true, length, nat_lt}, Option.is_some, Str.bytes_eq, List.list_all}
use Rattle.desk_memory.specs.{declared.{device_state.DeviceState.DeviceState, answer.Answer.{Answer, TheVariants.Requested}}, DeviceState.{new_device, under_new_key}}
use Rattle.outside_edge.specs.Calls.{CallCounts}
use Rattle.desk_memory.specs.declared.home.Home as code

-- how often a device has moved from desk to desk, and the desk that it is gone to; without one it
-- is here
pub record Home : Type 0 where
  pub moves : ℕ
  pub gone : Option (List ℕ)

abbrev pub home_fields : code.Home → Home
home_fields home = record { moves = home.moves; gone = option_map (λ desk. desk.now) home.gone }

-- what a desk notes of a device: its name, the mark of its key, and its state
pub record Note : Type 0 where
  pub name : List ℕ
  pub mark : List ℕ
  pub state : DeviceState

-- the same, and where the device is at home
pub record Entry : Type 0 where
  pub name : List ℕ
  pub mark : List ℕ
  pub state : DeviceState
  pub home : Home

-- the last entry of the device of a name
abbrev pub last_in : List Entry → List ℕ → Option Entry
last_in [] name = None
last_in (entry ∷ later) name =
    if is_some (last_in later name) then last_in later name
    else if bytes_eq entry.name name then Some entry
    else None

-- the state that an entry says under a key of this mark: under another key it is renewed
abbrev pub entry_state : List ℕ → Entry → DeviceState
entry_state mark entry =
    if bytes_eq entry.mark mark then entry.state else under_new_key entry.state

-- the state of a device under a key of this mark, by its last entry: without one it sent no line
abbrev pub state_under : List ℕ → Option Entry → DeviceState
state_under mark entry = unwrap_or (option_map (entry_state mark) entry) new_device

-- the name that a key of this mark stands under: that of its first entry
abbrev pub owner_in : List Entry → List ℕ → Option (List ℕ)
owner_in [] mark = None
owner_in (entry ∷ later) mark =
    if bytes_eq entry.mark mark then Some entry.name else owner_in later mark

-- whether an entry is the last of another's device, and has its mark too
abbrev pub is_replaced : Entry → List Entry → Entry → Bool
is_replaced entry later new =
    bytes_eq entry.name new.name && bytes_eq entry.mark new.mark
    && not (is_some (last_in later new.name))

-- the entries after one more: it takes the place of its device's last, where that has its mark, and
-- else stands behind all
abbrev pub with_entry : List Entry → Entry → List Entry
with_entry [] new = new ∷ []
with_entry (entry ∷ later) new =
    if is_replaced entry later new then new ∷ later else entry ∷ with_entry later new

-- the entries after further ones, in their order
abbrev pub with_entries : List Entry → List Entry → List Entry
with_entries entries [] = entries
with_entries entries (new ∷ more) = with_entries (with_entry entries new) more

-- a device that no desk knows has not moved
abbrev pub first_home : Home
first_home = record { moves = 0; gone = None }

abbrev pub home_of : Option Entry → Home
home_of None = first_home
home_of (Some entry) = entry.home

-- a note of a device that is at home there
abbrev pub entry_at : Home → Note → Entry
entry_at home note =
    record { name = note.name; mark = note.mark; state = note.state; home = home }

-- the entries after a note: its device stays at home where it was
abbrev pub with_note : List Entry → Note → List Entry
with_note entries note = with_entry entries (entry_at (home_of (last_in entries note.name)) note)

-- Where one more entry changes the entries.

-- at its device's last, where that has its mark, and else behind all
abbrev pub place_for : List Entry → Entry → ℕ
place_for [] new = 0
place_for (entry ∷ later) new =
    if is_replaced entry later new then 0 else suc (place_for later new)

-- Entries as the code can have them: marks of 16 bytes, numbers of 32 bits.

abbrev pub is_short : ℕ → Bool
is_short number = nat_lt number (2 ^ 32)

abbrev pub is_short_answer : Answer → Bool
is_short_answer (Requested count) = is_short count
is_short_answer answer = true

abbrev pub is_short_number : Option ℕ → Bool
is_short_number None = true
is_short_number (Some number) = is_short number

abbrev pub is_short_line : Option (ℕ × Answer) → Bool
is_short_line None = true
is_short_line (Some last) = is_short last.0 && is_short_answer last.1

abbrev pub is_sized : Entry → Bool
is_sized entry =
    length entry.mark == 16
    && is_short entry.state.count
    && is_short_number entry.state.outstanding
    && is_short_line entry.state.last
    && is_short entry.home.moves

abbrev pub are_sized : List Entry → Bool
are_sized entries = list_all is_sized entries

-- A memory for tests.

-- The desk that it belongs to, the entries now, those of the last call that settled them, where one
-- did, and its counts.
pub record MemoryInMemory : Type 0 where
  pub desk : List ℕ
  pub entries : List Entry
  pub settled : Option (List Entry)
  pub counts : CallCounts
