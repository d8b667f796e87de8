-- The file of keys: one line a device, with its name and its key; and the first fault.
use Rattle.std.specs.{Prelude.{ℕ, ◌==◌, ◌||◌, Bool, List, [], ◌∷◌, ◌++◌, length, if◌then◌else◌, nat_lt, Option, Some, None, Result, Ok, Err, codes, ◌+◌, ◌≡◌, ◌<◌, slice_index_or}, Char.is_ascii_alphanumeric, List.{list_all, list_any}, Option.is_some, Str.bytes_eq, BTreeMap.get_by, Cmp.Lexicographic.slice_cmp, Ordering.nat_cmp}
use Rattle.text_scan.specs.{declared.{fault_at.FaultAt.FaultAt, fault_kind.FaultKind.{FaultKind, TheVariants.{Digit, Count, Twice}}}, LineFold.text_fold, Reader.◌>>=◌, Word.{words_of, next_word, keyword_of, end_of}, WordValue.hex_block_of}
use Rattle.desk_memory.specs.Entry.{Entry, home_of, last_in}
use Rattle.verifier_desk.specs.declared.places.Places.{Places}

pub record DeviceKey : Type 0 where
  pub name : List ℕ
  pub key : List ℕ

-- the key of the device of this name
abbrev pub key_named : List ℕ → List DeviceKey → Option (List ℕ)
key_named name [] = None
key_named name (device ∷ devices) =
    if bytes_eq device.name name then Some device.key else key_named name devices

-- a letter, a digit or `_` (95)
abbrev pub is_name_character : ℕ → Bool
is_name_character character = is_ascii_alphanumeric character || (character == 95)

-- a name has 1 to 32 such characters
abbrev pub name_fault : List ℕ → Result Unit FaultKind
name_fault word =
    if list_all is_name_character word
    then (if (length word == 0) || nat_lt 32 (length word) then Err Count else Ok tt)
    else Err Digit

-- `device NAME H128`
unfoldable pub device_of : List (List ℕ) → Result DeviceKey FaultKind
device_of words = do
  rest ← keyword_of (codes "device") words
  name ← next_word rest
  sound ← name_fault name.0
  key ← hex_block_of 64 name.1
  end ← end_of key.1
  Ok (record { name = name.0; key = key.0 })

-- whether one of these devices has this key
abbrev pub has_key : List ℕ → List DeviceKey → Bool
has_key key devices = list_any (λ (device : DeviceKey). bytes_eq device.key key) devices

-- no device has the name or the key of one before it
abbrev pub with_device : List DeviceKey → DeviceKey → Result (List DeviceKey) FaultKind
with_device devices device =
    if is_some (key_named device.name devices) || has_key device.key devices
    then Err Twice
    else Ok (devices ++ device ∷ [])

unfoldable pub with_line : List DeviceKey → List ℕ → Result (List DeviceKey) FaultKind
with_line devices line = do
  device ← device_of (words_of line)
  with_device devices device

-- the devices in the order of the file, or the first fault
abbrev pub devices_of : List ℕ → Result (List DeviceKey) FaultAt
devices_of text = text_fold with_line [] text

-- The devices of a desk that are gone to another one.

-- the place of the first of these devices that is gone, where the first of all has this place
abbrev pub first_gone : List Entry → ℕ → List DeviceKey → Option ℕ
first_gone entries place [] = None
first_gone entries place (device ∷ devices) =
    if is_some (home_of (last_in entries device.name)).gone then Some place
    else first_gone entries (place + 1) devices

-- The places of words in a list of devices.

-- the place of a word, if it has one
abbrev pub place_in : Places → List ℕ → Option ℕ
place_in places word = get_by (λ k. slice_cmp nat_cmp word k.items) places.places

-- each device's word has the device's place
abbrev pub ArePlaced :
    (DeviceKey → List ℕ) → List DeviceKey → (List ℕ → Option ℕ) → Type 0
ArePlaced word devices place =
    (i : ℕ) (d : DeviceKey) → i < length devices
    → place (word (slice_index_or devices i d)) ≡ Some i
