-- Under which name each key stands.
use Rattle.std.specs.Prelude.{◌≡◌, ◌<◌, ◌⊎◌, ◌++◌, ℕ, List, [], ◌∷◌, length, slice_index_or, Option, Some, None}
use Rattle.desk_memory.specs.{declared.answer.Answer.TheVariants.Stale, Entry.{Entry, owner_in}, KeyMark.key_mark}
use Rattle.verifier_desk.specs.{DeskLine.{Own, desk_line_of, DeviceLine}, DeviceKey.DeviceKey, Noted.entries_after, Replies.{DeskFields, lines_said, mark_at, own_answer}, Run.{AreStarted, Run}}

-- a key stands under no other name than this
abbrev pub IsFreeFor : List ℕ → Option (List ℕ) → Type 0
IsFreeFor name None = Unit {0}
IsFreeFor name (Some owner) = owner ≡ name

-- the key of the device at a place stands under no other name, and no device before it has that key
pub record StandsApart (digest : List ℕ → List ℕ) (devices : List DeviceKey)
    (entries : List Entry) (place : ℕ) : Type 0 where
  pub free : (d : DeviceKey)
      → IsFreeFor (slice_index_or devices place d).name
      (owner_in entries (key_mark digest (slice_index_or devices place d).key))
  pub new : (before : ℕ) (d : DeviceKey) → before < place
      → key_mark digest (slice_index_or devices before d).key
      ≡ key_mark digest (slice_index_or devices place d).key
      → ⊥

-- so do those of all devices before a place
abbrev pub StandApartBefore :
    (List ℕ → List ℕ) → List DeviceKey → List Entry → ℕ → Type 0
StandApartBefore digest devices entries end =
    (place : ℕ) → place < end → StandsApart digest devices entries place

-- and those of all
abbrev pub KeysStandApart : (List ℕ → List ℕ) → List DeviceKey → List Entry → Type 0
KeysStandApart digest devices entries =
    StandApartBefore digest devices entries (length devices)

-- the place of the first device whose key does not, where there is one
abbrev pub IsFirstTaken :
    (List ℕ → List ℕ) → List DeviceKey → List Entry → Option ℕ → Type 0
IsFirstTaken digest devices entries None = KeysStandApart digest devices entries
IsFirstTaken digest devices entries (Some place) =
    (place < length devices) × StandApartBefore digest devices entries place
    × (StandsApart digest devices entries place → ⊥)

-- After a desk's lines its keys go on to stand apart, and each key stands under the name that it
-- stood under.
pub record KeysAreKept (desk : DeskFields) (entries : List Entry) : Type 0 where
  pub apart : KeysStandApart desk.digest desk.devices entries
  pub kept : (mark name : List ℕ) → owner_in desk.entries mark ≡ Some name
      → owner_in entries mark ≡ Some name

abbrev pub IsKeyKept : Type 0
IsKeyKept =
    (desk : DeskFields) (lines : List (List ℕ))
    → KeysStandApart desk.digest desk.devices desk.entries
    → KeysAreKept desk (entries_after desk lines)

-- a line of a device after earlier lines that is answered, and not by `stale`
pub record IsTold (desk : DeskFields) (earlier : List (List ℕ)) (line : List ℕ)
    (device : DeviceKey) : Type 0 where
  pub own : DeviceLine
  pub said : desk_line_of desk.devices line ≡ Own device own
  pub told : own_answer desk (lines_said desk earlier device.name) device own ≡ Stale → ⊥

-- with the answer the device's key stands under its name
abbrev pub IsKeyBound : Type 0
IsKeyBound =
    (desk : DeskFields) (earlier : List (List ℕ)) (line : List ℕ) (device : DeviceKey)
    → KeysStandApart desk.digest desk.devices desk.entries
    → IsTold desk earlier line device
    → owner_in (entries_after desk (line ∷ earlier)) (mark_at desk device) ≡ Some device.name

-- each run began with keys that stand apart
abbrev pub KeysStandApartIn : List Run → Type 0
KeysStandApartIn [] = Unit {0}
KeysStandApartIn (run ∷ earlier) =
    KeysStandApart run.desk.digest run.desk.devices run.desk.entries × KeysStandApartIn earlier

-- a device of this name and this key's mark was served: one of its lines was answered, and not by
-- `stale`
pub record IsServedIn (run : Run) (name mark : List ℕ) : Type 0 where
  pub device : DeviceKey
  pub named : device.name ≡ name
  pub marked : mark_at run.desk device ≡ mark
  pub later : List (List ℕ)
  pub line : List ℕ
  pub earlier : List (List ℕ)
  pub parts : run.lines ≡ later ++ line ∷ earlier
  pub told : IsTold run.desk earlier line device

abbrev pub IsServedThrough : List Run → List ℕ → List ℕ → Type 0
IsServedThrough [] name mark = ⊥
IsServedThrough (run ∷ earlier) name mark =
    IsServedIn run name mark ⊎ IsServedThrough earlier name mark

-- no key is served under two names, through all runs
abbrev pub IsUnderOneName : Type 0
IsUnderOneName =
    (start : List Entry) (runs : List Run) (mark one other : List ℕ) → AreStarted start runs
    → KeysStandApartIn runs
    → IsServedThrough runs one mark → IsServedThrough runs other mark
    → one ≡ other
