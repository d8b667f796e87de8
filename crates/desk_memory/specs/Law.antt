-- What an entry changes of what the entries say, and what it keeps.
use Rattle.std.specs.{Prelude.{◌≡◌, ◌⊎◌, ℕ, List, None, Some, if◌then◌else◌}, Str.bytes_eq}
use Rattle.desk_memory.specs.Entry.{Entry, last_in, owner_in, with_entry}

-- it is the last of its device, and each other device has the last that it had
abbrev pub IsLastNoted : Type 0
IsLastNoted =
    (entries : List Entry) (new : Entry) (other : List ℕ)
    → last_in (with_entry entries new) other
    ≡ (if bytes_eq new.name other then Some new else last_in entries other)

-- a key goes on to stand under its name
abbrev pub IsOwnerKept : Type 0
IsOwnerKept =
    (entries : List Entry) (new : Entry) (mark name : List ℕ)
    → owner_in entries mark ≡ Some name
    → owner_in (with_entry entries new) mark ≡ Some name

-- a key that stands under no other name stands under that of its entry
abbrev pub IsOwnerNoted : Type 0
IsOwnerNoted =
    (entries : List Entry) (new : Entry)
    → (owner_in entries new.mark ≡ None) ⊎ (owner_in entries new.mark ≡ Some new.name)
    → owner_in (with_entry entries new) new.mark ≡ Some new.name
