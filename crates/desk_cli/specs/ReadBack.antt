-- The text of the entries that desks have noted reads back as these entries, and so does the text
-- that version 1 printed.
use Rattle.std.specs.{Prelude.{◌≡◌, Bool, true, ℕ, List, [], ◌∷◌, nat_le, Option, Some, None, IfSome, Ok, IsTrue}, List.All}
use Rattle.hex.specs.Hex.{IsBytes}
use Rattle.desk_memory.specs.Entry.{Entry, first_home, last_in, owner_in, with_entries, with_entry, is_sized}
use Rattle.verifier_desk.specs.{DeviceKey.name_fault, KeyOwner.IsFreeFor}
use Rattle.desk_cli.specs.{StateFile.{goes_on, is_in_range, states_of}, StateText.{states_text, version_one_text}}

-- an outstanding request is one of those that were made
abbrev pub is_made : ℕ → Option ℕ → Bool
is_made count None = true
is_made count (Some number) = nat_le number count

-- an entry as a desk notes it while requests are left: its name can stand in a file of keys, and so
-- can that of the desk that it is gone to, its mark is of bytes, and its outstanding request and
-- its state are in range
pub record IsWritable (entry : Entry) : Type 0 where
  pub name : name_fault entry.name ≡ Ok tt
  pub mark : IsBytes entry.mark
  pub sized : IsTrue (is_sized entry)
  pub made : IsTrue (is_made entry.state.count entry.state.outstanding)
  pub range : IsTrue (is_in_range entry.state)
  pub desk : IfSome entry.home.gone (λ desk. name_fault desk ≡ Ok tt)

-- entries as desks note them, one after another: no key stands under two names, and each entry goes
-- on from its device's last
abbrev pub AreNotable : List Entry → List Entry → Type 0
AreNotable had [] = Unit {0}
AreNotable had (entry ∷ entries) =
    IsWritable entry × IsFreeFor entry.name (owner_in had entry.mark)
    × IsTrue (goes_on (last_in had entry.name) entry)
    × AreNotable (with_entry had entry) entries

abbrev pub StatesReadBack : Type 0
StatesReadBack =
    (entries : List Entry) → AreNotable [] entries
    → states_of (states_text (with_entries [] entries)) ≡ Ok (with_entries [] entries)

abbrev pub HaveNotMoved : List Entry → Type 0
HaveNotMoved entries = All (λ (entry : Entry). entry.home ≡ first_home) entries

abbrev pub VersionOneReadsBack : Type 0
VersionOneReadsBack =
    (entries : List Entry) → AreNotable [] entries → HaveNotMoved entries
    → states_of (version_one_text (with_entries [] entries)) ≡ Ok (with_entries [] entries)
