-- What a desk notes in its memory: the state of a device after each of its lines with a new number.
use Rattle.std.specs.Prelude.{ℕ, List, [], ◌∷◌, if◌then◌else◌, Option, Some, None}
use Rattle.desk_memory.specs.{DeviceState.is_new, Entry.{Entry, Note, with_note}}
use Rattle.verifier_desk.specs.{DeskLine.{DeskLine, Own, desk_line_of, DeviceLine}, DeviceKey.DeviceKey, Replies.{DeskFields, lines_said, mark_at, state_at}}

-- the note of a device after these lines of it
abbrev pub note_at : DeskFields → DeviceKey → List DeviceLine → Note
note_at desk device lines =
    record { name = device.name; mark = mark_at desk device; state = state_at desk device lines }

-- what is noted of what a line says, where these were the earlier lines of each device
abbrev pub noted_of : DeskFields → (List ℕ → List DeviceLine) → DeskLine → Option Note
noted_of desk earlier (Own device line) =
    if is_new line.number (state_at desk device (earlier device.name)).last
    then Some (note_at desk device (line ∷ earlier device.name))
    else None
noted_of desk earlier said = None

abbrev pub with_noted : Option Note → List Entry → List Entry
with_noted None entries = entries
with_noted (Some note) entries = with_note entries note

-- what the memory has after lines, the newest first
abbrev pub entries_after : DeskFields → List (List ℕ) → List Entry
entries_after desk [] = desk.entries
entries_after desk (line ∷ earlier) =
    with_noted (noted_of desk (lines_said desk earlier) (desk_line_of desk.devices line))
    (entries_after desk earlier)
