-- How a device moves from the memory of one desk into that of another: by lines, which the one
-- prints and the other adopts.
use Rattle.std.specs.{Prelude.{ℕ, ◌+◌, ◌==◌, ◌||◌, ◌&&◌, Bool, true, false, List, [], ◌∷◌, if◌then◌else◌, map, nat_lt, not, Option, Some, None}, List.filter, Option.is_none, Str.bytes_eq}
use Rattle.text_scan.specs.{declared.fault_kind.FaultKind.{FaultKind, TheVariants.{Order, Place, Twice}}}
use Rattle.desk_memory.specs.Entry.{Entry, Home, home_of, last_in, owner_in, with_entries, with_entry}

abbrev pub is_here : Entry → Bool
is_here entry = is_none entry.home.gone

-- whether the device of this last entry is here
abbrev pub has_here : Option Entry → Bool
has_here None = false
has_here (Some entry) = is_here entry

-- it is gone to this desk
abbrev pub is_desk : List ℕ → Option (List ℕ) → Bool
is_desk desk None = false
is_desk desk (Some other) = bytes_eq other desk

abbrev pub is_gone_to : List ℕ → Entry → Bool
is_gone_to desk entry = is_desk desk entry.home.gone

-- where a device has gone, its last entry says so
abbrev pub gone_to : List ℕ → Entry → Entry
gone_to desk entry =
    record entry { home = record { moves = entry.home.moves + 1; gone = Some desk } }

-- the entries after the device of a name has gone to a desk
abbrev pub with_gone : List ℕ → List Entry → Option Entry → List Entry
with_gone desk entries None = entries
with_gone desk entries (Some last) = with_entry entries (gone_to desk last)

abbrev pub with_departure : List ℕ → List ℕ → List Entry → List Entry
with_departure name desk entries = with_gone desk entries (last_in entries name)

-- the entries of the device of a name, each with the home that the last of them has: the lines by
-- which it moves
abbrev pub entries_of : List ℕ → List Entry → List Entry
entries_of name entries = filter (λ (entry : Entry). bytes_eq entry.name name) entries

abbrev pub at_home : Home → Entry → Entry
at_home home entry = record entry { home = home }

abbrev pub lines_at : Home → List ℕ → List Entry → List Entry
lines_at home name entries = map (at_home home) (entries_of name entries)

abbrev pub moved_lines : List ℕ → List Entry → List Entry
moved_lines name entries = lines_at (home_of (last_in entries name)) name entries

-- why a desk of this name, whose memory has these entries, takes no such line: it says another
-- desk, its key stands under another name, or the device is here or has moved on since; but where
-- it came by this very move nothing is wrong
abbrev pub is_of_other : List ℕ → Option (List ℕ) → Bool
is_of_other name None = false
is_of_other name (Some owner) = not (bytes_eq owner name)

abbrev pub came_by : Entry → Entry → Bool
came_by line last = is_here last && (last.home.moves == line.home.moves)

abbrev pub is_behind_last : Entry → Entry → Bool
is_behind_last line last =
    not (came_by line last) && (is_here last || not (nat_lt last.home.moves line.home.moves))

abbrev pub is_behind : Entry → Option Entry → Bool
is_behind line None = false
is_behind line (Some last) = is_behind_last line last

abbrev pub adoption_fault : List ℕ → List Entry → Entry → Option FaultKind
adoption_fault desk entries line =
    if not (is_gone_to desk line) then Some Place
    else if is_of_other line.name (owner_in entries line.mark) then Some Twice
    else if is_behind line (last_in entries line.name) then Some Order
    else None

-- whether a line is of a move by which its device has not come yet
abbrev pub has_not_come : Entry → Option Entry → Bool
has_not_come line None = true
has_not_come line (Some last) = not (came_by line last)

abbrev pub is_new_in : List Entry → Entry → Bool
is_new_in entries line = has_not_come line (last_in entries line.name)

-- a device that has come is here
abbrev pub entry_on_arrival : Entry → Entry
entry_on_arrival line = record line { home = record { moves = line.home.moves; gone = None } }

-- What lines add to these entries, where a device has not come by that very move: the last line of
-- the device, and those of keys that do not stand there yet.
abbrev pub is_needed : List Entry → Entry → List Entry → Bool
is_needed entries line later =
    is_new_in entries line
    && (is_none (last_in later line.name) || is_none (owner_in entries line.mark))

abbrev pub entries_on_arrival : List Entry → List Entry → List Entry
entries_on_arrival entries [] = []
entries_on_arrival entries (line ∷ later) =
    if is_needed entries line later
    then entry_on_arrival line ∷ entries_on_arrival entries later
    else entries_on_arrival entries later

-- the entries after lines were adopted
abbrev pub with_arrivals : List Entry → List Entry → List Entry
with_arrivals entries lines = with_entries entries (entries_on_arrival entries lines)
