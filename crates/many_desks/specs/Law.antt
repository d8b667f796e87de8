-- What many desks keep of each device.
use Rattle.std.specs.{Prelude.{◌≡◌, ◌≤◌, ◌++◌, ℕ, true, false, List, [], ◌∷◌, if◌then◌else◌, Option, Some, None, IfSome, option_map}, Str.bytes_eq}
use Rattle.desk_memory.specs.{declared.answer.Answer.{Answer, TheVariants.Stale}, Entry.{Entry, Note, last_in}, Moving.{has_here, is_here}}
use Rattle.verifier_desk.specs.{DeskLine.{Own, desk_line_of, DeviceLine}, DeviceKey.DeviceKey, Judged.{JudgedLine, answer_to, entry_through, mark_of}, Law.judged_lines, Replies.{answer_line, judge_at, mark_at, reply}, Run.Run}
use Rattle.many_desks.specs.Act.{Act, AreAllowed, Serves, World, world_after}

-- another memory has no entry of a device, or says that it is gone, after no more moves than the
-- memory at its home counts
abbrev pub IsLeft : Option Entry → Option Entry → Type 0
IsLeft home None = Unit {0}
IsLeft None (Some other) = ⊥
IsLeft (Some last) (Some other) =
    (is_here other ≡ false) × (other.home.moves ≤ last.home.moves)

-- At the start the device of a name is at home at one desk, or no memory knows it.
pub record StartsAt (start : World) (home name : List ℕ) : Type 0 where
  pub here : IfSome (last_in (start home) name) (λ last. is_here last ≡ true)
  pub others : (desk : List ℕ) → (home ≡ desk → ⊥)
      → IsLeft (last_in (start home) name) (last_in (start desk) name)

-- one desk at most has it here
abbrev pub HasOneHome : Type 0
HasOneHome =
    (start : World) (acts : List Act) (home name one other : List ℕ)
    → StartsAt start home name → AreAllowed start acts
    → has_here (last_in (world_after start acts one) name) ≡ true
    → has_here (last_in (world_after start acts other) name) ≡ true
    → one ≡ other

-- the lines of the device of a name at all desks, the newest first
abbrev pub lines_by : Act → List ℕ → List JudgedLine
lines_by (Serves desk run) name = judged_lines run.desk name run.lines
lines_by act name = []

abbrev pub lines_in : List Act → List ℕ → List JudgedLine
lines_in [] name = []
lines_in (act ∷ earlier) name = lines_by act name ++ lines_in earlier name

-- the last entry of the device of a name as one desk would have it that served all of its lines
abbrev pub entry_of_one : World → List Act → List ℕ → List ℕ → Option Entry
entry_of_one start acts home name =
    entry_through name (last_in (start home) name) (lines_in acts name)

-- what an entry says of its device, wherever that is at home
abbrev pub note_of : Entry → Note
note_of entry = record { name = entry.name; mark = entry.mark; state = entry.state }

abbrev pub SayAlike : Option Entry → Option Entry → Type 0
SayAlike one other = option_map note_of one ≡ option_map note_of other

-- the desk that has the device here says what the one desk would say
abbrev pub AreAsOne : Type 0
AreAsOne =
    (start : World) (acts : List Act) (home name desk : List ℕ)
    → StartsAt start home name → AreAllowed start acts
    → has_here (last_in (world_after start acts desk) name) ≡ true
    → SayAlike (last_in (world_after start acts desk) name) (entry_of_one start acts home name)

-- what the one desk would answer to a line after others of the device
abbrev pub answer_of_one : World → List ℕ → List ℕ → List JudgedLine → JudgedLine → Answer
answer_of_one start home name before now =
    answer_to (entry_through name (last_in (start home) name) before) now

-- After acts a desk serves lines. One of them, after these, is of a device.
pub record Serving (start : World) (earlier : List Act) (desk : List ℕ) (run : Run)
    (before : List (List ℕ)) (line : List ℕ) (device : DeviceKey) : Type 0 where
  pub allowed : AreAllowed start (Serves desk run ∷ earlier)
  pub later : List (List ℕ)
  pub parts : run.lines ≡ later ++ line ∷ before
  pub own : DeviceLine
  pub said : desk_line_of run.desk.devices line ≡ Own device own

-- what it is judged by, and all earlier lines of its device
abbrev pub now_in : Run → DeviceKey → DeviceLine → JudgedLine
now_in run device own = record { judge = judge_at run.desk device; line = own }

abbrev pub lines_before : Run → List (List ℕ) → List Act → List ℕ → List JudgedLine
lines_before run before earlier name =
    judged_lines run.desk name before ++ lines_in earlier name

-- the reply to it has the answer that the one desk would give
abbrev pub IsAnsweredAsOne : Type 0
IsAnsweredAsOne =
    (start : World) (earlier : List Act) (home desk : List ℕ) (run : Run)
    (before : List (List ℕ)) (line : List ℕ) (device : DeviceKey)
    → StartsAt start home device.name
    → (it : Serving start earlier desk run before line device)
    → reply run.desk before line
    ≡ answer_line run.desk.digest device it.own.number
    (answer_of_one start home device.name (lines_before run before earlier device.name)
    (now_in run device it.own))

-- so at whatever desk the last number gets the last answer again under the same key, and is stale
-- under another one
abbrev pub IsAnsweredAlike : Type 0
IsAnsweredAlike =
    (start : World) (earlier : List Act) (home desk : List ℕ) (run : Run)
    (before : List (List ℕ)) (line : List ℕ) (device : DeviceKey)
    (last : JudgedLine) (rest : List JudgedLine)
    → StartsAt start home device.name
    → (it : Serving start earlier desk run before line device)
    → lines_before run before earlier device.name ≡ last ∷ rest
    → it.own.number ≡ last.line.number
    → (answer_of_one start home device.name rest last ≡ Stale → ⊥)
    → reply run.desk before line
    ≡ answer_line run.desk.digest device it.own.number
    (if bytes_eq (mark_of last) (mark_at run.desk device)
    then answer_of_one start home device.name rest last
    else Stale)
