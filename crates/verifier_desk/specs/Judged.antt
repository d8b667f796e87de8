-- The lines of a device in all runs, each with what it was judged by, and what they leave of it.
use Rattle.std.specs.Prelude.{ℕ, Bool, List, [], ◌∷◌, if◌then◌else◌, map, Option, Some}
use Rattle.report_verifier.specs.Judge.{Judge}
use Rattle.desk_memory.specs.{declared.{answer.Answer.Answer, device_state.DeviceState.DeviceState}, DeviceState.is_new, Entry.{Entry, entry_at, home_of, state_under}, KeyMark.key_mark}
use Rattle.verifier_desk.specs.{DeskLine.DeviceLine, DeviceReply.{answer_after, state_after}}

-- a line, and what it was judged by: another run may have another image, policy or key
pub record JudgedLine : Type 0 where
  pub judge : Judge
  pub line : DeviceLine

-- lines that were judged alike
abbrev pub judged_by : Judge → List DeviceLine → List JudgedLine
judged_by judge lines = map (λ (line : DeviceLine). record { judge = judge; line = line }) lines

-- the mark of the key that it was judged under
abbrev pub mark_of : JudgedLine → List ℕ
mark_of now = key_mark now.judge.digest now.judge.key

-- the state in which it is answered, where this is its device's last entry
abbrev pub state_before : Option Entry → JudgedLine → DeviceState
state_before entry now = state_under (mark_of now) entry

abbrev pub is_new_to : Option Entry → JudgedLine → Bool
is_new_to entry now = is_new now.line.number (state_before entry now).last

abbrev pub answer_to : Option Entry → JudgedLine → Answer
answer_to entry now = answer_after now.judge (state_before entry now) now.line

-- the last entry of a name's device after one more of its lines: one with a new number is noted,
-- and the device stays at home where it was
abbrev pub entry_after : List ℕ → Option Entry → JudgedLine → Option Entry
entry_after name entry now =
    if is_new_to entry now
    then Some (entry_at (home_of entry) (record {
      name = name;
      mark = mark_of now;
      state = state_after now.judge (state_before entry now) now.line;
    }))
    else entry

-- and after lines, the newest first
abbrev pub entry_through : List ℕ → Option Entry → List JudgedLine → Option Entry
entry_through name start [] = start
entry_through name start (now ∷ earlier) = entry_after name (entry_through name start earlier) now
