-- The runs of desks over one memory, each from its start to its end.
use Rattle.std.specs.Prelude.{◌≡◌, ℕ, List, [], ◌∷◌, ◌++◌}
use Rattle.desk_memory.specs.Entry.{Entry, last_in}
use Rattle.verifier_desk.specs.{Judged.{JudgedLine, entry_through}, Law.judged_lines, Noted.entries_after, Replies.DeskFields}

-- a desk and its lines, the newest first
pub record Run : Type 0 where
  pub desk : DeskFields
  pub lines : List (List ℕ)

-- what the memory has after runs, the newest first, where it had these entries before
abbrev pub entries_through : List Entry → List Run → List Entry
entries_through start [] = start
entries_through start (run ∷ earlier) = entries_after run.desk run.lines

-- each run began with what the memory had
abbrev pub AreStarted : List Entry → List Run → Type 0
AreStarted start [] = Unit {0}
AreStarted start (run ∷ earlier) =
    (run.desk.entries ≡ entries_through start earlier) × AreStarted start earlier

-- the lines of the device of a name in all runs
abbrev pub lines_through : List Run → List ℕ → List JudgedLine
lines_through [] name = []
lines_through (run ∷ earlier) name =
    judged_lines run.desk name run.lines ++ lines_through earlier name

-- the memory has the last entry of each device after its lines of all runs
abbrev pub IsOfAllRuns : Type 0
IsOfAllRuns =
    (start : List Entry) (runs : List Run) (name : List ℕ) → AreStarted start runs
    → last_in (entries_through start runs) name
    ≡ entry_through name (last_in start name) (lines_through runs name)
