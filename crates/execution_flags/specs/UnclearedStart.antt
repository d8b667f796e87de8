-- When a flag is set, in the words of a trace.
use Rattle.std.specs.Prelude.{◌≡◌, ◌≤◌, ◌++◌, Bool, List, ◌∷◌, Option, length, IsTrue}
use Rattle.device_types.specs.{ExecFlag.{SeenHistory, SeenRecord, starts_run, last_pc}, Address.Address}

-- one of these records, the newest first: those after it, itself, and those before it
pub record Moment (records : SeenHistory) : Type 0 where
  pub after : List SeenRecord
  pub now : SeenRecord
  pub before : List SeenRecord
  pub whole : records ≡ after ++ now ∷ before

-- a record starts a run, and neither it nor a later one clears the flag, whichever records do
pub record UnclearedStart (clears : Option Address → SeenRecord → Bool)
    (records : SeenHistory) : Type 0 where
  pub start : Moment records
  pub starts : IsTrue (starts_run start.now)
  pub kept : (moment : Moment records)
      → length moment.after ≤ length start.after
      → ¬ IsTrue (clears (last_pc moment.before) moment.now)
