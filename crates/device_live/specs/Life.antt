-- What a device that lives has behind it: what it was told, and the steps that it made.
use Rattle.std.specs.Prelude.{ℕ, zero, suc, ◌+◌, ◌++◌, List, [], Result, Ok, Err, nat_lt, if◌then◌else◌}
use Rattle.device_types.specs.{Address.Bytes, declared.event.Event.Event}
use Rattle.play_script.specs.{Grammar.{ScriptSoFar, no_lines, with_entry}, Script.events_of}
use Rattle.text_scan.specs.{declared.fault_kind.FaultKind.{FaultKind, TheVariants.Order}}
use Rattle.device_trace.specs.{Trace.{Play, play_of}, Start.Start, Text.lines_of_step}

pub record Life : Type 0 where
  -- the lines of a script that were taken, of which some may speak of steps to come
  pub script : ScriptSoFar
  -- so many steps were made
  pub steps : ℕ

abbrev pub at_power_on : Life
at_power_on = record { script = no_lines; steps = 0 }

abbrev pub events_in : Life → ℕ → List Event
events_in life = events_of life.script.events

-- the play that it has come to
abbrev pub play_lived : Life → Play
play_lived life = play_of (events_in life) life.steps

abbrev pub with_script : Life → Result ScriptSoFar FaultKind → Result Life FaultKind
with_script life (Ok script) = Ok (record life { script = script })
with_script life (Err kind) = Err kind

-- something happens in a step that was not made yet, and not before what was told earlier
abbrev pub with_happening : Life → ℕ → List Event → Result Life FaultKind
with_happening life step events =
    if nat_lt step life.steps then Err Order
    else with_script life (with_entry life.script (step, events))

-- as many steps were made, or more than before
abbrev pub with_steps : Life → ℕ → Result Life FaultKind
with_steps life steps =
    if nat_lt steps life.steps then Err Order else Ok (record life { steps = steps })

-- what `play` prints of so many steps behind these
abbrev pub lines_since : Start → (ℕ → List Event) → ℕ → ℕ → Bytes
lines_since start events_at made zero = []
lines_since start events_at made (suc more) =
    lines_since start events_at made more
    ++ lines_of_step start (events_at (more + made)) (play_of events_at (more + made))
