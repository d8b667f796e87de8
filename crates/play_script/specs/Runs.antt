-- How a script is kept: its events, and how many come in each step that has some.
use Rattle.std.specs.{Prelude.{◌≡◌, ◌<◌, ℕ, Bool, false, List, [], ◌∷◌, length, nat_le, replicate}, List.{AllPairs, flat_map, sum_by, zip}}
use Rattle.device_types.specs.declared.event.Event.{Event}
use Rattle.play_script.specs.{Script.TimedEvent, declared.step_events.StepEvents.StepEvents}

-- how many events there are
abbrev pub count_in : List StepEvents → ℕ
count_in runs = sum_by (λ run. run.count) runs

-- the step of each event
abbrev pub steps_in : List StepEvents → List ℕ
steps_in runs = flat_map (λ run. replicate run.count run.step) runs

-- the events with their steps
abbrev pub timed_in : List StepEvents → List Event → List TimedEvent
timed_in runs events = zip (steps_in runs) events

-- each run is of a later step than those before it
abbrev pub Ascend : List StepEvents → Type 0
Ascend runs = AllPairs (λ earlier later. earlier.step < later.step) runs

-- runs that count these events
pub record AreRunsOf (events : List Event) (runs : List StepEvents) : Type 0 where
  pub counted : count_in runs ≡ length events
  pub ascend : Ascend runs

-- the first of these steps is at most a step
abbrev pub starts_by : List StepEvents → ℕ → Bool
starts_by [] step = false
starts_by (first ∷ runs) step = nat_le first.step step

-- the first of them, the largest number of 64 bits where there is none
abbrev pub next_of : List StepEvents → ℕ
next_of [] = 18446744073709551615
next_of (first ∷ runs) = first.step
