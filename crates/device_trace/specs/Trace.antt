-- The trace of a play: the list of the records of its steps, newest first.
use Rattle.std.specs.Prelude.{ℕ, Bool, zero, suc, List, [], ◌∷◌, Option, Some, None}
use Rattle.word_arith.specs.Number.{Word16}
use Rattle.device_types.specs.{declared.{bus_record.BusRecord.BusRecord, event.Event.Event, signals.Signals.Signals, bounds.Bounds.Bounds}, ExecFlag.SeenHistory, Address.Contents}
use Rattle.device_trace.specs.{Logs.{Logs, power_on_logs, logged_byte, logged_bounds, with_events, with_record}, Start.{Start, without_key}, Step.{next_record, next_signals}}

-- Plays: what a run is of.

-- the events of each step, the newest step first
abbrev pub Play : Type 0
Play = List (List Event)

abbrev pub next_logs : Start → Logs → List Event → Logs
next_logs start logs events =
    with_record start (with_events logs events) (next_record start logs events)

-- what happened to each part of the device in a play
unfoldable pub logs_after : Start → Play → Logs
logs_after start [] = power_on_logs
logs_after start (events ∷ play) =
    let logs : Logs = logs_after start play in
    next_logs start logs events

-- each step adds one record
unfoldable pub trace : Start → Play → List BusRecord
trace start [] = []
trace start (events ∷ play) = next_record start (logs_after start play) events ∷ trace start play

-- the trace without a key, where the calls release these words
abbrev pub open_trace : (SeenHistory → Bool) → List Word16 → Contents → Play → List BusRecord
open_trace flag words image play = trace (without_key flag words image) play

-- the words that the calls of a play wrote to the MAC
abbrev pub released_words : Start → Play → List Word16
released_words start play = (logs_after start play).released_words

abbrev pub byte_after : Start → Play → Contents
byte_after start play place = logged_byte start (logs_after start play) place

-- the last record of a history
abbrev pub last_record : List BusRecord → Option BusRecord
last_record [] = None
last_record (entry ∷ history) = Some entry

-- what the last step of a play was about to do, and the bounds before it
abbrev pub last_signals : Start → Play → Option Signals
last_signals start [] = None
last_signals start (events ∷ play) = Some (next_signals start (logs_after start play) events)

abbrev pub last_bounds : Start → Play → Option Bounds
last_bounds start [] = None
last_bounds start (events ∷ play) = Some (logged_bounds start (logs_after start play))

-- the first steps of a script, which has a list of events for each step
abbrev pub play_of : (ℕ → List Event) → ℕ → Play
play_of events_at zero = []
play_of events_at (suc steps) = events_at steps ∷ play_of events_at steps
