-- A device in the middle of a play.
use Rattle.std.specs.Prelude.{◌≡◌, ◌≤◌, ◌<◌, ◌+◌, ℕ, suc, Bool, true, List, [], None}
use Rattle.device_types.specs.{declared.event.Event.Event, TraceFlag.Flag}
use Rattle.hmac_core.specs.Hash.{Hash}
use Rattle.device_trace.specs.{Start.Start, Trace.{logs_after, play_of}}
use Rattle.play_script.specs.{Playback.events_left, declared.playback.Playback.Playback}
use Rattle.device_core.specs.{Device.{LiveStandsFor, machine_of, steps_made}, Quiet.{IsOpen, IsQuiet, Question}, declared.live.Live.Live}

-- a device that stands for a play's first steps, as many as it made; the events of the later ones
-- are left
pub record IsMidway {D G : Type 0} (hash : Hash D) (flag : Flag G) (start : Start)
    (events_at : ℕ → List Event) (live : Live D G) (playback : Playback) : Type 0 where
  pub stands : LiveStandsFor hash flag live start (play_of events_at (steps_made live))
  pub left : (later : ℕ) → steps_made live ≤ later → events_left playback later ≡ events_at later

-- a step of a play in which no events come, and which is quiet
abbrev pub IsQuietIn : Question → Start → (ℕ → List Event) → ℕ → Type 0
IsQuietIn quiet start events_at step =
    (events_at step ≡ []) × IsQuiet quiet start (play_of events_at step)

-- and it came there from this step on, by one step where every step is shown; all that it made then
-- but the last are quiet, and so is the last where it was not kept; between them a row may go on
pub record HasGoneOn {D G : Type 0} (hash : Hash D) (flag : Flag G) (every_step : Bool)
    (quiet : Question) (start : Start) (events_at : ℕ → List Event) (from : ℕ) (live : Live D G)
    (playback : Playback) : Type 0 where
  pub midway : IsMidway hash flag start events_at live playback
  pub alone : every_step ≡ true → steps_made live ≡ suc from
  pub quietly : (step : ℕ)
      → from ≤ step
      → step + 1 < steps_made live
      → IsQuietIn quiet start events_at step
  pub between : (step : ℕ)
      → from < step
      → step < steps_made live
      → IsOpen quiet (logs_after start (play_of events_at step))
  pub unkept : (step : ℕ)
      → steps_made live ≡ suc step
      → (machine_of live).bus.last ≡ None
      → IsQuietIn quiet start events_at step
