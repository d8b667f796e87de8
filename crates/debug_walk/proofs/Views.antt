-- What a device shows in the middle of a run is what the place has where it stands.
use Rattle.std.{proofs.Common.{◌≡◌, ℕ, suc, Bool, List, Some, Result, Ok, Err, inr}, specs.Prelude.IfOk}
use Rattle.device_types.specs.{TraceFlag.Flag, declared.bus_record.BusRecord.BusRecord}
use Rattle.hmac_core.specs.Hash.{Hash}
use Rattle.device_trace.specs.{Logs.{Logs, aux_of, exec_of}, Progress.{last_registers, stands_at_boundary}, Start.Start, Trace.{last_record, logs_after, trace}}
use Rattle.play_script.specs.declared.playback.Playback.{Playback}
use Rattle.device_core.specs.{Device.{OfLive, steps_made}, declared.live.Live.Live}
use Rattle.device_play.specs.Midway.{IsMidway}
use Rattle.debug_session.specs.{Place.{Run, aux_at, exec_at, logs_at, play_to, sight_at, step_at}, declared.watch.Watch.Watch}
use Rattle.debug_walk.specs.{Copies.IsBegun, Walk.{IsStretch, Walks, place_of}, declared.walk.Walk.Walk}

pub some-same : {A : Type 0} {one other : A} → Some one ≡ Some other → one ≡ other
some-same same = cc (same)

-- the record of the step that led to a place
entry-at : (run : Run) (place : ℕ) (entry : BusRecord)
    → last_record (trace run.start (play_to run (suc place))) ≡ Some entry
    → step_at run place ≡ entry
unfolding trace step_at logs_at
entry-at run place entry is = some-same is

module _ {D G : Type 0} {hash : Hash D} {flag : Flag G} {live : Live D G} {playback : Playback}
    (run : Run) (midway : IsMidway hash flag run.start run.events_at live playback) where
  -- what holds of its logs
  pub at-place : (holds : Start → Logs → Type 0)
      → OfLive hash flag live (λ start play. holds start (logs_after start play))
      → holds run.start (logs_at run (steps_made live))
  unfolding logs_at
  at-place holds seen = seen run.start (play_to run (steps_made live)) midway.stands

  -- its last record
  pub last-entry : (place : ℕ) (entry : BusRecord)
      → steps_made live ≡ suc place
      → OfLive hash flag live (λ start play. last_record (trace start play) ≡ Some entry)
      → step_at run place ≡ entry
  last-entry place entry made last =
      entry-at run place entry
      (rw made at (last run.start (play_to run (steps_made live)) midway.stands))

  pub boundary-at : (here : Bool)
      → OfLive hash flag live (λ start play.
      here ≡ stands_at_boundary (logs_after start play).progress)
      → here ≡ (sight_at run (steps_made live)).boundary
  unfolding sight_at
  boundary-at here seen =
      at-place (λ start logs. here ≡ stands_at_boundary logs.progress) seen

  pub registers-at : (registers : List ℕ)
      → OfLive hash flag live (λ start play.
      registers ≡ last_registers (logs_after start play).progress)
      → registers ≡ (sight_at run (steps_made live)).registers
  unfolding sight_at
  registers-at registers seen =
      at-place (λ start logs. registers ≡ last_registers logs.progress) seen

  pub level-at : (level : ℕ)
      → OfLive hash flag live (λ start play. level ≡ (logs_after start play).level)
      → level ≡ (sight_at run (steps_made live)).level
  unfolding sight_at
  level-at level seen = at-place (λ start logs. level ≡ logs.level) seen

  pub exec-at : (exec : Bool)
      → OfLive hash flag live (λ start play. exec ≡ exec_of (logs_after start play))
      → exec ≡ exec_at run (steps_made live)
  exec-at exec seen = at-place (λ start logs. exec ≡ exec_of logs) seen

  pub aux-at : (aux : Bool)
      → OfLive hash flag live (λ start play. aux ≡ aux_of start (logs_after start play))
      → aux ≡ aux_at run (steps_made live)
  aux-at aux seen = at-place (λ start logs. aux ≡ aux_of start logs) seen

-- A walk that begins at power-on.

pub begun-anew : {D E : Type 0} (hash : Hash D) (played run : Run) (result : Result (Walk D) E)
    → played ≡ run
    → IfOk result (λ walk. Walks hash played walk)
    → IfOk result (λ walk. place_of walk ≡ 0)
    → ((watches : List Watch) → IfOk result (λ walk. IsStretch watches played 0 walk.stretch))
    → IfOk result (IsBegun hash run)
begun-anew hash played run (Ok walk) same walks place kept =
    rw (← same) (record { walks = walks; fresh = inr (λ watches. rw place (kept watches)) })
begun-anew hash played run (Err error) same walks place kept = tt
