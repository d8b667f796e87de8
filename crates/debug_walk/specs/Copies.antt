-- The copies that are left on a way, and the walks that go on from them.
use Rattle.std.specs.{Prelude.{◌≡◌, ◌<◌, ◌⊎◌, ℕ, true}, List.All}
use Rattle.debug_session.specs.Place.{Run, sight_at}
use Rattle.debug_walk.specs.{Walk.{IsFresh, Walks, place_of, second_flag}, declared.{copies.Copies.Copies, track.Track.Track, walk.Walk.Walk, run.Run.Run as GivenRun}}
use Rattle.hmac_core.specs.Hash.{Hash}
use Rattle.mem_map.specs.Image.{power_on_of}
use Rattle.device_trace.specs.Start.{with_key}
use Rattle.play_script.specs.Script.{events_of}

-- The run that is played: a device at power-on, and a script.

abbrev pub played_run : {D : Type 0} → Hash D → GivenRun → Run
played_run hash run =
    record {
      start = with_key second_flag.value hash.digest_of run.key.now
          (power_on_of run.key.now run.image.now).image;
      events_at = events_of run.script.now;
    }

-- a walk of a run, which stands at a boundary
pub record IsCopy {D : Type 0} (hash : Hash D) (run : Run)
    (walk : Walk D) : Type 0 where
  pub walks : Walks hash run walk
  pub settled : (sight_at run (place_of walk)).boundary ≡ true

pub record AreCopies {D : Type 0} (hash : Hash D) (run : Run)
    (copies : Copies D) : Type 0 where
  pub far : All (IsCopy hash run) copies.far.items
  pub near : All (IsCopy hash run) copies.near.items

-- a run that is played, and copies of it
pub record TrackStandsFor {D : Type 0} (hash : Hash D) (track : Track D)
    (run : Run) : Type 0 where
  pub same_run : played_run hash track.run ≡ run
  pub copies : AreCopies hash run track.copies

-- a walk of a run from where all that follows is known
pub record IsBegun {D : Type 0} (hash : Hash D) (run : Run)
    (walk : Walk D) : Type 0 where
  pub walks : Walks hash run walk
  pub fresh : IsFresh run walk

-- it stands before a place, or at power-on
abbrev pub IsBefore : {D : Type 0} → ℕ → Walk D → Type 0
IsBefore place walk = (place_of walk ≡ 0) ⊎ (place_of walk < place)

-- a walk at a place of a run
pub record IsAt {D : Type 0} (hash : Hash D) (run : Run) (place : ℕ)
    (walk : Walk D) : Type 0 where
  pub walks : Walks hash run walk
  pub place_is : place_of walk ≡ place
