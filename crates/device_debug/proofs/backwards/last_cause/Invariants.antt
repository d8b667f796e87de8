use Rattle.std.proofs.Common.{◌≡◌, ◌-◌}
use Rattle.debug_session.specs.Place.{Run}
use Rattle.debug_walk.specs.{Copies.{IsBefore, IsBegun, TrackStandsFor}, Walk.{Walks, place_of}}
use Rattle.device_debug.{specs.Going.step_in, proofs.LookingBack.IsLookingBack}
use Rattle.device_debug.proofs.backwards.last_cause.Given as goal

abbrev pub invariant-loop-here : goal.invariant-loop-here
invariant-loop-here g l =
    let hash = g.D.Digest32.hash in
    record {
      same_run : l.track.run ≡ l.fn.track.run;
      begin_is : l.begin ≡ place_of l.fn.walk;
      place_is : l.here.place ≡ place_of l.walk;
      stays : (run : Run) → Walks hash run l.fn.walk
          → Walks hash run l.walk
          × (TrackStandsFor hash l.fn.track run → TrackStandsFor hash l.track run);
      looks : (run : Run) → IsBegun hash run l.fn.walk → IsBefore l.last l.fn.walk
          → IsLookingBack hash run l.stops (step_in l.seek) l.from l.begin l.last l.walk
          l.here.place l.here.pc l.here.is_broken l.found;
    }

abbrev pub decreases-loop-here : goal.decreases-loop-here
decreases-loop-here g l = l.from - place_of l.walk
