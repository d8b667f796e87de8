use Rattle.std.proofs.Common.{◌≡◌, ◌≤◌, ◌-◌}
use Rattle.debug_session.specs.Place.{Run, view_of}
use Rattle.debug_walk.specs.{Copies.TrackStandsFor, Walk.{Walks, place_of}}
use Rattle.device_debug.specs.Ahead.{last_boundary}
use Rattle.device_debug.proofs.forwards.last_boundary.Given as goal

abbrev pub invariant-loop-walk : goal.invariant-loop-walk
invariant-loop-walk g l =
    let hash = g.D.Digest32.hash in
    record {
      within : place_of l.walk ≤ l.until;
      looks : (run : Run) → TrackStandsFor hash l.track run
          → Walks hash run l.walk
          × (l.last ≡ last_boundary (view_of run) l.from (place_of l.walk));
    }

abbrev pub decreases-loop-walk : goal.decreases-loop-walk
decreases-loop-walk g l = l.until - place_of l.walk
