use Rattle.std.proofs.Common.{◌-◌}
use Rattle.debug_session.specs.Place.{Run}
use Rattle.debug_walk.specs.Walk.{Walks, place_of}
use Rattle.debug_walk.proofs.walk.Walk.play_to_boundary.Given as goal

abbrev pub invariant-loop-walk : goal.invariant-loop-walk
invariant-loop-walk g l =
    (run : Run) → Walks g.D.Digest32.hash run l.fn.self → Walks g.D.Digest32.hash run l.walk

abbrev pub decreases-loop-walk : goal.decreases-loop-walk
decreases-loop-walk g l = l.end - place_of l.walk
