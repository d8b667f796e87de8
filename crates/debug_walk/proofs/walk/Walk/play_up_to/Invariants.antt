use Rattle.std.proofs.Common.{◌≤◌, ◌-◌}
use Rattle.debug_session.specs.Place.{Run}
use Rattle.debug_walk.specs.Walk.{Walks, place_of}
use Rattle.debug_walk.proofs.walk.Walk.play_up_to.Given as goal

abbrev pub invariant-loop-self : goal.invariant-loop-self
invariant-loop-self g l = record {
  walks : (run : Run)
      → Walks g.D.Digest32.hash run l.initial.self
      → Walks g.D.Digest32.hash run l.self;
  within : place_of l.initial.self ≤ l.end → place_of l.self ≤ l.end;
}

abbrev pub decreases-loop-self : goal.decreases-loop-self
decreases-loop-self g l = l.end - place_of l.self
