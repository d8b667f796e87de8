use Rattle.std.proofs.Common.{◌≡◌, ◌≤◌, ◌<◌, ◌-◌, ℕ, false}
use Rattle.debug_session.specs.Place.{Run, sight_at}
use Rattle.debug_walk.specs.Walk.{IsStretch, OfWalk, Walks, place_of}
use Rattle.device_debug.proofs.backwards.to_boundary.Given as goal

abbrev pub invariant-loop-walk : goal.invariant-loop-walk
invariant-loop-walk g l =
    let hash = g.D.Digest32.hash in
    record {
      walks : (run : Run) → Walks hash run l.fn.walk → Walks hash run l.walk;
      within : (place_of l.fn.walk ≤ place_of l.walk) × (place_of l.walk ≤ l.end);
      stretch : OfWalk hash l.fn.walk (λ run place.
          IsStretch l.watches run place l.fn.walk.stretch
          → IsStretch l.watches run (place_of l.walk) l.walk.stretch);
      passes_none : OfWalk hash l.fn.walk (λ run place. (at : ℕ)
          → place ≤ at → at < place_of l.walk → (sight_at run at).boundary ≡ false);
    }

abbrev pub decreases-loop-walk : goal.decreases-loop-walk
decreases-loop-walk g l = l.end - place_of l.walk
