use Rattle.std.proofs.Common.{◌≡◌, ◌<◌}
use Rattle.debug_session.specs.Place.{Run}
use Rattle.debug_link.specs.Conversation.{HaveCome}
use Rattle.debug_walk.specs.Copies.{TrackStandsFor}
use Rattle.device_debug.{specs.Going.step_in, proofs.Back.NoneBehind}
use Rattle.device_debug.proofs.backwards.go_back.Given as goal

abbrev pub invariant-loop-walk : goal.invariant-loop-walk
invariant-loop-walk g l =
    let hash = g.D.Digest32.hash in
    record {
      before : l.last < l.end;
      same_run : l.track.run ≡ l.fn.track.run;
      stays : (run : Run) → TrackStandsFor hash l.fn.track run → TrackStandsFor hash l.track run;
      none : (run : Run) → TrackStandsFor hash l.fn.track run
          → NoneBehind run l.stops (step_in l.seek) l.end l.last;
      came : HaveCome 0 (g.I.Interrupts.left l.fn.interrupts) (g.I.Interrupts.left l.interrupts);
    }

abbrev pub decreases-loop-walk : goal.decreases-loop-walk
decreases-loop-walk g l = l.last
