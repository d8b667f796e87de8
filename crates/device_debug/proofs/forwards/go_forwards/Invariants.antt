use Rattle.std.proofs.Common.{◌≡◌, ◌≤◌, ◌-◌}
use Rattle.word_arith.specs.Number.{bit_of}
use Rattle.debug_session.specs.{Request.most_steps, Place.Run}
use Rattle.debug_link.specs.Conversation.{HaveCome}
use Rattle.debug_walk.specs.{Copies.TrackStandsFor, Walk.{Walks, place_of}}
use Rattle.device_debug.{specs.Going.{StandsAt, step_in}, proofs.Going.IsGoing}
use Rattle.device_debug.proofs.forwards.go_forwards.Given as goal

abbrev pub invariant-loop-passing : goal.invariant-loop-passing
invariant-loop-passing g l =
    let hash = g.D.Digest32.hash in
    record {
      from_is : l.from ≡ place_of l.fn.walk;
      rises : g.W.Sink.faults l.fn.packets.sink ≤ g.W.Sink.faults l.packets.sink;
      same_run : l.track.run ≡ l.fn.track.run;
      stays : (run : Run) → TrackStandsFor hash l.fn.track run → Walks hash run l.fn.walk
          → TrackStandsFor hash l.track run × Walks hash run l.walk;
      going : (run : Run) → TrackStandsFor hash l.fn.track run
          → StandsAt hash run l.from l.fn.walk
          → IsGoing hash g.W.Sink run l.stops (step_in l.seek) l.from l.fn.packets l.packets
          l.walk l.waiting;
      came : HaveCome (bit_of l.look.has_come) (g.I.Interrupts.left l.fn.interrupts)
          (g.I.Interrupts.left l.interrupts);
    }

abbrev pub decreases-loop-passing : goal.decreases-loop-passing
decreases-loop-passing g l = most_steps - place_of l.walk
