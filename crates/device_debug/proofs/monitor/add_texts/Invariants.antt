use Rattle.std.proofs.Common.{◌≤◌, ◌-◌}
use Rattle.debug_session.specs.{Request.most_steps, Place.{Run, view_of}}
use Rattle.debug_walk.specs.{Copies.played_run, Walk.{Walks, place_of}}
use Rattle.device_debug.{specs.Telling.text_in, proofs.AddedSteps.IsAddedTo}
use Rattle.device_debug.proofs.monitor.add_texts.Given as goal

-- the device is in the middle of the play, and the texts of the steps so far are added
abbrev pub invariant-loop-kind : goal.invariant-loop-kind
invariant-loop-kind g l =
    let hash = g.D.Digest32.hash in
    let run : Run = played_run hash l.track.run in
    record {
      walks : Walks hash run l.walk;
      added : l.from ≤ l.until → l.until ≤ most_steps
          → IsAddedTo g.W.Sink (view_of run) (text_in l.kind) l.fn.packets l.packets l.fn.text
          l.text l.from l.until (place_of l.walk);
      rises : g.W.Sink.faults l.fn.packets.sink ≤ g.W.Sink.faults l.packets.sink;
    }

abbrev pub decreases-loop-kind : goal.decreases-loop-kind
decreases-loop-kind g l = l.end - place_of l.walk
