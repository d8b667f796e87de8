use Rattle.std.proofs.Common.{◌≡◌, ◌≤◌, ◌-◌}
use Rattle.device_trace.specs.Start.{Start}
use Rattle.device_core.specs.Device.{LiveStandsFor, steps_made}
use Rattle.device_live.{specs.{Life.{Life, play_lived}, Living.KeepsToCome}, proofs.Played.IsOnWay}
use Rattle.device_live.proofs.playing.play_and_print.Given as goal

-- no fault was counted, and the device is on its way
abbrev pub invariant-loop-playback : goal.invariant-loop-playback
invariant-loop-playback g l = record {
  quiet : g.W.Sink.faults l.sink ≡ g.W.Sink.faults l.fn.sink;
  way : (start : Start) (life : Life)
      → LiveStandsFor g.D.Digest32.hash g.G.TraceFlag.flag l.fn.live start (play_lived life)
      → KeepsToCome l.to_come.events life
      → life.steps ≤ l.steps
      → IsOnWay g.D.Digest32.hash g.G.TraceFlag.flag g.W.Sink.stands l.fn.sink l.sink l.live
      l.playback start life l.steps;
}

abbrev pub decreases-loop-playback : goal.decreases-loop-playback
decreases-loop-playback g l = l.steps - steps_made l.live
