use Rattle.std.proofs.Common.{◌≡◌, ◌≤◌, ◌-◌, []}
use Rattle.play_script.specs.Script.{events_of}
use Rattle.device_trace.specs.Start.{Start}
use Rattle.device_core.specs.Device.{HeldStandsFor, steps_made}
use Rattle.device_play.proofs.WatchedPlay.{IsUnderWay}
use Rattle.device_play.proofs.driver.play_before.Given as goal

-- no fault was counted, the device is in the middle of the play, and the watcher is up to it
abbrev pub invariant-loop-playback : goal.invariant-loop-playback
invariant-loop-playback g l =
    let hash = g.D.Digest32.hash in
    let flag = g.G.TraceFlag.flag in
    record {
      within : steps_made l.live ≤ l.steps;
      quiet : g.W.Sink.faults l.sink ≡ g.W.Sink.faults l.fn.sink;
      under_way : (start : Start)
          → HeldStandsFor hash flag l.fn.device start []
          → IsUnderWay hash flag g.W.Sink.stands (g.O.Watcher.account hash.digest_of l.watcher)
          start (events_of l.script) l.fn.sink l.sink l.live l.playback l.tally;
    }

abbrev pub decreases-loop-playback : goal.decreases-loop-playback
decreases-loop-playback g l = l.steps - steps_made l.live
