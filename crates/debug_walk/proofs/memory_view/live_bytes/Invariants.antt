use Rattle.std.proofs.Common.{◌≡◌, ◌-◌, ◌++◌, ℕ, length}
use Rattle.device_core.specs.Device.{LiveStandsFor}
use Rattle.debug_session.specs.{Place.{Run, play_to, sight_at}, Shown.bytes_shown}
use Rattle.debug_walk.proofs.memory_view.live_bytes.Given as goal

abbrev pub invariant-loop-at : goal.invariant-loop-at
invariant-loop-at g l = record {
  size : length l.bytes.items ≡ l.at - l.first;
  bytes : (run : Run) (place : ℕ)
      → LiveStandsFor g.D.Digest32.hash g.G.TraceFlag.flag l.live run.start (play_to run place)
      → l.bytes.items ++ bytes_shown (sight_at run place) l.at (l.count - (l.at - l.first))
      ≡ bytes_shown (sight_at run place) l.first l.count;
}
