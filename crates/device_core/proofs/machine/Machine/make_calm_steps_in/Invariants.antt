use Rattle.std.proofs.Common.{◌≡◌, ◌≤◌, ◌-◌, None}
use Rattle.device_trace.specs.{Trace.{Play, logs_after}, Start.Start}
use Rattle.device_core.specs.{Calm.IsCalmRegion, Machine.PlaysAt, Quiet.{AreOpen, AreQuiet}, Silence.with_idle, declared.stage.Stage.TheVariants.Running}
use Rattle.device_core.proofs.machine.Machine.make_calm_steps_in.Given as goal

-- at most so many steps, none of which was kept; the machine stands for the play with the steps so
-- far on it, all of which are quiet, and those behind them are calm in the same region
abbrev pub invariant-loop-made : goal.invariant-loop-made
invariant-loop-made g l =
    (l.made ≤ l.fn.most)
    × (l.self.bus.last ≡ None)
    × ((start : Start) (play : Play)
    → PlaysAt g.D.Digest32.hash g.G.TraceFlag.flag Running l.initial.self start play
    → IsCalmRegion g.G.TraceFlag.flag l.fn.code start (logs_after start play)
    → PlaysAt g.D.Digest32.hash g.G.TraceFlag.flag Running l.self start (with_idle l.made play)
    × AreQuiet (g.Q.Quiet.quiet l.fn.quiet) start l.made play
    × AreOpen (g.Q.Quiet.quiet l.fn.quiet) start l.made play
    × IsCalmRegion g.G.TraceFlag.flag l.fn.code start (logs_after start (with_idle l.made play)))

abbrev pub decreases-loop-made : goal.decreases-loop-made
decreases-loop-made g l = l.fn.most - l.made
