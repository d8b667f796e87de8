use Rattle.std.proofs.Common.{◌≤◌, ◌-◌, ◌∷◌, []}
use Rattle.device_trace.specs.{Trace.Play, Start.Start}
use Rattle.device_core.specs.{Machine.PlaysAt, Quiet.{AreOpen, AreQuiet}, Silence.with_idle}
use Rattle.device_core.proofs.machine.Machine.make_row.Given as goal

-- at most so many steps; the machine stands for the play with the steps so far on it, which are
-- quiet, and behind each of them a row may go on
abbrev pub invariant-loop-made : goal.invariant-loop-made
invariant-loop-made g l =
    (l.made ≤ l.fn.steps)
    × ((start : Start) (play : Play)
    → PlaysAt g.D.Digest32.hash g.G.TraceFlag.flag l.fn.stage l.initial.self start play
    → PlaysAt g.D.Digest32.hash g.G.TraceFlag.flag l.stage l.self start (with_idle l.made play)
    × AreQuiet (g.Q.Quiet.quiet l.fn.quiet) start l.made play
    × AreOpen (g.Q.Quiet.quiet l.fn.quiet) start l.made ([] ∷ play))

abbrev pub decreases-loop-made : goal.decreases-loop-made
decreases-loop-made g l = l.fn.steps - l.made
