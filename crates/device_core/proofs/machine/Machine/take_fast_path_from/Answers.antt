use Rattle.std.proofs.Common.{sym, subst}
use Rattle.device_core.specs.{Machine.{PlaysAt, PlaysOn}, declared.stage.Stage.Stage}
use Rattle.device_core.proofs.machine.Machine.take_fast_path_from.Goals as goal

pub returns-in-Running-clause-plays : goal.returns-in-Running-clause-plays
returns-in-Running-clause-plays g c =
    subst
    (λ (at : Stage).
    PlaysOn g.D.Digest32.hash g.G.TraceFlag.flag at c.args.self.now c.take_fast_path.result
    c.take_fast_path.new.self)
    (sym c.in-Running.is) c.take_fast_path.ensures.plays

pub returns-in-Running-clause-quietly : goal.returns-in-Running-clause-quietly
returns-in-Running-clause-quietly g c = λ start play stands.
    c.take_fast_path.ensures.quietly start play
    (subst
    (λ (at : Stage). PlaysAt g.D.Digest32.hash g.G.TraceFlag.flag at c.args.self.now start play)
    c.in-Running.is stands)
