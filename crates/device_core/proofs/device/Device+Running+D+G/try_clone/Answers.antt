use Rattle.std.proofs.Common.{subst, sym}
use Rattle.device_core.specs.{Machine.PlaysAt, declared.stage.Stage.TheVariants.Running}
use Rattle.device_core.proofs.device.Device+Running+D+G.try_clone.Goals as goal

pub returns-clause-stands : goal.returns-clause-stands
returns-clause-stands g c = λ start play stands.
    record {
      same = rw (c.of.ensures.machine, c.in_ok-new.ensures.ok)
          (c.in_ok-machine.ensures start play
          (subst
          (λ machine. PlaysAt g.D.Digest32.hash g.G.TraceFlag.flag Running machine start play)
          (sym c.deref.ensures) stands.same));
      same_steps = rw c.of.ensures.steps stands.same_steps;
    }
