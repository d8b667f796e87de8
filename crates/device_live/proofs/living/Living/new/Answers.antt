use Rattle.std.proofs.Common.{ap, refl}
use Rattle.play_script.specs.Grammar.{ScriptSoFar}
use Rattle.device_core.specs.declared.live.Live.TheVariants.{Held}
use Rattle.device_live.proofs.living.Living.new.Goals as goal

pub returns-clause-lives : goal.returns-clause-lives
returns-clause-lives g c = λ start stands.
    record {
      live = Held c.args.device;
      there = refl;
      stands = stands;
      to_come = λ step after. rw c.new.ensures refl;
      latest = refl;
      greatest = ap (λ (script : ScriptSoFar). script.greatest) c.new.ensures;
    }
