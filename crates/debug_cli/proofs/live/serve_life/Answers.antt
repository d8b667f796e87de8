use Rattle.std.proofs.Common.{inr, refl}
use Rattle.debug_cli.proofs.live.serve_life.Goals as goal

pub returns-in_default-clause-served : goal.returns-in_default-clause-served
returns-in_default-clause-served g c = inr (refl, refl)

pub returns-in_default-new-clause-served : goal.returns-in_default-new-clause-served
returns-in_default-new-clause-served g c = inr (refl, refl)
