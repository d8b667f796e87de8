use Rattle.std.proofs.{Common.{◌∙◌, Some, ap}, lemmas.Bool.eqb-true}
use Rattle.device_core.proofs.monitors.was_at.Goals as goal

pub returns-in-Some : goal.returns-in-Some
returns-in-Some c = λ same. c.in-Some.is ∙ ap Some (eqb-true _ _ same)
