use Rattle.session_laws.proofs.StepsBack.{taken-back}
use Rattle.session_laws.proofs.law.step_is_taken_back.Goals as goal

pub returns : goal.returns
returns c = taken-back
