use Rattle.key_isolation.proofs.TwoKeys.{looks_alike}
use Rattle.key_isolation.proofs.law.second_key_changes_nothing.Goals as goal

pub returns : goal.returns
returns c = looks_alike
