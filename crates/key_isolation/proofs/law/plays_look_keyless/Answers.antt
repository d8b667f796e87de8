use Rattle.key_isolation.proofs.TwoKeys.{looks_keyless}
use Rattle.key_isolation.proofs.law.plays_look_keyless.Goals as goal

pub returns : goal.returns
returns c = looks_keyless
