use Rattle.verifier_desk.proofs.law.key_is_under_one_name.Goals as goal
use Rattle.verifier_desk.proofs.KeyOwners.{key_is_under_one_name}

pub returns : goal.returns
returns c = key_is_under_one_name
