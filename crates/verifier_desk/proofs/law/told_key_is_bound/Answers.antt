use Rattle.verifier_desk.proofs.law.told_key_is_bound.Goals as goal
use Rattle.verifier_desk.proofs.KeyOwners.{told_key_is_bound}

pub returns : goal.returns
returns c = told_key_is_bound
