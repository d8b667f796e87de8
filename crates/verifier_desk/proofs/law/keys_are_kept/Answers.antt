use Rattle.verifier_desk.proofs.law.keys_are_kept.Goals as goal
use Rattle.verifier_desk.proofs.KeyOwners.{keys_are_kept}

pub returns : goal.returns
returns c = keys_are_kept
