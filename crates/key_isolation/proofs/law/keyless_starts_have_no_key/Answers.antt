use Rattle.key_isolation.proofs.TwoKeys.{keyless-same}
use Rattle.key_isolation.proofs.law.keyless_starts_have_no_key.Goals as goal

pub returns : goal.returns
returns c = keyless-same
