use Rattle.request_freshness.proofs.Grows.{kept_counter-never_falls}
use Rattle.request_freshness.proofs.law.kept_counter_never_falls.Goals as goal

pub returns : goal.returns
returns c = kept_counter-never_falls
