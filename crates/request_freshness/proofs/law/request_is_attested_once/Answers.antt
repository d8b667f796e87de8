use Rattle.request_freshness.proofs.Grows.{request-attested_once}
use Rattle.request_freshness.proofs.law.request_is_attested_once.Goals as goal

pub returns : goal.returns
returns c = request-attested_once
