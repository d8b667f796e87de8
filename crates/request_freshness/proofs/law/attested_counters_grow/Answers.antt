use Rattle.request_freshness.proofs.Grows.{attested_counters-grow}
use Rattle.request_freshness.proofs.law.attested_counters_grow.Goals as goal

pub returns : goal.returns
returns c = attested_counters-grow
