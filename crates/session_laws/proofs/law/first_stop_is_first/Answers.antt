use Rattle.session_laws.proofs.FirstStops.{stops-first}
use Rattle.session_laws.proofs.law.first_stop_is_first.Goals as goal

pub returns : goal.returns
returns c = stops-first
