use Rattle.session_laws.proofs.FirstStops.{stops-last}
use Rattle.session_laws.proofs.law.last_stop_is_last.Goals as goal

pub returns : goal.returns
returns c = stops-last
