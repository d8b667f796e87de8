use Rattle.request_freshness.proofs.Moves.{kept_counter-moves}
use Rattle.request_freshness.proofs.law.kept_counter_moves_for_right_requests.Goals as goal

pub returns : goal.returns
returns c = kept_counter-moves
