use Rattle.text_round_trip.proofs.WrittenSource.{read-back}
use Rattle.text_round_trip.proofs.statement.written_statement_is_read_back.Goals as goal

pub returns : goal.returns
returns c = read-back
