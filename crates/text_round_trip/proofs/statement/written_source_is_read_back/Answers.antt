use Rattle.text_round_trip.proofs.WrittenSource.{source-read_back}
use Rattle.text_round_trip.proofs.statement.written_source_is_read_back.Goals as goal

pub returns : goal.returns
returns c = source-read_back
