use Rattle.source_server.proofs.law.plain_piece_lengthens_line.Goals as goal
use Rattle.source_server.proofs.LineLemmas.{plain_piece}

pub returns : goal.returns
returns c = plain_piece
