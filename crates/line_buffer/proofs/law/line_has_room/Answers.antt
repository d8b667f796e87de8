use Rattle.line_buffer.proofs.PieceLines.{has_room}
use Rattle.line_buffer.proofs.law.line_has_room.Goals as goal

pub returns : goal.returns
returns c = has_room
