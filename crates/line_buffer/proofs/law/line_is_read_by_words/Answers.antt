use Rattle.line_buffer.proofs.PieceLines.{first_line}
use Rattle.line_buffer.proofs.law.line_is_read_by_words.Goals as goal

pub returns : goal.returns
returns c = first_line
