use Rattle.source_server.proofs.law.line_is_held_whole.Goals as goal
use Rattle.source_server.proofs.LineLemmas.{held_line}

pub returns : goal.returns
returns c = held_line
