use Rattle.trace_files.proofs.Right.{lines_clean}
use Rattle.trace_files.proofs.play_law.trace_is_clean.Goals as goal

pub returns : goal.returns
returns c = lines_clean
