use Rattle.trace_files.proofs.SameText.{same_trace_lines}
use Rattle.trace_files.proofs.play_law.second_key_gives_same_lines.Goals as goal

pub returns : goal.returns
returns c = same_trace_lines
