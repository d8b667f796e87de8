use Rattle.trace_files.proofs.SameText.{lines_keyless}
use Rattle.trace_files.proofs.play_law.lines_are_keyless.Goals as goal

pub returns : goal.returns
returns c = lines_keyless
