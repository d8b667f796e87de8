use Rattle.session_laws.proofs.EarlyEnds.{tells-between}
use Rattle.session_laws.proofs.law.told_are_the_lines_between.Goals as goal

pub returns : goal.returns
returns c = tells-between
