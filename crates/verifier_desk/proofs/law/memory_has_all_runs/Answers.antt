use Rattle.verifier_desk.proofs.law.memory_has_all_runs.Goals as goal
use Rattle.verifier_desk.proofs.Remembered.{memory_has_all_runs}

pub returns : goal.returns
returns c = memory_has_all_runs
