use Rattle.execution_flags.proofs.UnclearedStarts.{flag-iff}
use Rattle.execution_flags.proofs.law.flag_is_set_by_an_uncleared_start.Goals as goal

pub returns : goal.returns
returns g c = flag-iff g.met.C.Conditions.of_run
