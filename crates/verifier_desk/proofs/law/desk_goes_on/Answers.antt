use Rattle.verifier_desk.proofs.law.desk_goes_on.Goals as goal
use Rattle.verifier_desk.proofs.GoneOn.{desk_goes_on}

pub returns : goal.returns
returns c = desk_goes_on
