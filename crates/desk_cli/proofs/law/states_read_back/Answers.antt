use Rattle.desk_cli.proofs.StateLines.{read_back}
use Rattle.desk_cli.proofs.law.states_read_back.Goals as goal

pub returns : goal.returns
returns c = read_back
