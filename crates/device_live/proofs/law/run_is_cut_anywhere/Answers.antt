use Rattle.device_live.proofs.law.run_is_cut_anywhere.Goals as goal
use Rattle.device_live.proofs.Lives.{cut_anywhere}

pub returns : goal.returns
returns c = cut_anywhere
