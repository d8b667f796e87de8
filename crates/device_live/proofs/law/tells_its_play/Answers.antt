use Rattle.device_live.proofs.law.tells_its_play.Goals as goal
use Rattle.device_live.proofs.Lives.{tells_play}

pub returns : goal.returns
returns c = tells_play
