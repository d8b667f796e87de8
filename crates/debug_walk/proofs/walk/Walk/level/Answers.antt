use Rattle.debug_walk.proofs.Views.{level-at}
use Rattle.debug_walk.proofs.walk.Walk.level.Goals as goal

pub returns : goal.returns
returns g c = λ run walks. level-at run walks c.level.result c.level.ensures
