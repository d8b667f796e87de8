use Rattle.debug_walk.proofs.Views.{boundary-at}
use Rattle.debug_walk.proofs.walk.Walk.is_at_boundary.Goals as goal

pub returns : goal.returns
returns g c = λ run walks. boundary-at run walks c.is_at_boundary.result c.is_at_boundary.ensures
