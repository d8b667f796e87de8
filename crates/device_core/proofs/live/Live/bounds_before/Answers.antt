use Rattle.device_core.proofs.Outside.{live-bounds}
use Rattle.device_core.proofs.live.Live.bounds_before.Goals as goal

pub returns : goal.returns
returns g c = λ start play stands.
    live-bounds c.last.ensures stands
