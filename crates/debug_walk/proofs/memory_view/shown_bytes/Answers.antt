use Rattle.debug_walk.specs.Walk.{place_of}
use Rattle.debug_walk.proofs.memory_view.shown_bytes.Goals as goal

pub returns : goal.returns
returns g c = λ run stands.
    c.live_bytes.ensures run (place_of c.args.walk.now) (rw c.live.ensures stands.stands)
