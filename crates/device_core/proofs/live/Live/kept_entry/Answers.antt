use Rattle.device_core.proofs.Outside.{live-kept}
use Rattle.device_core.proofs.live.Live.kept_entry.Goals as goal

pub returns-in-Some-clause-last : goal.returns-in-Some-clause-last
returns-in-Some-clause-last g c = λ start play stands.
    live-kept (rw c.machine.ensures at c.in-Some.is) stands
