use Rattle.device_debug.proofs.Found.{looked-again, some-came}
use Rattle.device_debug.proofs.look.Look.look.Goals as goal

pub returns-then-place-next : goal.returns-then-place-next
returns-then-place-next g c = λ before came.
    looked-again _ _ _ _ c.have_come-self.ensures (some-came _ _ _ came)
