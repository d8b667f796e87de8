use Rattle.device_core.proofs.Outside.{is_step}
use Rattle.device_core.proofs.device.Device.step.Goals as goal

pub returns : goal.returns
returns g c =
    rw (← c.STAGE.ensures)
    (is_step c.deref_mut.ensures.value c.at.ensures.stage c.at.ensures.machine c.at.ensures.steps
    c.step-stage.ensures.stands c.step-stage.ensures.kept)
