use Rattle.std.proofs.Common.{◌∙◌}
use Rattle.device_core.proofs.Outside.{is_played_on}
use Rattle.device_core.proofs.live.Live.make_row.Goals as goal

pub returns : goal.returns
returns g c =
    let played = c.make_row-stage.ensures in
    is_played_on (c.deref_mut.ensures.value ∙ c.into_machine-machine.ensures) c.at.ensures.stage
    c.at.ensures.machine
    (rw c.steps-made.ensures.made at c.at.ensures.steps) played.few played.some
    (rw c.stage-stage.ensures at played.stands) (rw c.stage-stage.ensures at played.row)
