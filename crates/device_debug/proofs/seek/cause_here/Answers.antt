use Rattle.std.proofs.Common.{sym}
use Rattle.device_debug.{specs.Going.step_in, proofs.Back.cause-known}
use Rattle.device_debug.proofs.seek.cause_here.Goals as goal

pub returns : goal.returns
returns g c = λ run walks tells.
    rw (c.stop_of.ensures, c.is_step-is_step.ensures, c.stretch-stretch.ensures)
    (cause-known run c.args.stops.now (step_in c.args.seek.now) _ c.args.walk.now.stretch
    c.is_broken.result c.pc.result tells (sym (c.if-not-is_at_boundary.ensures run walks))
    (c.is_broken.ensures run walks) (c.pc.ensures run walks))
