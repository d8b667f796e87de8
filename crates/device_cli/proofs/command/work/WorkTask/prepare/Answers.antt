use Rattle.std.proofs.Common.{◌∙◌}
use Rattle.device_cli.{specs.Load.load_text, proofs.LoadText.{load_text-of, load_counts-fit, load-without_device, never-fails, told-summary}}
use Rattle.device_cli.proofs.command.work.WorkTask.prepare.Goals as goal

pub returns-in_err-device-clause-refused : goal.returns-in_err-device-clause-refused
returns-in_err-device-clause-refused g c =
    load-without_device g.P.Power.is_refused c.args.load.now c.from_residual.result
    c.in_err-device.ensures.refused

pub returns-clause-prepared : goal.returns-clause-prepared
returns-clause-prepared g c =
    let load = c.args.load.now in
    let finished = c.finish.ensures (load_text load.seed)
    (rw (← load_text-of load)
    (told-summary _ _ c.new-summary.result c.play_before.new.sink _ _ _ c.new-summary.ensures
    (c.in-Ok.ensures.watched _ c.in_ok-device.ensures.stands))) in
    record { counts = finished.0 ∙ load_counts-fit load.seed; digest = finished.1 }

pub unreachable-requires : goal.unreachable-requires
unreachable-requires g c =
    never-fails _ _ c.new-summary.result c.play_before.new.sink _ _ c.in-Err.field-0
    (c.in-Err.ensures.watched _ c.in_ok-device.ensures.stands) c.in-Err.ensures.counts
