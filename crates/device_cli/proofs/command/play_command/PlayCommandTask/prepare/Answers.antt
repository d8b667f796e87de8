-- A device that gets no memory.
use Rattle.std.{proofs.Common.{◌≡◌, Some, Result, Ok, Err}, specs.{Prelude.IfErr, declared.alloc.AllocError.AllocError}}
use Rattle.device_types.specs.Address.{Bytes, Contents}
use Rattle.device_cli.specs.{Row.{IsWithoutDevice, DevicePlay, Outcome}, Play.play_with}
use Rattle.mem_map.specs.Image.{byte_in}
use Rattle.device_cli.proofs.command.play_command.PlayCommandTask.prepare.Goals as goal

-- it is the one that a text is put of
without-device : {V : Type 0} (is_refused : Bytes → Contents → Type 0) (outcome : Outcome)
    (device_play : DevicePlay) (result : Result V AllocError)
    → outcome.device_play ≡ Some device_play
    → IfErr result (λ error. is_refused device_play.key device_play.image)
    → IfErr result (λ error. IsWithoutDevice is_refused outcome)
without-device is_refused outcome device_play (Ok value) of_play refused = tt
without-device is_refused outcome device_play (Err error) of_play refused =
    (device_play, of_play, refused)

pub returns-clause-refused : goal.returns-clause-refused
returns-clause-refused g c =
    let values = c.args.values.now in
    let device_play : DevicePlay =
    play_with c.args.self.now.arguments.steps values.key (byte_in values.image) values.script in
    without-device g.P.Power.is_refused (g.T.Telling.outcome device_play) device_play
    c.power_on.result (g.met.T.Telling.of_play device_play) c.power_on.ensures.refused
