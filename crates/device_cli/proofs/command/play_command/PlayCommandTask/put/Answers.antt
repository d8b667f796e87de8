use Rattle.std.proofs.Common.{ap, sym, refl}
use Rattle.mem_map.specs.Image.{byte_in}
use Rattle.device_cli.{specs.{Play.play_with, Row.{DevicePlay, ending_of}}, proofs.Unanswered.fails}
use Rattle.device_cli.proofs.command.play_command.PlayCommandTask.put.Goals as goal

pub returns-in_err-tell-clause-puts : goal.returns-in_err-tell-clause-puts
returns-in_err-tell-clause-puts g c =
    let values = c.args.values.now in
    let device_play : DevicePlay =
    play_with c.args.self.now.arguments.steps values.key (byte_in values.image) values.script in
    fails g.W.Sink.stands g.W.Sink.faults c.args.sink.now c.tell.new.sink
    (g.T.Telling.outcome device_play) c.from_residual.result
    c.from_residual.ensures.1
    (c.in_err-tell.ensures.puts device_play c.requires refl).prefix
    c.in_err-tell.ensures.counts.failed

pub returns-clause-puts : goal.returns-clause-puts
returns-clause-puts g c =
    let values = c.args.values.now in
    let device_play : DevicePlay =
    play_with c.args.self.now.arguments.steps values.key (byte_in values.image) values.script in (
      ap ending_of (sym (g.met.T.Telling.accepted device_play)),
      (c.in_ok-tell.ensures.puts device_play c.requires refl).all,
    )

pub returns-clause-whole : goal.returns-clause-whole
returns-clause-whole g c =
    let values = c.args.values.now in
    let device_play : DevicePlay =
    play_with c.args.self.now.arguments.steps values.key (byte_in values.image) values.script in
    c.in_ok-tell.ensures.whole device_play c.requires refl
