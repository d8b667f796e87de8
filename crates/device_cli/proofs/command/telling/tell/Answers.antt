use Rattle.std.proofs.Common.{◌∙◌, Err, ap, arith}
use Rattle.play_script.specs.Script.{events_of}
use Rattle.device_play.proofs.WatchedPlay.{length-play_of}
use Rattle.device_cli.{specs.Row.start_in, proofs.{Told.{takes-no_memory, told-puts, told-whole}, command.telling.tell.Goals.{in-Ok, in-Err-Write}}}
use Rattle.device_cli.proofs.command.telling.tell.Goals as goal

pub unreachable-requires : goal.unreachable-requires
unreachable-requires g c =
    let powered = c.requires.powered_on in
    takes-no_memory (c.watcher.ensures.uncut g.D.Digest32.hash.digest_of powered.0 _)
    (c.in-Err-Memory.is ∙ ap Err c.in-Err-Memory.field-0-is)
    (c.play_before.ensures.watched powered.0 powered.1)

pub returns-clause-puts : goal.returns-clause-puts
returns-clause-puts g c = λ device_play stands same.
    let puts = told-puts device_play
    (c.watcher.ensures.told g.D.Digest32.hash.digest_of device_play) same
    (c.play_before.ensures.watched (start_in device_play) stands) in
    elim c.match-play_before.branch [
      | in-Ok w ↦ rw w.result-is (record { all = (rw w.in-Ok.is at puts).all; prefix = tt })
      | in-Err-Write w ↦
          rw w.result-is (record { all = tt; prefix = (rw w.in-Err-Write.is at puts).prefix })
    ]

pub returns-clause-whole : goal.returns-clause-whole
returns-clause-whole g c = λ device_play stands same.
    let told = c.watcher.ensures.told g.D.Digest32.hash.digest_of device_play in
    let watched = c.play_before.ensures.watched (start_in device_play) stands in
    elim c.match-play_before.branch [
      | in-Ok w ↦
          rw w.result-is (told-whole device_play told same
          (omega (
            arith,
            length-play_of (events_of c.args.script.now) c.args.steps,
            c.requires.few,
          ))
          (rw w.in-Ok.is at watched))
      | in-Err-Write w ↦ rw w.result-is tt
    ]
