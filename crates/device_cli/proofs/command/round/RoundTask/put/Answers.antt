use Rattle.std.proofs.Common.{arith}
use Rattle.mem_map.specs.Image.{byte_in}
use Rattle.play_script.specs.Script.{events_of}
use Rattle.report_verifier.specs.Judge.{Judge, judge_with}
use Rattle.device_play.proofs.WatchedPlay.{length-play_of}
use Rattle.device_cli.{specs.{JudgedPlay.judge_account, Play.play_with, Round.judged_outcome, RoundText.{reports_in, unanswered_in}, Row.{DevicePlay, start_in}, Verdicts.verdicts}, proofs.{Tallies.verdicts-few, Told.{made-text, stopped-puts, told-round}, Unanswered.{end-failed, ended, stopped-before}}}
use Rattle.device_cli.proofs.command.round.RoundTask.put.Goals as goal

pub end_verdicts-requires : goal.end_verdicts-requires
end_verdicts-requires g c =
    let values = c.args.values.now in
    let self = c.args.self.now in
    let judge : Judge = judge_with values.play.key (byte_in values.play.image) values.policy in
    let device_play : DevicePlay =
    play_with self.steps values.play.key (byte_in values.play.image) values.play.script in
    let watched = c.in_ok-tally.ensures.watched (start_in device_play) c.requires in
    omega (
      arith,
      (verdicts-few judge (start_in device_play) device_play.play c.in_ok-tally.tally
          watched.counted).1,
      length-play_of (events_of values.play.script) self.steps,
      self.few,
    )

pub returns-in_err-tally-clause-puts : goal.returns-in_err-tally-clause-puts
returns-in_err-tally-clause-puts g c =
    let values = c.args.values.now in
    let self = c.args.self.now in
    let judge : Judge = judge_with values.play.key (byte_in values.play.image) values.policy in
    let device_play : DevicePlay =
    play_with self.steps values.play.key (byte_in values.play.image) values.play.script in
    stopped-before g.W.Sink.stands g.W.Sink.faults c.args.sink.now c.play_before.new.sink
    (judged_outcome judge device_play)
    (unanswered_in self.all judge (start_in device_play) device_play.play)
    c.in_err-tally.field-0.0 c.from_residual.result c.from_residual.ensures.1
    (stopped-puts g.W.Sink.stands g.W.Sink.faults (judge_account judge) c.args.sink.now
    c.play_before.new.sink (judged_outcome judge device_play) device_play
    c.in_err-tally.field-0.0 c.from_residual.result
    c.from_residual.ensures.1 (told-round judge device_play)
    (c.in_err-tally.ensures.watched (start_in device_play) c.requires)
    c.in_err-tally.ensures.counts)

pub returns-in_err-end_verdicts-clause-puts : goal.returns-in_err-end_verdicts-clause-puts
returns-in_err-end_verdicts-clause-puts g c =
    let values = c.args.values.now in
    let self = c.args.self.now in
    let judge : Judge = judge_with values.play.key (byte_in values.play.image) values.policy in
    let device_play : DevicePlay =
    play_with self.steps values.play.key (byte_in values.play.image) values.play.script in
    let start = start_in device_play in
    let watched = c.in_ok-tally.ensures.watched start c.requires in
    end-failed g.W.Sink.stands g.W.Sink.faults c.args.sink.now c.play_before.new.sink
    c.end_verdicts.new.sink (judged_outcome judge device_play)
    (unanswered_in self.all judge start device_play.play)
    c.from_residual-in_err-end_verdicts.result c.from_residual-in_err-end_verdicts.ensures.1
    (made-text g.W.Sink.stands (judge_account judge) c.args.sink.now c.play_before.new.sink
    (judged_outcome judge device_play) device_play
    (c.in_ok-tally.field-0-0, c.in_ok-tally.tally) (told-round judge device_play) watched)
    c.in_ok-tally.ensures.counts.quiet
    (c.in_err-end_verdicts.ensures.puts (verdicts judge (reports_in start device_play.play))
    watched.counted).prefix
    c.in_err-end_verdicts.ensures.counts.failed

pub returns-clause-puts : goal.returns-clause-puts
returns-clause-puts g c =
    let values = c.args.values.now in
    let self = c.args.self.now in
    let judge : Judge = judge_with values.play.key (byte_in values.play.image) values.policy in
    let device_play : DevicePlay =
    play_with self.steps values.play.key (byte_in values.play.image) values.play.script in
    let start = start_in device_play in
    let decisions = verdicts judge (reports_in start device_play.play) in
    let watched = c.in_ok-tally.ensures.watched start c.requires in
    ended g.W.Sink.stands g.W.Sink.faults c.args.sink.now c.play_before.new.sink
    c.end_verdicts.new.sink (judged_outcome judge device_play)
    (unanswered_in self.all judge start device_play.play) _
    (c.in_ok-end_verdicts.ensures.ending decisions watched.counted)
    (made-text g.W.Sink.stands (judge_account judge) c.args.sink.now c.play_before.new.sink
    (judged_outcome judge device_play) device_play
    (c.in_ok-tally.field-0-0, c.in_ok-tally.tally) (told-round judge device_play) watched)
    (c.in_ok-end_verdicts.ensures.puts decisions watched.counted).all
