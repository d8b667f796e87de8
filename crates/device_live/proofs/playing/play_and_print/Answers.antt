use Rattle.std.proofs.Common.{◌≡◌, ◌∙◌, ◌-◌, ℕ, suc, refl, sym, arith}
use Rattle.outside_edge.specs.declared.sink.Failed.{Failed}
use Rattle.device_trace.specs.Trace.{play_of}
use Rattle.device_core.specs.Device.{steps_made}
use Rattle.device_play.proofs.WatchedPlay.{length-play_of}
use Rattle.device_live.{specs.Life.events_in, proofs.Played.{begins, ends, fails, goes-on, shown-device, stops}}
use Rattle.device_live.proofs.playing.play_and_print.Goals as goal

pub loop-playback-init : goal.loop-playback-init
loop-playback-init g c = record {
  quiet = refl;
  way = λ start life stood keeps before.
      begins g.D.Digest32.hash g.G.TraceFlag.flag g.W.Sink.stands start life c.args.steps
      c.args.sink.now c.args.live c.playback-playback.result stood
      (λ step after. c.playback-playback.ensures step ∙ keeps step after) before;
}

pub loop-playback-smaller : goal.loop-playback-smaller
loop-playback-smaller g c =
    omega (arith, c.play_to_shown-live.ensures.made, c.play_to_shown-live.ensures.within)

pub loop-playback-preserved : goal.loop-playback-preserved
loop-playback-preserved g c = record {
  quiet = c.in_ok-print_last_step.ensures.counts.quiet ∙ c.loop-playback.invariant.quiet;
  way = λ start life stood keeps before.
      let way = c.loop-playback.invariant.way start life stood keeps before in
      let gone = c.play_to_shown-live.ensures.plays start (events_in life) way.midway in
      let more = c.play_to_shown-live.ensures.made in
      let step : ℕ = c.steps-in-loop-playback.result - 1 in
      let made : suc step ≡ steps_made c.play_to_shown-live.result =
      omega (arith, c.steps-in-loop-playback.ensures.made, more) in
      goes-on g.D.Digest32.hash g.G.TraceFlag.flag g.W.Sink.stands start life c.args.steps step way
      gone more made c.play_to_shown-live.ensures.within
      (c.in_ok-print_last_step.ensures.puts start (events_in life step)
      (play_of (events_in life) step)
      (shown-device g.D.Digest32.hash g.G.TraceFlag.flag g.W.Sink.stands start life c.args.steps
      step way gone more made c.play_to_shown-live.ensures.within)
      (sym (length-play_of (events_in life) step))).all;
}

pub returns-in_err-print_last_step-clause-plays : goal.returns-in_err-print_last_step-clause-plays
returns-in_err-print_last_step-clause-plays g c = λ start life stood keeps before.
    let way = c.loop-playback.invariant.way start life stood keeps before in
    let gone = c.play_to_shown-live.ensures.plays start (events_in life) way.midway in
    let more = c.play_to_shown-live.ensures.made in
    let step : ℕ = c.steps-in-loop-playback.result - 1 in
    let made : suc step ≡ steps_made c.play_to_shown-live.result =
    omega (arith, c.steps-in-loop-playback.ensures.made, more) in
    fails g.D.Digest32.hash g.G.TraceFlag.flag g.W.Sink.stands start life c.args.steps
    c.from_residual.result c.from_residual.ensures.0
    (stops g.D.Digest32.hash g.G.TraceFlag.flag g.W.Sink.stands start life c.args.steps step way
    gone more made c.play_to_shown-live.ensures.within
    (c.in_err-print_last_step.ensures.puts start (events_in life step)
    (play_of (events_in life) step)
    (shown-device g.D.Digest32.hash g.G.TraceFlag.flag g.W.Sink.stands start life c.args.steps
    step way gone more made c.play_to_shown-live.ensures.within)
    (sym (length-play_of (events_in life) step))).prefix)

pub returns-clause-plays : goal.returns-clause-plays
returns-clause-plays g c = λ start life stood keeps before.
    ends g.D.Digest32.hash g.G.TraceFlag.flag g.W.Sink.stands start life c.args.steps Failed
    c.loop-playback.live c.loop-playback.playback
    (c.loop-playback.invariant.way start life stood keeps before)
    (omega (arith, c.steps.ensures.made, c.loop-playback-test.false))
