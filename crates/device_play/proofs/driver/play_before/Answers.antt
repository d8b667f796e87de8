use Rattle.std.proofs.Common.{◌≡◌, ◌∙◌, ◌-◌, [], sym, arith}
use Rattle.device_trace.specs.Start.{Start}
use Rattle.play_script.specs.Script.{events_of}
use Rattle.device_core.specs.{Device.{HeldStandsFor, steps_made}, declared.live.Live.TheVariants.Held}
use Rattle.device_play.proofs.{WatchedPlay.{IsToSee, at-count, begin-failed, end-failed, gone-to-see, see-failed, seen-under_way, watched-all}, WriteCounts.{counts-passed, counts-write}, driver.play_before.{Given.Over, Goals.After-steps-in-loop-playback}}
use Rattle.device_play.proofs.driver.play_before.Goals as goal

-- what `see` is told: the device after the last step, and the tally and the sink before it
to-see :
    (g : Over) (c : After-steps-in-loop-playback g) (start : Start)
    → let hash = g.D.Digest32.hash in
    let flag = g.G.TraceFlag.flag in
    HeldStandsFor hash flag c.args.device start []
    → IsToSee hash flag g.W.Sink.stands
    (g.O.Watcher.account hash.digest_of c.args.watcher.now) start (events_of c.args.script.now)
    c.args.sink.now c.loop-playback.sink c.play_to_shown-live.result c.loop-playback.tally
    (c.steps-in-loop-playback.result - 1)
to-see g c start holds =
    let made = c.play_to_shown-live.ensures.made in
    let count = c.steps-in-loop-playback.ensures.made in
    let under_way = c.loop-playback.invariant.under_way start holds in
    gone-to-see (c.in_ok-tally.ensures.goes_on g.D.Digest32.hash.digest_of start)
    (omega (arith, made, count)) (omega (arith, made, count)) under_way
    (c.play_to_shown-live.ensures.plays start _ under_way.midway)

pub loop-playback-init : goal.loop-playback-init
loop-playback-init g c = record {
  within = omega (arith, c.requires.powered_on.1.same_steps);
  quiet = c.in_ok-tally.ensures.counts.quiet;
  under_way = λ start holds. record {
    midway = record {
      stands = at-count (Held c.args.device) (events_of c.args.script.now)
          (sym holds.same_steps) holds;
      left = λ later from. c.playback-playback.ensures later;
    };
    up_to = rw holds.same_steps (record {
      counted = c.in_ok-tally.ensures.tally g.D.Digest32.hash.digest_of start;
      took = (c.in_ok-tally.ensures.puts g.D.Digest32.hash.digest_of start).all;
    });
  };
}

pub see-requires-clause-shown : goal.see-requires-clause-shown
see-requires-clause-shown g c =
    let on = c.requires.powered_on in
    let to = to-see g (goal.at.see-requires-clause-shown g c).After-steps-in-loop-playback on.0 on.1
    in
    (_, _, _, to.shown)

pub loop-playback-smaller : goal.loop-playback-smaller
loop-playback-smaller g c =
    omega (arith, c.play_to_shown-live.ensures.made, c.play_to_shown-live.ensures.within)

pub loop-playback-preserved : goal.loop-playback-preserved
loop-playback-preserved g c = record {
  within = c.play_to_shown-live.ensures.within;
  quiet = c.in_ok-see.ensures.counts.quiet ∙ c.loop-playback.invariant.quiet;
  under_way = λ start holds.
      let to = to-see g (goal.at.loop-playback-preserved g c).After-steps-in-loop-playback start
      holds in
      seen-under_way (c.in_ok-tally.ensures.goes_on g.D.Digest32.hash.digest_of start) to
      (c.in_ok-see.ensures.seen start _ _ to.shown)
      (c.play_to_shown-live.ensures.plays start _
      (c.loop-playback.invariant.under_way start holds).midway).midway;
}

pub returns-in_err-tally-clause-watched : goal.returns-in_err-tally-clause-watched
returns-in_err-tally-clause-watched g c = λ start holds.
    let digest = g.D.Digest32.hash.digest_of in
    begin-failed (events_of c.args.script.now) c.args.steps c.from_residual.result
    (c.in_err-tally.ensures.goes_on digest start) c.from_residual.ensures.1
    (c.in_err-tally.ensures.puts digest start).prefix

pub returns-in_err-see-clause-watched : goal.returns-in_err-see-clause-watched
returns-in_err-see-clause-watched g c = λ start holds.
    let to = to-see g (goal.at.returns-in_err-see-clause-watched g c).After-steps-in-loop-playback
    start holds in
    see-failed c.from_residual-in_err-see.result
    (c.in_ok-tally.ensures.goes_on g.D.Digest32.hash.digest_of start)
    c.from_residual-in_err-see.ensures.1
    (omega (arith, to.made, c.play_to_shown-live.ensures.within)) to.up_to
    (c.in_err-see.ensures.seen start _ _ to.shown)

pub returns-in_err-see-clause-counts : goal.returns-in_err-see-clause-counts
returns-in_err-see-clause-counts g c =
    counts-passed g.W.Sink.faults c.args.sink.now c.loop-playback.sink c.see.new.sink
    c.in_err-see.field-0.0 c.from_residual-in_err-see.result c.from_residual-in_err-see.ensures.1
    c.loop-playback.invariant.quiet c.in_err-see.ensures.counts

pub returns-in_err-end-clause-watched : goal.returns-in_err-end-clause-watched
returns-in_err-end-clause-watched g c = λ start holds.
    let same : steps_made c.loop-playback.live ≡ c.args.steps =
    omega (arith, c.loop-playback.invariant.within, c.steps.ensures.made) in
    let under_way = c.loop-playback.invariant.under_way start holds in
    rw (← same)
    (end-failed c.loop-playback.sink c.from_residual-in_err-end.result
    c.from_residual-in_err-end.ensures.1
    under_way.up_to.took
    (c.in_err-end.ensures.puts start _ under_way.midway.stands under_way.up_to.counted).prefix)

pub returns-in_err-end-clause-counts : goal.returns-in_err-end-clause-counts
returns-in_err-end-clause-counts g c =
    counts-write g.W.Sink.faults c.args.sink.now c.loop-playback.sink c.end.new.sink
    c.from_residual-in_err-end.result c.from_residual-in_err-end.ensures.1
    c.loop-playback.invariant.quiet c.in_err-end.ensures.counts.failed
    c.in_err-end.ensures.counts.counted

pub returns-clause-watched : goal.returns-clause-watched
returns-clause-watched g c = λ start holds.
    let same : steps_made c.loop-playback.live ≡ c.args.steps =
    omega (arith, c.loop-playback.invariant.within, c.steps.ensures.made) in
    let under_way = c.loop-playback.invariant.under_way start holds in
    rw (← same)
    (watched-all c.loop-playback.sink under_way.midway.stands under_way.up_to.counted
    under_way.up_to.took
    (c.in_ok-end.ensures.puts start _ under_way.midway.stands under_way.up_to.counted).all)

pub returns-clause-counts : goal.returns-clause-counts
returns-clause-counts g c = record {
  failed = tt;
  quiet = c.in_ok-end.ensures.counts.quiet ∙ c.loop-playback.invariant.quiet;
  counted = omega (
    arith,
    c.in_ok-end.ensures.counts.quiet,
    c.loop-playback.invariant.quiet,
  );
}
