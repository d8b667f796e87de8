use Rattle.std.proofs.Common.{◌≡◌, ◌∙◌, true, ap, sym, subst, arith}
use Rattle.device_trace.specs.Trace.{play_of}
use Rattle.device_core.specs.{Device.{DeviceStandsFor, steps_made, steps_of}, declared.{live.Live.TheVariants.Running, stage.Stage.TheVariants.Running as RunningStage}}
use Rattle.device_play.specs.Midway.{IsMidway}
use Rattle.debug_session.specs.Place.{sight_at}
use Rattle.debug_walk.specs.Walk.{place_of, second_flag}
use Rattle.debug_walk.proofs.walk.Walk.try_clone.Goals as goal

pub returns-in_ok-try_clone-in-Running-clause-copy :
    goal.returns-in_ok-try_clone-in-Running-clause-copy
returns-in_ok-try_clone-in-Running-clause-copy g c = λ run walks.
    let hash = g.D.Digest32.hash in
    let device = c.in-Running.device in
    let made = c.in_ok-try_clone-in-Running in
    let same : steps_of made.field-0 ≡ steps_of device = made.ensures.steps in
    let midway =
    subst
    (λ live. IsMidway hash second_flag run.start run.events_at live c.args.self.now.playback)
    c.in-Running.is walks in
    let there : IsMidway hash second_flag run.start run.events_at (Running made.field-0)
    c.args.self.now.playback =
    record {
      stands = subst
          (λ count. DeviceStandsFor hash second_flag RunningStage made.field-0 run.start
          (play_of run.events_at count))
          (sym same)
          (made.ensures.stands run.start (play_of run.events_at (steps_of device)) midway.stands);
      left = λ later from. midway.left later (omega (arith, from, same));
    } in
    let here : place_of c.args.self.now ≡ place_of c.at.result =
    ap (λ live. steps_made live) c.in-Running.is
    ∙ sym same
    ∙ sym (ap (λ live. steps_made live) c.at.ensures.live) in
    record {
      walks = rw (c.at.ensures.live, c.at.ensures.playback) there;
      settled = subst (λ at. (sight_at run at).boundary ≡ true) here
          (sym (c.is_at_boundary.ensures run walks) ∙ c.if-is_at_boundary.true);
    }
