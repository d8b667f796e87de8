use Rattle.std.proofs.Common.{◌≡◌, ◌∙◌, ℕ, Option, None, Some, refl, arith}
use Rattle.debug_session.specs.Place.{Run}
use Rattle.debug_link.{specs.Conversation.{HaveCome, count_of}, proofs.Interrupts.none-came}
use Rattle.debug_walk.specs.{Copies.TrackStandsFor, Walk.{Walks, place_of}}
use Rattle.device_debug.{specs.Going.{StandsAt, step_in}, proofs.{Found.{found-one, some-came}, Going.{HasPassed, before-fails, before-stops, cause-is, end-fails, goes-on, going-ends, going-first, going-interrupted, passes-on, stops-there, tell-failed}, forwards.go_forwards.{Given.Over, Goals.{After-leave, After-stop_before}}}}
use Rattle.device_debug.proofs.forwards.go_forwards.Goals as goal

-- with a copy of the walk more
with-copy : (g : Over) (c : After-leave g) (run : Run)
    → TrackStandsFor g.D.Digest32.hash c.args.track.now run
    → Walks g.D.Digest32.hash run c.args.walk
    → TrackStandsFor g.D.Digest32.hash
    (record c.loop-passing.track { copies = c.leave.new.self }) run
with-copy g c run track walks =
    let now = c.loop-passing.invariant.stays run track walks in
    record { same_run = now.0.same_run; copies = c.leave.ensures run now.0.copies now.1 }

-- a row that was gone over, before what its last step tells
record IsRow (g : Over) (c : After-stop_before g) (run : Run) : Type 0 where
  walks : Walks g.D.Digest32.hash run c.play_row-walk.result
  left : TrackStandsFor g.D.Digest32.hash
      (record c.loop-passing.track { copies = c.leave.new.self }) run
  passed : HasPassed g.D.Digest32.hash g.W.Sink run c.args.stops.now (step_in c.args.seek.now)
      c.place-from.result c.args.packets.now c.loop-passing.packets c.play_row-walk.result
      c.loop-passing.waiting

row-of : (g : Over) (c : After-stop_before g) (run : Run)
    → TrackStandsFor g.D.Digest32.hash c.args.track.now run
    → StandsAt g.D.Digest32.hash run c.place-from.result c.args.walk → IsRow g c run
row-of g c run track here =
    let at = c.loop-passing in
    let now = at.invariant.stays run track here.walks in
    let row = c.play_row-walk.ensures in
    let asked = c.new-passing.ensures in
    record {
      walks = row.walks run now.1;
      left = record {
        same_run = now.0.same_run;
        copies = c.leave.ensures run now.0.copies now.1;
      };
      passed = passes-on c.row_end-end.result (at.invariant.going run track here)
          (omega (arith, c.loop-passing-test.true, c.place.ensures)) c.row_end-end.ensures.waits
          c.row_end-end.ensures.within (row.walks run now.1) row.within (row.silent run now.1)
          ((rw (asked.stops, asked.asleep, c.is_for_step.ensures) at row.tells) run now.1)
          ((rw (asked.stops, asked.asleep, c.is_for_step.ensures) at row.passed) run now.1);
    }

-- behind it no interrupt ends the way
uninterrupted : (g : Over) (c : After-stop_before g) (Holds : Run → ℕ → Option ℕ → Type 0)
    → ((run : Run) → IsRow g c run → Holds run c.place-from.result None)
    → (run : Run) (place : ℕ) → TrackStandsFor g.D.Digest32.hash c.args.track.now run
    → StandsAt g.D.Digest32.hash run place c.args.walk
    → (interrupt : Option ℕ)
    × HaveCome (count_of interrupt) (g.I.Interrupts.left c.args.interrupts.now)
    (g.I.Interrupts.left c.ends_way.new.interrupts)
    × Holds run place interrupt
uninterrupted g c Holds goes run place track stands =
    let same : c.place-from.result ≡ place = c.place-from.ensures ∙ stands.place_is in (
      None,
      some-came _ _ _ (c.ends_way.ensures.came _ c.loop-passing.invariant.came),
      rw same at (goes run (row-of g c run track (rw same stands))),
    )

pub loop-passing-init : goal.loop-passing-init
loop-passing-init g c =
    record {
      from_is = c.place-from.ensures;
      rises = omega arith;
      same_run = refl;
      stays = λ run track walks. (track, walks);
      going = λ run track stands. rw c.new-waiting.ensures (going-first g.D.Digest32.hash g.W.Sink
          run c.args.stops.now (step_in c.args.seek.now) c.place-from.result c.args.packets.now
          c.args.walk stands);
      came = rw c.new-look.ensures (none-came _);
    }

pub returns-then-ends_way-clause-goes_on : goal.returns-then-ends_way-clause-goes_on
returns-then-ends_way-clause-goes_on g c = λ run place track stands.
    let at = c.loop-passing in
    let same : c.place-from.result ≡ place = c.place-from.ensures ∙ stands.place_is in
    let going = at.invariant.going run track (rw same stands) in (
      Some (place_of at.walk),
      found-one _ _ _ (c.ends_way.ensures.found c.if-ends_way.true)
          (c.ends_way.ensures.came _ at.invariant.came),
      rw same at (going-interrupted going
          (c.ends_way.ensures.boundary run going.walks c.if-ends_way.true)),
    )

pub returns-then-ends_way-clause-stays : goal.returns-then-ends_way-clause-stays
returns-then-ends_way-clause-stays g c = λ run track walks.
    (c.loop-passing.invariant.stays run track walks).0

pub returns-in_err-stopped-clause-goes_on : goal.returns-in_err-stopped-clause-goes_on
returns-in_err-stopped-clause-goes_on g c =
    uninterrupted g (goal.at.returns-in_err-stopped-clause-goes_on g c).After-stop_before _
    (λ run row. before-fails row.passed _ _ _ refl c.from_residual.ensures.0
    (c.in_err-stopped.ensures.stops run row.left row.walks))

pub returns-in_err-stopped-clause-stays : goal.returns-in_err-stopped-clause-stays
returns-in_err-stopped-clause-stays g c =
    with-copy g (goal.at.returns-in_err-stopped-clause-stays g c).After-leave

pub returns-in-Some-clause-goes_on : goal.returns-in-Some-clause-goes_on
returns-in-Some-clause-goes_on g c =
    uninterrupted g (goal.at.returns-in-Some-clause-goes_on g c).After-stop_before _
    (λ run row. before-stops row.passed _ c.in-Some.stopped refl
    (rw c.in-Some.is at (c.in_ok-stopped.ensures.stops run row.left row.walks)))

pub returns-in-Some-clause-stays : goal.returns-in-Some-clause-stays
returns-in-Some-clause-stays g c =
    with-copy g (goal.at.returns-in-Some-clause-stays g c).After-leave

pub returns-in_err-tell_step-clause-goes_on : goal.returns-in_err-tell_step-clause-goes_on
returns-in_err-tell_step-clause-goes_on g c =
    uninterrupted g (goal.at.returns-in_err-tell_step-clause-goes_on g c).After-stop_before _
    (λ run row. tell-failed row.passed
    (rw c.in_default.is at (c.in_ok-stopped.ensures.stops run row.left row.walks)) _
    c.from_residual-in_err-tell_step.ensures.0 (c.in_err-tell_step.ensures.tells run row.walks))

pub returns-in_err-tell_step-clause-stays : goal.returns-in_err-tell_step-clause-stays
returns-in_err-tell_step-clause-stays g c =
    with-copy g (goal.at.returns-in_err-tell_step-clause-stays g c).After-leave

pub returns-in-Some-cause_here-clause-goes_on : goal.returns-in-Some-cause_here-clause-goes_on
returns-in-Some-cause_here-clause-goes_on g c =
    uninterrupted g (goal.at.returns-in-Some-cause_here-clause-goes_on g c).After-stop_before _
    (λ run row. stops-there row.passed
    (rw c.in_default.is at (c.in_ok-stopped.ensures.stops run row.left row.walks))
    (c.in_ok-tell_step.ensures.tells run row.walks)
    (cause-is row.passed (c.in-Some-cause_here.ensures run row.walks row.passed.tells)))

pub returns-in-Some-cause_here-clause-stays : goal.returns-in-Some-cause_here-clause-stays
returns-in-Some-cause_here-clause-stays g c =
    with-copy g (goal.at.returns-in-Some-cause_here-clause-stays g c).After-leave

pub loop-passing-preserved : goal.loop-passing-preserved
loop-passing-preserved g c =
    let at = c.loop-passing in
    record {
      from_is = c.place-from.ensures;
      rises = omega (
        arith,
        at.invariant.rises,
        c.in_ok-stopped.ensures.counts.counted,
        c.in_ok-tell_step.ensures.counts.counted,
      );
      same_run = at.invariant.same_run;
      stays = λ run track walks. (
        with-copy g (goal.at.loop-passing-preserved g c).After-leave run track walks,
        c.play_row-walk.ensures.walks run (at.invariant.stays run track walks).1,
      );
      going = λ run track here.
          let row =
          row-of g (goal.at.loop-passing-preserved g c).After-stop_before run track here in
          goes-on row.passed
          (rw c.in_default.is at (c.in_ok-stopped.ensures.stops run row.left row.walks))
          (c.in_ok-tell_step.ensures.tells run row.walks)
          (cause-is row.passed (c.in_default-cause_here.ensures run row.walks row.passed.tells));
      came = c.ends_way.ensures.came _ at.invariant.came;
    }

pub returns-in_err-tell-clause-goes_on : goal.returns-in_err-tell-clause-goes_on
returns-in_err-tell-clause-goes_on g c = λ run place track stands.
    let at = c.loop-passing in
    let same : c.place-from.result ≡ place = c.place-from.ensures ∙ stands.place_is in (
      None,
      some-came _ _ _ at.invariant.came,
      rw same at (end-fails (at.invariant.going run track (rw same stands))
          (omega (arith, c.loop-passing-test.false, c.place.ensures)) _
          c.from_residual-in_err-tell.ensures.0 c.in_err-tell.ensures.tells),
    )

pub returns-clause-goes_on : goal.returns-clause-goes_on
returns-clause-goes_on g c = λ run place track stands.
    let at = c.loop-passing in
    let same : c.place-from.result ≡ place = c.place-from.ensures ∙ stands.place_is in (
      None,
      some-came _ _ _ at.invariant.came,
      rw same at (going-ends (at.invariant.going run track (rw same stands))
          (omega (arith, c.loop-passing-test.false, c.place.ensures)) c.in_ok-tell.ensures.tells),
    )
