use Rattle.std.proofs.Common.{◌≤◌, ◌∙◌, arith}
use Rattle.debug_session.specs.{Place.Run, Request.most_steps}
use Rattle.debug_link.proofs.Interrupts.{none-came}
use Rattle.debug_walk.specs.{Copies.TrackStandsFor, Walk.place_of}
use Rattle.device_debug.{specs.Going.step_in, proofs.{Arrived.{back-begun, back-found, back-interrupted, back-none}, Back.none-further, Found.{found-one, looked-again, some-came}, backwards.go_back.{Given.Over, Goals.After-last_cause}}}
use Rattle.device_debug.proofs.backwards.go_back.Goals as goal

pub returns-then-end-le1-clause-goes : goal.returns-then-end-le1-clause-goes
returns-then-end-le1-clause-goes g c = λ run from track stands.
    back-begun _ run _ _ from c.min-end.result
    (omega (arith, c.min-end.ensures, c.place.ensures, stands.place_is, stands.within)) _ _
    c.in_ok-first.field-0 (none-came _) (omega (arith, c.if-end-le1.true))
    (c.in_ok-first.ensures.begins run track) c.in_ok-first.ensures.place

pub returns-in_err-first-clause-came : goal.returns-in_err-first-clause-came
returns-in_err-first-clause-came g c = none-came _

pub returns-then-end-le1-clause-came : goal.returns-then-end-le1-clause-came
returns-then-end-le1-clause-came g c = none-came _

pub returns-in_err-near-clause-stays : goal.returns-in_err-near-clause-stays
returns-in_err-near-clause-stays g c = λ run track.
    c.walk_near.ensures.stays run (c.loop-walk.invariant.stays run track)

-- the copies stand for the run behind a look at a piece of the way too
stays-there : (g : Over) (c : After-last_cause g) (run : Run)
    → TrackStandsFor g.D.Digest32.hash c.args.track.now run
    → TrackStandsFor g.D.Digest32.hash c.last_cause.new.track run
stays-there g c run track =
    let near = c.loop-walk.invariant.stays run track in
    c.last_cause.ensures.stays run (c.in_ok-near.ensures.begins run near).walks
    (c.in_ok-near.ensures.stays run near)

pub returns-in_err-walk_to-clause-stays : goal.returns-in_err-walk_to-clause-stays
returns-in_err-walk_to-clause-stays g c =
    stays-there g (goal.at.returns-in_err-walk_to-clause-stays g c).After-last_cause

pub returns-in-Some-clause-goes : goal.returns-in-Some-clause-goes
returns-in-Some-clause-goes g c = λ run from track stands.
    let there =
    stays-there g (goal.at.returns-in-Some-clause-goes g c).After-last_cause run track in
    let begun = c.in_ok-near.ensures.begins run (c.loop-walk.invariant.stays run track) in
    let within : c.min-end.result ≤ most_steps = omega (arith, c.min-end.ensures) in
    let before = c.loop-walk.invariant.before in
    let piece = c.in-Some.ensures.found run begun c.in_ok-near.ensures.before in
    back-found _ run _ _ from c.min-end.result
    (omega (arith, c.min-end.ensures, c.place.ensures, stands.place_is, stands.within)) _ _
    c.in_ok-walk_to.field-0 _ _ _ _ c.loop-walk.invariant.came within before piece
    (c.loop-walk.invariant.none run track)
    (c.in_ok-walk_to.ensures run there (omega (arith, piece.1, before, within)))

pub returns-in-Some-clause-stays : goal.returns-in-Some-clause-stays
returns-in-Some-clause-stays g c =
    stays-there g (goal.at.returns-in-Some-clause-stays g c).After-last_cause

pub returns-in_err-first-2-clause-stays : goal.returns-in_err-first-2-clause-stays
returns-in_err-first-2-clause-stays g c =
    stays-there g (goal.at.returns-in_err-first-2-clause-stays g c).After-last_cause

pub returns-then-begin-eq0-clause-goes : goal.returns-then-begin-eq0-clause-goes
returns-then-begin-eq0-clause-goes g c = λ run from track stands.
    let there =
    stays-there g (goal.at.returns-then-begin-eq0-clause-goes g c).After-last_cause run track in
    let begun = c.in_ok-near.ensures.begins run (c.loop-walk.invariant.stays run track) in
    back-none _ run _ _ from c.min-end.result
    (omega (arith, c.min-end.ensures, c.place.ensures, stands.place_is, stands.within)) _ _
    c.in_ok-first-2.field-0 (place_of c.in_ok-near.near) c.loop-walk.invariant.came
    (omega (arith, c.place-begin.ensures, c.if-begin-eq0.true))
    (none-further _ _ _ _ _ _
    (c.in_default.ensures.found run begun c.in_ok-near.ensures.before)
    (c.loop-walk.invariant.none run track))
    (c.in_ok-first-2.ensures.begins run there) c.in_ok-first-2.ensures.place

pub returns-then-begin-eq0-clause-stays : goal.returns-then-begin-eq0-clause-stays
returns-then-begin-eq0-clause-stays g c =
    stays-there g (goal.at.returns-then-begin-eq0-clause-stays g c).After-last_cause

pub loop-walk-preserved : goal.loop-walk-preserved
loop-walk-preserved g c =
    record {
      before = omega (
        arith,
        c.in_ok-near.ensures.before,
        c.place-begin.ensures,
        c.loop-walk.invariant.before,
      );
      same_run = c.last_cause.ensures.same_run
          ∙ c.in_ok-near.ensures.same_run ∙ c.loop-walk.invariant.same_run;
      stays = stays-there g (goal.at.loop-walk-preserved g c).After-last_cause;
      none = λ run track.
          let begun = c.in_ok-near.ensures.begins run (c.loop-walk.invariant.stays run track) in
          rw c.place-begin.ensures
          (none-further run c.args.stops.now (step_in c.args.seek.now) c.min-end.result
          (place_of c.in_ok-near.near) c.loop-walk.last
          (c.in_default.ensures.found run begun c.in_ok-near.ensures.before)
          (c.loop-walk.invariant.none run track));
      came = some-came _ _ _
          (looked-again _ _ _ _ c.have_come.ensures c.loop-walk.invariant.came);
    }

pub returns-then-have_come-clause-goes : goal.returns-then-have_come-clause-goes
returns-then-have_come-clause-goes g c = λ run from track stands.
    back-interrupted _ run _ _ from c.min-end.result
    (omega (arith, c.min-end.ensures, c.place.ensures, stands.place_is, stands.within)) _ _
    c.args.walk
    (found-one _ _ _ c.if-have_come.true
    (looked-again _ _ _ _ c.have_come.ensures c.loop-walk.invariant.came)) stands

pub returns-then-have_come-clause-stays : goal.returns-then-have_come-clause-stays
returns-then-have_come-clause-stays g c =
    stays-there g (goal.at.returns-then-have_come-clause-stays g c).After-last_cause

pub returns-then-have_come-clause-came : goal.returns-then-have_come-clause-came
returns-then-have_come-clause-came g c =
    some-came _ _ _ (looked-again _ _ _ _ c.have_come.ensures c.loop-walk.invariant.came)
