use Rattle.std.proofs.Common.{◌≡◌, ◌<◌, ◌-◌, ◌∙◌, ℕ, Some, ap, sym, arith}
use Rattle.debug_session.specs.{Request.most_steps, Place.{Run, view_of}}
use Rattle.debug_walk.specs.{Copies.TrackStandsFor, Walk.{Walks, place_of}}
use Rattle.device_debug.{specs.Ahead.refused_at, proofs.{Refusals.{at-most, fails-behind, found-so, looking-fails, stops-at, stops-unrefused}, forwards.stop_before.{Given.Over, Goals.After-tell_refusal}}}
use Rattle.device_debug.proofs.forwards.stop_before.Goals as goal

-- what is told: the step was refused behind a boundary
record IsFound (g : Over) (c : After-tell_refusal g) (run : Run) : Type 0 where
  few : place_of c.args.walk.now - 1 < most_steps
  found : refused_at (view_of run) c.args.from (place_of c.args.walk.now - 1)
      ≡ Some (c.in-Some-2.at, c.in-Some.rule)
  number : c.place-step.result - 1 ≡ place_of c.args.walk.now - 1

found-of : (g : Over) (c : After-tell_refusal g) (run : Run)
    → TrackStandsFor g.D.Digest32.hash c.args.track.now run
    → Walks g.D.Digest32.hash run c.args.walk.now → IsFound g c run
found-of g c run track walks =
    let step = place_of c.args.walk.now - 1 in
    let few : step < most_steps = omega (arith, c.requires.stepped, c.requires.few) in
    record {
      few = few;
      found = found-so g.D.Digest32.hash g.W.Sink run c.args.from step few c.in-Some-2.at
          c.in-Some.rule
          (c.in-Some.ensures run walks step (omega (arith, c.requires.stepped)))
          (sym c.in-Some-2.is ∙ (rw c.place-step.ensures at (c.in_ok-at.ensures run track)));
      number = ap (λ (at : ℕ). at - 1) c.place-step.ensures;
    }

pub returns-in_default-clause-stops : goal.returns-in_default-clause-stops
returns-in_default-clause-stops g c = λ run track walks.
    let step = place_of c.args.walk.now - 1 in
    stops-unrefused g.D.Digest32.hash g.W.Sink run c.args.from step
    (omega (arith, c.requires.stepped, c.requires.few)) c.args.packets.now
    (c.in_default.ensures run walks step (omega (arith, c.requires.stepped)))

pub returns-in_err-at-clause-stops : goal.returns-in_err-at-clause-stops
returns-in_err-at-clause-stops g c = λ run track walks.
    looking-fails g.D.Digest32.hash g.W.Sink run c.args.from _
    (omega (arith, c.requires.stepped, c.requires.few)) _ _ _ c.from_residual.ensures.0

pub returns-in_err-tell_refusal-clause-stops : goal.returns-in_err-tell_refusal-clause-stops
returns-in_err-tell_refusal-clause-stops g c = λ run track walks.
    let is =
    found-of g (goal.at.returns-in_err-tell_refusal-clause-stops g c).After-tell_refusal
    run track walks in
    fails-behind g.D.Digest32.hash g.W.Sink run c.args.from _ is.few _ _ is.found _ is.number _ _
    _ _ c.from_residual-in_err-tell_refusal.ensures.0 c.in_err-tell_refusal.ensures.tells

pub returns-in_err-walk_to-clause-stops : goal.returns-in_err-walk_to-clause-stops
returns-in_err-walk_to-clause-stops g c = λ run track walks.
    let is =
    found-of g (goal.at.returns-in_err-walk_to-clause-stops g c).After-tell_refusal
    run track walks in
    fails-behind g.D.Digest32.hash g.W.Sink run c.args.from _ is.few _ _ is.found _ is.number _ _
    _ _ c.from_residual-in_err-walk_to.ensures.0 c.in_ok-tell_refusal.ensures.tells

pub returns-clause-stops : goal.returns-clause-stops
returns-clause-stops g c = λ run track walks.
    let is =
    found-of g (goal.at.returns-clause-stops g c).After-tell_refusal run track walks in
    stops-at g.D.Digest32.hash g.W.Sink run c.args.from _ is.few _ _ is.found _ is.number _ _ _ _
    (c.in_ok-walk_to.ensures run track (at-most g.D.Digest32.hash g.W.Sink run c.args.from _ is.few
    _ _ is.found _ is.number)) c.in_ok-tell_refusal.ensures.tells
