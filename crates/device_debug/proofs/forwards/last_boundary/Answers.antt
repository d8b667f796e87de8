use Rattle.std.proofs.Common.{◌≡◌, ◌≤◌, ◌∙◌, inl, inr, suc, arith}
use Rattle.debug_walk.specs.Walk.{place_of}
use Rattle.device_debug.proofs.Refusals.{past-first, past-next}
use Rattle.device_debug.proofs.forwards.last_boundary.Goals as goal

pub loop-walk-init : goal.loop-walk-init
loop-walk-init g c =
    let within : place_of c.in_ok-walk.walk ≤ c.args.until = elim c.in_ok-walk.ensures.before [
      | inl first ↦ omega (arith, first)
      | inr less ↦ omega (arith, less)
    ] in
    record {
      within = within;
      looks = λ run track.
          let walks = (c.in_ok-walk.ensures.begins run track).walks in (
            walks,
            c.boundary_past-last.ensures run walks
                ∙ past-first run c.args.from _ (omega (arith, within, c.requires))
                (c.in_ok-walk.ensures.settled run track),
          );
    }

pub loop-walk-preserved : goal.loop-walk-preserved
loop-walk-preserved g c =
    let made : place_of c.step-walk.result ≡ suc (place_of c.loop-walk.walk) =
    omega (arith, c.step-walk.ensures.place) in
    let within : place_of c.step-walk.result ≤ c.args.until =
    omega (arith, made, c.loop-walk-test.true, c.place.ensures) in
    record {
      within = within;
      looks = λ run track.
          let looks = c.loop-walk.invariant.looks run track in
          let walks = c.step-walk.ensures.walks run looks.0 in (
            walks,
            past-next run c.args.from _ (place_of c.loop-walk.walk) _ _ made
                (omega (arith, within, c.requires)) looks.1
                (c.boundary_behind-last.ensures run walks (place_of c.loop-walk.walk) made),
          );
    }

pub returns : goal.returns
returns g c = λ run track.
    let at : place_of c.loop-walk.walk ≡ c.args.until =
    omega (arith, c.loop-walk.invariant.within, c.loop-walk-test.false, c.place.ensures) in
    rw at at (c.loop-walk.invariant.looks run track).1
