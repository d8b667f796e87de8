use Rattle.std.proofs.{Common.{◌≡◌, ◌≤◌, ◌<◌, inr, ⊎_elim, sym, arith}, lemmas.Bool.cases_lt}
use Rattle.debug_walk.specs.Walk.{place_of}
use Rattle.device_debug.proofs.backwards.to_boundary.Goals as goal

pub loop-walk-preserved : goal.loop-walk-preserved
loop-walk-preserved g c =
    let at = c.loop-walk in
    let next = c.step-walk in
    record {
      walks = λ run walks. next.ensures.walks run (at.invariant.walks run walks);
      within = (
        omega (arith, at.invariant.within.0, next.ensures.place),
        omega (arith, next.ensures.place, c.if-place-end.true, c.place.ensures),
      );
      stretch = λ run walks was.
          rw next.ensures.place
          (next.ensures.stretch run (at.invariant.walks run walks)
          (inr (at.invariant.stretch run walks was)));
      passes_none = λ run walks one past before.
          ⊎_elim
          (λ (less : one < place_of at.walk). at.invariant.passes_none run walks one past less)
          (λ (over : place_of at.walk ≤ one).
          let same : one ≡ place_of at.walk = omega (arith, over, before, next.ensures.place) in
          rw same (sym (c.loop-walk-test.ensures run (at.invariant.walks run walks))))
          (cases_lt one (place_of at.walk));
    }
