use Rattle.std.proofs.Common.{subst, refl}
use Rattle.verifier_desk.specs.Standing.{AreDistinct}
use Rattle.verifier_desk.proofs.desk.Desk.new.Goals as goal

pub returns : goal.returns
returns c =
    record {
      digest = refl;
      devices = refl;
      image = refl;
      policy = refl;
      distinct = subst AreDistinct c.keys.view_is c.keys.invariant.0;
      states = λ i d s below. c.in_ok-states.ensures.states i d s below;
    }
