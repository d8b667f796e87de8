-- What a quiet record does not do.
use Rattle.std.proofs.Common.{◌≡◌, ◌&&◌, Bool, true, false, not, refl}

pub quiet-parts : (alone enters clears : Bool) → (alone && not enters && not clears) ≡ true
    → (alone ≡ true) × (enters ≡ false) × (clears ≡ false)
quiet-parts true false false quiet = (refl, refl, refl)
quiet-parts true false true quiet = absurd (cc)
quiet-parts true true clears quiet = absurd (cc)
quiet-parts false enters clears quiet = absurd (cc)
