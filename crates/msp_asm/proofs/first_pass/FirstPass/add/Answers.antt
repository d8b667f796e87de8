use Rattle.std.proofs.Common.{◌∙◌, ap, ℕ, Bool}
use Rattle.msp_asm.proofs.first_pass.FirstPass.add.Goals as goal

pub returns-in-Ok-clause-taken : goal.returns-in-Ok-clause-taken
returns-in-Ok-clause-taken c = λ place.
    ap (λ (is_taken : ℕ → Bool). is_taken place) c.in-Ok.ensures.taken
    ∙ c.in_ok-after.ensures.taken place
