use Rattle.std.proofs.Common.{◌∙◌, Some, ap, subst}
use Rattle.word_arith.specs.declared.size.Size.TheVariants.{Word}
use Rattle.device_types.specs.declared.access.Access.TheVariants.{Read}
use Rattle.swatt_rom.{specs.Rom.StateStandsFor, proofs.WordsPassed.access-returns}
use Rattle.swatt_rom.proofs.state.State.access.Goals as goal

pub returns-in-Returns-clause-access : goal.returns-in-Returns-clause-access
returns-in-Returns-clause-access g c = λ call stands.
    ap (λ place. Some (Read place Word)) c.even.ensures
    ∙ access-returns g.D.Digest32.hash c.in-Returns.sp c.in-Returns.decision call
    (subst (λ state. StateStandsFor g.D.Digest32.hash state call) c.in-Returns.is stands)
