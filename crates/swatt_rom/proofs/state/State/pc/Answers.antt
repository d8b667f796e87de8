use Rattle.std.proofs.Common.{subst}
use Rattle.swatt_rom.{specs.Rom.StateStandsFor, proofs.WordsPassed.pc-returns}
use Rattle.swatt_rom.proofs.state.State.pc.Goals as goal

pub returns-in-Returns : goal.returns-in-Returns
returns-in-Returns g c = λ call stands.
    pc-returns g.D.Digest32.hash c.in-Returns.sp c.in-Returns.decision
    call
    (subst (λ state. StateStandsFor g.D.Digest32.hash state call)
    c.in-Returns.is stands)
