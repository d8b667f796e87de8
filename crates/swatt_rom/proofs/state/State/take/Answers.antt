use Rattle.std.proofs.Common.{subst, rules}
use Rattle.swatt_rom.{specs.Rom.StateStandsFor, proofs.{WordsPassed.after_value-leaves, Accesses.{after_value-calls, after_value-returns}}}
use Rattle.swatt_rom.proofs.state.State.take.Goals as goal

pub returns-in-None : goal.returns-in-None
returns-in-None g c = λ call stands.
    after_value-calls g.D.Digest32.hash c.in-Calls.sp c.args.value
    c.in-Calls.phase c.take.new.self c.in-None.ensures call
    (subst (λ state. StateStandsFor g.D.Digest32.hash state call)
    c.in-Calls.is stands)

pub returns-in-Some : goal.returns-in-Some
returns-in-Some g c = λ call stands.
    after_value-returns g.D.Digest32.hash c.in-Calls.sp c.args.value
    c.in-Some.decision c.in-Calls.phase c.in-Some.ensures call
    (subst (λ state. StateStandsFor g.D.Digest32.hash state call)
    c.in-Calls.is stands)

pub returns-in-Returns : goal.returns-in-Returns
returns-in-Returns g c = λ call stands.
    after_value-leaves g.D.Digest32.hash c.in-Returns.sp
    c.in-Returns.decision c.args.value _ (search rules) call
    (subst (λ state. StateStandsFor g.D.Digest32.hash state call)
    c.in-Returns.is stands)
