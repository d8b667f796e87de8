use Rattle.std.proofs.Common.{◌≡◌, ◌∙◌, suc, refl, subst, sym, add-one, arith}
use Rattle.debug_walk.{specs.Walk.{IsStretch, place_of, stretch_there}, proofs.{StretchSteps.stretch-next, TellsSteps.kept-one}}
use Rattle.debug_walk.proofs.walk.Walk.step.Goals as goal

pub returns-clause-walks : goal.returns-clause-walks
returns-clause-walks g c = λ run walks. (c.make_row.ensures.row run walks).midway

pub returns-clause-stretch : goal.returns-clause-stretch
returns-clause-stretch g c = λ run walks known.
    let watches = c.args.watches.now in
    let walk = c.args.self in
    let place = place_of walk in
    let after = c.make_row.result in
    let made = c.make_row.ensures in
    let ends : place_of after ≡ suc place = omega (arith, made.within, c.place-end.ensures) in
    let is = stretch-next watches run place c.requires.few walk.stretch known in
    subst (λ at. IsStretch watches run at after.stretch) (sym (add-one place))
    (subst (IsStretch watches run (suc place))
    (sym (made.stretch run walks place ends
    ∙ kept-one watches run place (stretch_there run place walk.stretch) after.live
    (made.kept refl)))
    is)
