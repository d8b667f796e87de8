use Rattle.std.proofs.Common.{◌≡◌, ◌∙◌, true, false, refl, sym}
use Rattle.debug_session.specs.Place.{sight_at}
use Rattle.debug_walk.{specs.Walk.place_of, proofs.Views.level-at}
use Rattle.debug_walk.proofs.walk.Walk.next_stretch.Goals as goal

pub returns-then-is_at_boundary : goal.returns-then-is_at_boundary
returns-then-is_at_boundary g c = λ run walks.
    let here : (sight_at run (place_of c.args.self.now)).boundary ≡ true =
    sym (c.is_at_boundary.ensures run walks) ∙ c.if-is_at_boundary.true in
    c.from.ensures
    ∙ rw (c.place.ensures, level-at run walks c.level.result c.level.ensures, here) refl

pub returns-else-is_at_boundary : goal.returns-else-is_at_boundary
returns-else-is_at_boundary g c = λ run walks.
    let here : (sight_at run (place_of c.args.self.now)).boundary ≡ false =
    sym (c.is_at_boundary.ensures run walks) ∙ c.if-is_at_boundary.false in
    rw here refl
