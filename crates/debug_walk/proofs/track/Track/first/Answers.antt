use Rattle.std.proofs.{Common.{◌≡◌, ◌∙◌, inl, inr, ⊎_elim, ℕ, true, false, [], subst, sym, arith}, lemmas.Bool.cases_Bool}
use Rattle.debug_session.specs.Place.{Run, sight_at}
use Rattle.debug_walk.{specs.{Copies.{IsBegun, played_run}, Walk.{IsFresh, IsStretch, place_of}}, proofs.FirstStep.kept-of-boot}
use Rattle.debug_walk.proofs.track.Track.first.Goals as goal

pub returns-clause-begins : goal.returns-clause-begins
returns-clause-begins g c = λ run track.
    let hash = g.D.Digest32.hash in
    let given = c.args.self.now.run in
    let played : Run = played_run hash given in
    let begun = c.in_ok-walk.ensures in
    let next = c.step.result in
    let here : place_of next ≡ 1 = omega (arith, c.step.ensures.place, begun.place) in
    let kept : IsStretch [] played 1 next.stretch =
    subst (λ (place : ℕ). IsStretch [] played place next.stretch)
    (sym c.step.ensures.place ∙ here)
    (c.step.ensures.stretch played begun.walks
    (inr (subst (λ (place : ℕ). IsStretch [] played place c.in_ok-walk.walk.stretch)
    (sym begun.place) (begun.stretch [])))) in
    let fresh : IsFresh played next = ⊎_elim
    (λ (boundary : (sight_at played 1).boundary ≡ true).
    inl (subst (λ (place : ℕ). (sight_at played place).boundary ≡ true) (sym here) boundary))
    (λ (none : (sight_at played 1).boundary ≡ false).
    inr (λ watches. subst (λ (place : ℕ). IsStretch watches played place next.stretch) (sym here)
    (kept-of-boot hash given watches next.stretch none kept)))
    (cases_Bool (sight_at played 1).boundary) in
    subst (λ (one : Run). IsBegun hash one next) track.same_run
    (record { walks = c.step.ensures.walks played begun.walks; fresh = fresh })
