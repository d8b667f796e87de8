use Rattle.std.proofs.{Common.{◌≡◌, ◌≤◌, ◌<◌, ◌∙◌, ⊎_elim, ℕ, min, subst, sym, arith}, Math.Nat.min-eq_left}
use Rattle.debug_session.specs.Request.{most_steps}
use Rattle.debug_walk.specs.Walk.{place_of}
use Rattle.debug_walk.proofs.track.Track.walk_to.Goals as goal

pub returns : goal.returns
returns g c = λ run track few.
    let walk = c.in_ok-walk.walk in
    let place : ℕ = c.args.place in
    let here : min place most_steps ≡ place = min-eq_left few in
    let early : place_of walk ≤ place = ⊎_elim
    (λ (first : place_of walk ≡ 0). omega (arith, first))
    (λ (less : place_of walk < c.saturating_add.result).
    omega (arith, less, c.saturating_add.ensures, few))
    c.in_ok-walk.ensures.before in
    record {
      walks = c.play_up_to.ensures.walks run (c.in_ok-walk.ensures.begins run track).walks;
      place_is = c.play_up_to.ensures.place
          (subst (λ (end : ℕ). place_of walk ≤ end) (sym here) early) ∙ here;
    }
