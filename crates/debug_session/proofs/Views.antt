-- A view shows the places of its run up to the last, and each step before it.
use Rattle.std.{proofs.{Common.{◌≡◌, ◌≤◌, ◌<◌, ◌∙◌, ℕ, ap, arith}, Math.Nat.min-eq_left, lemmas.Bool.{cond-true, lt-ltb}}, specs.Prelude.nat_lt}
use Rattle.debug_session.specs.{Request.most_steps, Place.{Run, no_step, sight_at, step_sight, view_of}, Sight.Sight}

module _ (run : Run) where
  pub view-at : (place : ℕ) → place ≤ most_steps → view_of run place ≡ sight_at run place
  view-at place within = ap (sight_at run) (min-eq_left within)

  pub next-at : (place : ℕ) → place < most_steps → (view_of run place).next ≡ step_sight run place
  unfolding sight_at
  next-at place before =
      let within : place ≤ most_steps = omega (arith, before) in
      ap (λ (here : Sight). here.next) (view-at place within)
      ∙ cond-true (nat_lt place most_steps) (step_sight run place) no_step
      (lt-ltb place most_steps before)
