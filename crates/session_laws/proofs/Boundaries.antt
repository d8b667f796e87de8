-- The next boundary behind a place.
use Rattle.std.{proofs.{Common.{◌≡◌, ◌<◌, ◌≤◌, ◌+◌, ◌-◌, ◌⊎◌, ℕ, zero, suc, Bool, true, false, List, [], length, inl, inr, refl, ap, sym, ◌∙◌, arith, eq-or-lt_of_le}, lemmas.Bool.true≢false}, specs.Prelude.if◌then◌else◌}
use Rattle.debug_session.specs.{Request.most_steps, Cause.ahead, Sight.{Sight, View}}
use Rattle.session_laws.specs.DebuggerSecrecy.{next_boundary}

module _ (view : View) where
  abbrev reach : ℕ → ℕ → ℕ
  reach place steps = place + length (ahead view place steps)

  few-unless : (test : Bool) (sights : List Sight) (steps : ℕ) → length sights ≤ steps
      → length (if test then [] else sights) ≤ steps
  few-unless true sights steps few = omega arith
  few-unless false sights steps few = few

  few-ahead : (place steps : ℕ) → length (ahead view place steps) ≤ steps
  few-ahead place zero = omega arith
  few-ahead place (suc steps) =
      omega (
        arith,
        few-unless (view (suc place)).boundary (ahead view (suc place) steps) steps
            (few-ahead (suc place) steps),
      )

  pub reach-few : (place steps : ℕ) → reach place steps ≤ place + steps
  reach-few place steps = omega (arith, few-ahead place steps)

  -- the place behind one is no boundary, so a boundary behind that lies behind this too
  not-next : (place at : ℕ) → place < at → (view at).boundary ≡ true
      → (view (suc place)).boundary ≡ false → suc place < at
  not-next place at before there none =
      elim (eq-or-lt_of_le before) [
        | inl next ↦
            absurd (true≢false (sym there ∙ (ap (λ (one : ℕ). (view one).boundary) (sym next)
            ∙ none)))
        | inr later ↦ later
      ]

  reach-unless : (test : Bool) (place at : ℕ) (sights : List Sight) → place < at
      → (test ≡ false → suc place + length sights ≤ at)
      → place + suc (length (if test then [] else sights)) ≤ at
  reach-unless true place at sights before within = omega (arith, before)
  reach-unless false place at sights before within = omega (arith, within refl)

  -- no boundary behind a place is before the next one
  pub reach-within : (place steps at : ℕ) → place < at → (view at).boundary ≡ true
      → reach place steps ≤ at
  reach-within place zero at before there = omega (arith, before)
  reach-within place (suc steps) at before there =
      reach-unless (view (suc place)).boundary place at (ahead view (suc place) steps) before
      (λ none. reach-within (suc place) steps at (not-next place at before there none) there)

  -- either it is a boundary, or so many steps lead to none
  abbrev Ends : ℕ → ℕ → ℕ → Type 0
  Ends place steps at =
      (at ≡ place + steps) ⊎ ((place < at) × ((view at).boundary ≡ true))

  ends-later : (place steps at : ℕ) → Ends (suc place) steps at → Ends place (suc steps) at
  ends-later place steps at (inl last) = inl (omega (arith, last))
  ends-later place steps at (inr there) = inr (omega (arith, there.0), there.1)

  ends-unless : (test : Bool) (place steps at : ℕ) (sights : List Sight)
      → (view (suc place)).boundary ≡ test
      → at ≡ place + suc (length (if test then [] else sights))
      → (at ≡ suc place + length sights → Ends (suc place) steps at)
      → Ends place (suc steps) at
  ends-unless true place steps at sights is same later =
      let next : suc place ≡ at = omega (arith, same) in
      inr (omega (arith, same), sym (ap (λ (one : ℕ). (view one).boundary) next) ∙ is)
  ends-unless false place steps at sights is same later =
      ends-later place steps at (later (omega (arith, same)))

  reach-ends : (place steps at : ℕ) → at ≡ reach place steps → Ends place steps at
  reach-ends place zero at same = inl (omega (arith, same))
  reach-ends place (suc steps) at same =
      ends-unless (view (suc place)).boundary place steps at (ahead view (suc place) steps) refl
      same (reach-ends (suc place) steps at)

  -- behind a later place the next boundary is no earlier
  reach-later : (place steps other rest : ℕ) → place ≤ other → place + steps ≤ other + rest
      → reach place steps ≤ reach other rest
  reach-later place steps other rest later within =
      elim (reach-ends other rest (reach other rest) refl) [
        | inl last ↦ omega (arith, reach-few place steps, last, within)
        | inr there ↦
            reach-within place steps (reach other rest) (omega (arith, later, there.0)) there.1
      ]

  pub boundary-later : (place other : ℕ) → place ≤ other
      → next_boundary view place ≤ next_boundary view other
  boundary-later place other later =
      reach-later place (most_steps - place) other (most_steps - other) later
      (omega (arith, later))

  pub boundary-behind : (place : ℕ) → place ≤ next_boundary view place
  boundary-behind place = omega arith
