-- The steps since the boundary before a place, and up to the next one.
use Rattle.std.{proofs.{Common.{◌≡◌, ◌≤◌, ◌<◌, ◌+◌, ◌-◌, ◌∙◌, ◌⊎◌, inl, inr, ⊎_elim, ℕ, zero, suc, true, false, List, [], ◌∷◌, ◌++◌, length, refl, ap, sym, subst, arith}, lemmas.{Bool.{cases_Bool, cases_lt, cond-false}, List.length-append}}, specs.Prelude.if◌then◌else◌}
use Rattle.debug_session.specs.{Cause.{ahead, behind}, Sight.{Sight, View}}

-- the last boundary before a place, or place 0
pub record HasBegin (view : View) (place : ℕ) : Type 0 where
  pub from : ℕ
  pub earlier : from < place
  pub settled : (from ≡ 0) ⊎ ((view from).boundary ≡ true)
  pub none_since : (at : ℕ) → from < at → at < place → (view at).boundary ≡ false
  pub steps : place ≡ length (behind view place) + from

module _ (view : View) where
  one-more : (sights : List Sight) (last : Sight) → length (sights ++ last ∷ []) ≡ length sights + 1
  one-more sights last = length-append sights (last ∷ [])

  from-boundary : (before : ℕ) → (view before).boundary ≡ true → HasBegin view (suc before)
  from-boundary before here =
      record {
        from = before;
        earlier = omega arith;
        settled = inr here;
        none_since = λ at after until. absurd (omega (arith, after, until));
        steps = rw here (omega arith);
      }

  behind-more : (before : ℕ) → (view before).boundary ≡ false
      → behind view (suc before) ≡ behind view before ++ view before ∷ []
  behind-more before none =
      ap (λ (sights : List Sight). sights ++ view before ∷ [])
      (cond-false (view before).boundary [] (behind view before) none)

  ahead-more : (from rest : ℕ) → (view (suc from)).boundary ≡ false
      → ahead view from (suc rest) ≡ view from ∷ ahead view (suc from) rest
  ahead-more from rest none =
      ap (λ (sights : List Sight). view from ∷ sights)
      (cond-false (view (suc from)).boundary [] (ahead view (suc from) rest) none)

  since-before : (before : ℕ) → (view before).boundary ≡ false → HasBegin view before
      → HasBegin view (suc before)
  since-before before none begun =
      record {
        from = begun.from;
        earlier = omega (arith, begun.earlier);
        settled = begun.settled;
        none_since = λ at after until. ⊎_elim
            (λ less. begun.none_since at after less)
            (λ over.
            let here : before ≡ at = omega (arith, over, until) in
            subst (λ (one : ℕ). (view one).boundary ≡ false) here none)
            (cases_lt at before);
        steps = omega (
          arith,
          begun.steps,
          ap length (behind-more before none),
          one-more (behind view before) (view before),
        );
      }

  begin-of : (before : ℕ) → HasBegin view (suc before)
  begin-of zero =
      record {
        from = 0;
        earlier = omega arith;
        settled = inl refl;
        none_since = λ at after until. absurd (omega (arith, after, until));
        steps = ⊎_elim (λ here. rw here refl) (λ none. rw none refl)
            (cases_Bool (view 0).boundary);
      }
  begin-of (suc before) =
      ⊎_elim (from-boundary (suc before))
      (λ none. since-before (suc before) none (begin-of before))
      (cases_Bool (view (suc before)).boundary)

  pub has-begin : (place : ℕ) → 0 < place → HasBegin view place
  has-begin zero some = absurd (omega (arith, some))
  has-begin (suc before) some = begin-of before

  -- of so many steps from a place on
  span : ℕ → ℕ → List Sight
  span from zero = []
  span from (suc steps) = view from ∷ span (suc from) steps

  span-end : (from steps : ℕ)
      → span from (suc steps) ≡ span from steps ++ view (steps + from) ∷ []
  unfolding span
  span-end from zero =
      ap (λ (at : ℕ). view at ∷ []) (omega arith)
  span-end from (suc steps) =
      let same : steps + suc from ≡ suc steps + from = omega arith in
      ap (λ (sights : List Sight). view from ∷ sights) (span-end (suc from) steps)
      ∙ ap (λ (at : ℕ). view from ∷ (span (suc from) steps ++ view at ∷ [])) same

  module _ (from : ℕ) (settled : (from ≡ 0) ⊎ ((view from).boundary ≡ true)) where
    none-before : (if (view from).boundary then [] else behind view from) ≡ []
    none-before =
        ⊎_elim
        (λ (first : from ≡ 0).
        subst
        (λ (at : ℕ). (if (view at).boundary then [] else behind view at) ≡ [])
        (sym first)
        (⊎_elim (λ here. rw here refl) (λ none. rw none refl) (cases_Bool (view 0).boundary)))
        (λ (here : (view from).boundary ≡ true). rw here refl)
        settled

    behind-span : (steps : ℕ)
        → ((at : ℕ) → from < at → at < suc steps + from → (view at).boundary ≡ false)
        → behind view (suc steps + from) ≡ span from (suc steps)
    unfolding span
    behind-span zero none =
        let here : suc zero + from ≡ suc from = omega arith in
        ap (behind view) here
        ∙ ap (λ (sights : List Sight). sights ++ view from ∷ []) none-before
    behind-span (suc steps) none =
        let here : suc (suc steps) + from ≡ suc (suc steps + from) = omega arith in
        ap (behind view) here
        ∙ behind-more (suc steps + from) (none (suc steps + from) (omega arith) (omega arith))
        ∙ ap (λ (sights : List Sight). sights ++ view (suc steps + from) ∷ [])
        (behind-span steps (λ at after until. none at after (omega (arith, until))))
        ∙ sym (span-end from (suc steps))

  nothing-more : (from rest : ℕ)
      → (rest ≡ 0) ⊎ ((view (suc from)).boundary ≡ true)
      → (if (view (suc from)).boundary then [] else ahead view (suc from) rest) ≡ []
  nothing-more from rest (inr here) = rw here refl
  nothing-more from rest (inl last) =
      subst
      (λ (one : ℕ).
      (if (view (suc from)).boundary then [] else ahead view (suc from) one) ≡ [])
      (sym last)
      (⊎_elim (λ here. rw here refl) (λ none. rw none refl)
      (cases_Bool (view (suc from)).boundary))

  -- up to the next boundary, or the last of the steps
  ahead-span : (steps from rest : ℕ) → steps ≤ rest
      → ((at : ℕ) → from < at → at < suc steps + from → (view at).boundary ≡ false)
      → (rest ≡ steps) ⊎ ((view (suc steps + from)).boundary ≡ true)
      → ahead view from (suc rest) ≡ span from (suc steps)
  unfolding span
  ahead-span zero from rest few none ends =
      let here : suc zero + from ≡ suc from = omega arith in
      ap (λ (sights : List Sight). view from ∷ sights)
      (nothing-more from rest
      (subst (λ (at : ℕ). (rest ≡ 0) ⊎ ((view at).boundary ≡ true)) here ends))
  ahead-span (suc steps) from zero few none ends = absurd (omega (arith, few))
  ahead-span (suc steps) from (suc rest) few none ends =
      let next : suc (suc steps) + from ≡ suc steps + suc from = omega arith in
      ahead-more from (suc rest) (none (suc from) (omega arith) (omega arith))
      ∙ ap (λ (sights : List Sight). view from ∷ sights)
      (ahead-span steps (suc from) rest (omega (arith, few))
      (λ at after until. none at (omega (arith, after)) (omega (arith, until)))
      (⊎_elim (λ (same : suc rest ≡ suc steps). inl (omega (arith, same)))
      (λ (end : (view (suc (suc steps) + from)).boundary ≡ true).
      inr (subst (λ (at : ℕ). (view at).boundary ≡ true) next end)) ends))

  -- what lies ahead of a boundary, up to a place, is what lies behind that place
  pub ahead-behind : (from place rest : ℕ) → from < place → place ≤ rest + from
      → ((from ≡ 0) ⊎ ((view from).boundary ≡ true))
      → ((at : ℕ) → from < at → at < place → (view at).boundary ≡ false)
      → (place ≡ rest + from) ⊎ ((view place).boundary ≡ true)
      → ahead view from rest ≡ behind view place
  ahead-behind from place zero earlier few settled none ends = absurd (omega (arith, earlier, few))
  ahead-behind from place (suc rest) earlier few settled none ends =
      let steps : ℕ = place - suc from in
      let here : suc steps + from ≡ place = omega (arith, earlier) in
      let none_since : (at : ℕ) → from < at → at < suc steps + from → (view at).boundary ≡ false =
      λ at after until. none at after (omega (arith, until, here)) in
      ahead-span steps from rest (omega (arith, few)) none_since
      (⊎_elim (λ (same : place ≡ suc rest + from). inl (omega (arith, same, here)))
      (λ (end : (view place).boundary ≡ true).
      inr (subst (λ (at : ℕ). (view at).boundary ≡ true) (sym here) end)) ends)
      ∙ sym (behind-span from settled steps none_since)
      ∙ ap (behind view) here

  pub behind-first : (place : ℕ) (begun : HasBegin view place)
      → (later : List Sight) × (behind view place ≡ view begun.from ∷ later)
  unfolding span
  behind-first place begun =
      let from : ℕ = begun.from in
      let steps : ℕ = place - suc from in
      let here : suc steps + from ≡ place = omega (arith, begun.earlier) in (
        span (suc from) steps,
        sym (ap (behind view) here)
            ∙ behind-span from begun.settled steps
            (λ at after until. begun.none_since at after (omega (arith, until, here))),
      )
