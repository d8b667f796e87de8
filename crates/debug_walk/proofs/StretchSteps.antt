-- What is kept of the steps since a boundary, with one step more.
use Rattle.std.{proofs.{Common.{◌≡◌, ◌<◌, ◌≤◌, ◌-◌, ◌∙◌, ◌⊎◌, inl, inr, ℕ, zero, suc, Bool, true, false, List, [], ◌∷◌, ◌++◌, Option, Some, None, length, refl, ap, sym, arith}, lemmas.{Bool.{and_right, cond_both, eq-eqb, ne_eqb}, List.{append-nil, append_assoc, length_push}}}, specs.{Option.option_or, Prelude.{◌==◌, ◌&&◌, ◌||◌, nat_le, if◌then◌else◌}}}
use Rattle.device_types.specs.{Kind.is_boot, declared.rule.Rule.Rule}
use Rattle.debug_session.{specs.{Request.most_steps, declared.{command.Way.TheVariants.{Ahead, Back}, watch.{Hit.Hit, Watch.Watch}}, Cause.{begins_within, behind, boots, hit_on, hits, refusal, refusal_or}, Place.{Run, sight_at, step_at, step_sight, view_of}, Sight.{Sight, StepSight}, Watched.{first_hit, hits_of, last_hit}}, proofs.{Stretches.has-begin, Views.{next-at, view-at}, Hits.{first_of_both, last_of_both}}}
use Rattle.debug_walk.{specs.{Stretch.is_instruction, Walk.{IsStretch, first_refused, seen_at, stretch_past, stretch_there}, declared.stretch.Stretch.Stretch}, proofs.Places.first-kind}

pub hits-with : (watches : List Watch) (sights : List Sight) (last : Sight)
    → hits watches (sights ++ last ∷ []) ≡ hits watches sights ++ last.next.hits watches
hits-with watches [] last = append-nil (last.next.hits watches)
hits-with watches (sight ∷ sights) last =
    ap (λ (made : List Hit). sight.next.hits watches ++ made) (hits-with watches sights last)
    ∙ sym (append_assoc (sight.next.hits watches) (hits watches sights) (last.next.hits watches))

pub first-with : (watches : List Watch) (sights : List Sight) (last : Sight)
    → hit_on Ahead (hits watches (sights ++ last ∷ []))
    ≡ option_or (hit_on Ahead (hits watches sights)) (first_hit (last.next.hits watches))
first-with watches sights last =
    ap first_hit (hits-with watches sights last)
    ∙ first_of_both (hits watches sights) (last.next.hits watches)

last-with : (watches : List Watch) (sights : List Sight) (last : Sight)
    → hit_on Back (hits watches (sights ++ last ∷ []))
    ≡ last_hit (hit_on Back (hits watches sights)) (last.next.hits watches)
last-with watches sights last =
    ap (last_hit None) (hits-with watches sights last)
    ∙ last_of_both None (hits watches sights) (last.next.hits watches)

boots-with : (sights : List Sight) (last : Sight)
    → boots (sights ++ last ∷ []) ≡ is_boot last.next.kind
boots-with [] last = refl
boots-with (sight ∷ []) last = refl
boots-with (sight ∷ (second ∷ sights)) last = boots-with (second ∷ sights) last

pub or-none : {A : Type 0} (one : Option A) → option_or one None ≡ one
or-none None = refl
or-none (Some one) = refl

or-assoc : (one other last : Option Rule)
    → option_or one (option_or other last) ≡ option_or (option_or one other) last
or-assoc None other last = refl
or-assoc (Some rule) other last = refl

refused-with : (sights : List Sight) (last : Sight)
    → first_refused (sights ++ last ∷ []) ≡ option_or (first_refused sights) last.next.refused
refused-with [] last = or-none last.next.refused
refused-with (sight ∷ sights) last =
    ap (λ (later : Option Rule). option_or sight.next.refused later) (refused-with sights last)
    ∙ or-assoc sight.next.refused (first_refused sights) last.next.refused

told-first : (rule later : Option Rule) (rest : Option Rule)
    → refusal_or later None ≡ rest
    → refusal_or (option_or rule later) None ≡ refusal_or rule rest
told-first None later rest same = same
told-first (Some rule) later rest same = refl

-- why a debugger stops for them
pub told-refused : (sights : List Sight) → refusal_or (first_refused sights) None ≡ refusal sights
told-refused [] = refl
told-refused (sight ∷ sights) =
    told-first sight.next.refused (first_refused sights) (refusal sights) (told-refused sights)

-- the steps of which one at this place is the next
abbrev pub kept_behind : Run → ℕ → List Sight
kept_behind run place =
    if (view_of run place).boundary then [] else behind (view_of run) place

pub behind-few : (run : Run) (place : ℕ) → length (behind (view_of run) place) ≤ place
behind-few run zero = omega arith
behind-few run (suc before) =
    let begun = has-begin (view_of run) (suc before) (omega arith) in omega (arith, begun.steps)

pub kept-few : (run : Run) (place : ℕ) → length (kept_behind run place) ≤ place
kept-few run place =
    cond_both (view_of run place).boundary [] (behind (view_of run) place)
    (λ sights. length sights ≤ place) (λ here. omega arith) (λ none. behind-few run place)

-- a stretch begins here, or this is known of the one that goes on
pub by-boundary : {Known Holds : Type 0} (here : Bool) → (here ≡ true) ⊎ Known
    → (here ≡ true → Holds) → (here ≡ false → Known → Holds) → Holds
by-boundary true known begins goes_on = begins refl
by-boundary false (inl here) begins goes_on = absurd (cc (here))
by-boundary false (inr known) begins goes_on = goes_on refl known

-- Whether an instruction began with a stretch.

unbegun : (begins now : Bool) → now ≡ false → (begins || now) ≡ begins
unbegun begins now none = grind arith

begins-on : (highest : ℕ) (sights : List Sight) (one last : Sight)
    → begins_within highest ((sights ++ one ∷ []) ++ last ∷ [])
    ≡ begins_within highest (sights ++ one ∷ [])
begins-on highest [] one last = refl
begins-on highest (sight ∷ sights) one last = refl

-- of one that goes on: none does with the boot at place 0, nor behind its first step
begins-next : (run : Run) (place : ℕ) (stretch : Stretch) (highest : ℕ)
    → (view_of run place).boundary ≡ false
    → stretch.place ≡ place - length (behind (view_of run) place)
    → (stretch.begins && nat_le stretch.level highest)
    ≡ begins_within highest (behind (view_of run) place)
    → ((stretch.begins
    || (place == stretch.place && is_instruction (step_at run place).kind))
    && nat_le stretch.level highest)
    ≡ begins_within highest (behind (view_of run) place ++ view_of run place ∷ [])
begins-next run zero stretch highest none begin begins =
    let boot : is_instruction (step_at run 0).kind ≡ false = rw (first-kind run) refl in
    rw (none, boot, unbegun stretch.begins _ (and_right (0 == stretch.place) false refl)) begins
begins-next run (suc before) stretch highest none begin begins =
    let sights : List Sight = kept_behind run before in
    let one : Sight = view_of run before in
    let earlier : stretch.place < suc before = omega (arith, begin, length_push sights one) in
    let later : (suc before == stretch.place) ≡ false =
    ne_eqb (suc before) stretch.place (λ same. omega (arith, same, earlier)) in
    rw (later, unbegun stretch.begins false refl)
    (begins ∙ sym (begins-on highest sights one (view_of run (suc before))))

-- what is kept of them, and whether an instruction began with them and the next
record KeepsBehind (watches : List Watch) (run : Run) (place : ℕ) (stretch : Stretch)
    : Type 0 where
  begin : stretch.place ≡ place - length (kept_behind run place)
  begins : (highest : ℕ)
      → ((stretch.begins
      || (place == stretch.place && is_instruction (step_at run place).kind))
      && nat_le stretch.level highest)
      ≡ begins_within highest (kept_behind run place ++ view_of run place ∷ [])
  first : stretch.first_hit ≡ hit_on Ahead (hits watches (kept_behind run place))
  last : stretch.last_hit ≡ hit_on Back (hits watches (kept_behind run place))
  refused : stretch.refused ≡ first_refused (kept_behind run place)

module _ (watches : List Watch) (run : Run) (place : ℕ) (before : place < most_steps)
    (was : Stretch)
    (known : ((sight_at run place).boundary ≡ true) ⊎ IsStretch watches run place was)
  where
    keeps-there : KeepsBehind watches run place (stretch_there run place was)
    unfolding step_sight
    keeps-there =
        let view : view_of run place ≡ sight_at run place =
        view-at run place (omega (arith, before)) in
        let kind : (view_of run place).next.kind ≡ (step_at run place).kind =
        ap (λ (step : StepSight). step.kind) (next-at run place before) in
        let same : (place == place) ≡ true = eq-eqb place place refl in
        by-boundary (sight_at run place).boundary known
        (λ here.
        rw here (record {
          begin = rw (view, here) (omega arith);
          begins = λ highest. rw (← kind, same, view, here) refl;
          first = rw (view, here) refl;
          last = rw (view, here) refl;
          refused = rw (view, here) refl;
        }))
        (λ none is.
        let goes_on : (view_of run place).boundary ≡ false = rw view none in
        let kept : behind (view_of run) place ≡ kept_behind run place = rw goes_on refl in
        rw none (record {
          begin = rw goes_on is.begin;
          begins = λ highest.
              begins-next run place was highest goes_on is.begin (is.begins highest)
              ∙ ap (λ (sights : List Sight).
              begins_within highest (sights ++ view_of run place ∷ [])) kept;
          first = rw goes_on is.first;
          last = rw goes_on is.last;
          refused = rw goes_on is.refused;
        }))

    -- with the step at its place
    pub stretch-next : IsStretch watches run (suc place)
        (stretch_past watches run place (stretch_there run place was))
    unfolding step_sight
    stretch-next =
        let sights : List Sight = kept_behind run place in
        let here : Sight = view_of run place in
        let next : step_sight run place ≡ here.next = sym (next-at run place before) in
        let hit : hits_of (seen_at run place) watches ≡ here.next.hits watches =
        ap (λ (step : StepSight). step.hits watches) next in
        let kind : (step_at run place).kind ≡ here.next.kind =
        ap (λ (step : StepSight). step.kind) next in
        let refused : (step_at run place).reset ≡ here.next.refused =
        ap (λ (step : StepSight). step.refused) next in
        let keeps = keeps-there in
        record {
          begin = omega (arith, keeps.begin, kept-few run place, length_push sights here);
          begins = keeps.begins;
          boot = rw kind (sym (boots-with sights here));
          first = rw (keeps.first, hit) (sym (first-with watches sights here));
          last = rw (keeps.last, hit) (sym (last-with watches sights here));
          refused = rw (keeps.refused, refused) (sym (refused-with sights here));
        }
