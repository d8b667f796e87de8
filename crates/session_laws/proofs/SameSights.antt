-- Two views that are the same of so many steps: what is read of them there.
use Rattle.std.{proofs.Common.{◌≡◌, ◌<◌, ◌≤◌, ◌+◌, ◌-◌, ℕ, zero, suc, Bool, true, false, List, [], ◌∷◌, ◌++◌, Option, Some, None, length, min, refl, ap, sym, ◌∙◌, arith}, specs.Prelude.{◌==◌, is_some, if◌then◌else◌}}
use Rattle.device_types.specs.declared.rule.Rule.{Rule}
use Rattle.debug_link.specs.Console.{console}
use Rattle.debug_session.specs.{Stops.Stops, Cause.{Seek, Step, ahead, behind, sights_between, cause, cause_here, hit_on, hits, is_plain, refusal, refusal_or, steps_over, stop_of}, Monitor.texts_from, Place.no_step, Session.{refused_step, told_lines}, Shown.{bytes_or, bytes_shown, byte_and, memory_body}, Sight.{Sight, StepSight, View}}

-- what is shown at a place, without the step that is made there
abbrev pub still : Sight → Sight
still here = record here { next = no_step }

-- two views show the same of so many steps, and where these lead to
pub record IsSameTo (last : ℕ) (left right : View) : Type 0 where
  pub steps : (place : ℕ) → place < last → left place ≡ right place
  pub places : (place : ℕ) → place ≤ last → still (left place) ≡ still (right place)

pub turned : {last : ℕ} {left right : View} → IsSameTo last left right → IsSameTo last right left
turned same =
    record {
      steps = λ place before. sym (same.steps place before);
      places = λ place within. sym (same.places place within);
    }

pub joined : {last : ℕ} {left middle right : View} → IsSameTo last left middle
    → IsSameTo last middle right → IsSameTo last left right
joined one other =
    record {
      steps = λ place before. one.steps place before ∙ other.steps place before;
      places = λ place within. one.places place within ∙ other.places place within;
    }

-- what does not look at the step that is made there
bytes-still : (here : Sight) (at count : ℕ)
    → bytes_shown here at count ≡ bytes_shown (still here) at count
bytes-still here at zero = refl
bytes-still here at (suc count) = ap (byte_and (here.byte_at at)) (bytes-still here (suc at) count)

pub memory-still : (here : Sight) (first size : ℕ)
    → memory_body here first size ≡ memory_body (still here) first size
memory-still here first size =
    ap (λ (bytes : List ℕ). if size == 0 then [] else bytes_or (here.byte_at first) bytes)
    (bytes-still here first (min size 2048))

over-still : (step : Option Step) (here : Sight) (sights : List Sight)
    → steps_over step here sights ≡ steps_over step (still here) sights
over-still None here sights = refl
over-still (Some step) here sights = refl

cause-still : (stops : Stops) (seek : Seek) (place : ℕ) (here : Sight) (before after : List Sight)
    → cause_here stops seek place here before after
    ≡ cause_here stops seek place (still here) before after
cause-still stops seek place here before after =
    ap
    (λ (stepped : Bool).
    if here.boundary
    then stop_of (hit_on seek.way (hits stops.watches (sights_between seek.way before after)))
    (is_plain stops here (place - length before) place) stepped (refusal after)
    else None)
    (over-still seek.step here (sights_between seek.way before after))

-- where a test decides
unless-same : (test : Bool) (one other : List Sight) → (test ≡ false → one ≡ other)
    → (if test then [] else one) ≡ (if test then [] else other)
unless-same true one other same = refl
unless-same false one other same = same refl

within-unless : (test : Bool) (place last : ℕ) (sights : List Sight) → test ≡ false
    → place + suc (length (if test then [] else sights)) ≤ last
    → suc place + length sights ≤ last
within-unless true place last sights none within = absurd (cc)
within-unless false place last sights none within = omega (arith, within)

refused-unless : (refused : Option Rule) (place one other : ℕ) → (refused ≡ None → one ≡ other)
    → (if is_some refused then place else one) ≡ (if is_some refused then place else other)
refused-unless (Some rule) place one other same = refl
refused-unless None place one other same = same refl

refusal-later : (refused : Option Rule) (later : Option Rule) → refused ≡ None
    → refusal_or refused later ≡ later
refusal-later (Some rule) later none = absurd (cc)
refusal-later None later none = refl

refusal-unless : (test : Bool) (sights : List Sight) (rule : Rule)
    → refusal (if test then [] else sights) ≡ Some rule
    → (test ≡ false) × (refusal sights ≡ Some rule)
refusal-unless true sights rule told = absurd (cc)
refusal-unless false sights rule told = (refl, told)

module _ (last : ℕ) (left right : View) (same : IsSameTo last left right) where
  pub boundary-same : (place : ℕ) → place ≤ last
      → (left place).boundary ≡ (right place).boundary
  boundary-same place within = ap (λ (here : Sight). here.boundary) (same.places place within)

  behind-same : (place : ℕ) → place ≤ last → behind left place ≡ behind right place
  behind-same zero within = refl
  behind-same (suc before) within =
      let here : before ≤ last = omega (arith, within) in
      λ i. (if boundary-same before here i then [] else behind-same before here i)
      ++ same.steps before within i ∷ []

  ahead-same : (place steps : ℕ) → place + length (ahead left place steps) ≤ last
      → ahead left place steps ≡ ahead right place steps
  ahead-same place zero within = refl
  ahead-same place (suc steps) within =
      let before : place < last = omega (arith, within) in
      (λ i. same.steps place before i
      ∷ unless-same (left (suc place)).boundary (ahead left (suc place) steps)
      (ahead right (suc place) steps)
      (λ none. ahead-same (suc place) steps
      (within-unless (left (suc place)).boundary place last (ahead left (suc place) steps) none
      within))
      i)
      ∙ ap (λ (test : Bool). right place ∷ (if test then [] else ahead right (suc place) steps))
      (boundary-same (suc place) before)

  pub cause-same : (stops : Stops) (seek : Seek) (place : ℕ)
      → place + length (ahead left place (seek.last - place)) ≤ last
      → cause left stops seek place ≡ cause right stops seek place
  cause-same stops seek place within =
      let here : place ≤ last = omega (arith, within) in
      cause-still stops seek place (left place) (behind left place)
      (ahead left place (seek.last - place))
      ∙ ((λ i. cause_here stops seek place (same.places place here i) (behind-same place here i)
      (ahead-same place (seek.last - place) within i))
      ∙ sym (cause-still stops seek place (right place) (behind right place)
      (ahead right place (seek.last - place))))

  pub told-same : (place steps : ℕ) → place + steps ≤ last
      → told_lines left place steps ≡ told_lines right place steps
  told-same place zero within = refl
  told-same place (suc steps) within =
      let before : place < last = omega (arith, within) in
      let later : suc place + steps ≤ last = omega (arith, within) in
      λ i. console (same.steps place before i).next.lines ++ told-same (suc place) steps later i

  pub texts-same : (text : StepSight → List ℕ) (place steps : ℕ) → place + steps ≤ last
      → texts_from left text place steps ≡ texts_from right text place steps
  texts-same text place zero within = refl
  texts-same text place (suc steps) within =
      let before : place < last = omega (arith, within) in
      let later : suc place + steps ≤ last = omega (arith, within) in
      λ i. text (same.steps place before i).next ++ texts-same text (suc place) steps later i

  -- the refused step before the next boundary
  pub refused-same : (place steps : ℕ) (rule : Rule)
      → place + length (ahead left place steps) ≤ last
      → refusal (ahead left place steps) ≡ Some rule
      → refused_step left place steps ≡ refused_step right place steps
  refused-same place zero rule within told_lines = refl
  refused-same place (suc steps) rule within told_lines =
      let before : place < last = omega (arith, within) in
      let later : List Sight = ahead left (suc place) steps in
      let test : Bool = (left (suc place)).boundary in
      refused-unless (left place).next.refused place (refused_step left (suc place) steps)
      (refused_step right (suc place) steps)
      (λ none.
      let rest = refusal-unless test later rule
      (sym (refusal-later (left place).next.refused (refusal (if test then [] else later)) none)
      ∙ told_lines) in
      refused-same (suc place) steps rule (within-unless test place last later rest.0 within)
      rest.1)
      ∙ ap
      (λ (here : Sight).
      if is_some here.next.refused then place else refused_step right (suc place) steps)
      (same.steps place before)
