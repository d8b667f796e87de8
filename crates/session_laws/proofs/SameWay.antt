-- Where a debugger goes to in two views that are the same up to behind there.
use Rattle.std.{proofs.{Common.{◌≡◌, ◌<◌, ◌≤◌, ◌+◌, ◌-◌, ℕ, zero, suc, Bool, true, false, List, Option, Some, None, length, inl, inr, refl, ap, sym, subst, ◌∙◌, arith}, lemmas.Bool.{and_from, and_left, and_parts, cases_Bool, cases_lt, eqb-true, or_cases}}, specs.Prelude.{◌==◌, ◌&&◌, ◌||◌, if◌then◌else◌}}
use Rattle.device_types.specs.declared.rule.Rule.{Rule}
use Rattle.debug_session.{specs.{Request.most_steps, declared.{command.{Going.Going, Way.{Way, TheVariants.{Ahead, Back}}}, stop.Stop.{Stop, TheVariants.{Interrupted, Refused}}, watch.Hit.Hit}, Stops.Stops, Cause.{Seek, ahead, behind, sights_between, cause, cause_here, hit_on, hits, is_plain, refusal, steps_over, stop_of}, Going.{Standing, first_stop, interrupted, last_of, last_stop, lies_between, seek_of, standing_at, step_of, where_to}, Sight.{Sight, View}}, proofs.Between.{between-is, is-between}}
use Rattle.session_laws.{specs.DebuggerSecrecy.next_boundary, proofs.{Boundaries.{boundary-behind, boundary-later, reach-few, reach-within}, SameSights.{IsSameTo, boundary-same, cause-same}}}

standing-from : (place : ℕ) (found : Option Stop) (other : Standing) (at : ℕ)
    → at ≤ place → at ≤ other.place → at ≤ (standing_at place found other).place
standing-from place (Some stop) other at here there = here
standing-from place None other at here there = there

standing-either : (place : ℕ) (found : Option Stop) (one other : Standing)
    → (found ≡ None → one ≡ other) → standing_at place found one ≡ standing_at place found other
standing-either place (Some stop) one other same = refl
standing-either place None one other same = same refl

-- the first stop of two lists of causes that are the same up to there
pub stop-from : (causes : ℕ → Option Stop) (place left : ℕ)
    → place ≤ (first_stop causes place left).place
stop-from causes place zero = omega arith
stop-from causes place (suc left) =
    let later : suc place ≤ (first_stop causes (suc place) left).place =
    stop-from causes (suc place) left in
    standing-from (suc place) (causes (suc place)) (first_stop causes (suc place) left) place
    (omega arith) (omega (arith, later))

next-from : (causes : ℕ → Option Stop) (place left : ℕ)
    → suc place ≤ (first_stop causes place (suc left)).place
next-from causes place left =
    standing-from (suc place) (causes (suc place)) (first_stop causes (suc place) left)
    (suc place) (omega arith) (stop-from causes (suc place) left)

first-same : (one other : ℕ → Option Stop) (place left : ℕ)
    → ((at : ℕ) → place < at → at ≤ (first_stop one place left).place → one at ≡ other at)
    → first_stop one place left ≡ first_stop other place left
first-same one other place zero same = refl
first-same one other place (suc left) same =
    standing-either (suc place) (one (suc place)) (first_stop one (suc place) left)
    (first_stop other (suc place) left)
    (λ none. first-same one other (suc place) left
    (λ at after within. same at (omega (arith, after)) (rw none within)))
    ∙ ap
    (λ (found : Option Stop).
    standing_at (suc place) found (first_stop other (suc place) left))
    (same (suc place) (omega arith) (next-from one place left))

-- whose causes are the same before a place goes as far as there, if the other does
none-before : (place : ℕ) (found : Option Stop) (rest : Standing) (far : ℕ) → place < far
    → far ≤ (standing_at place found rest).place → (found ≡ None) × (far ≤ rest.place)
none-before place (Some stop) rest far before within = absurd (omega (arith, before, within))
none-before place None rest far before within = (refl, within)

as-far : (one other : ℕ → Option Stop) (place left far : ℕ)
    → ((at : ℕ) → place < at → at < far → one at ≡ other at)
    → far ≤ (first_stop one place left).place → far ≤ (first_stop other place left).place
as-far one other place zero far same within = within
as-far one other place (suc left) far same within =
    elim (cases_lt (suc place) far) [
      | inl past ↦
          let none = none-before (suc place) (one (suc place)) (first_stop one (suc place) left)
          far past within in
          let rest : far ≤ (first_stop other (suc place) left).place =
          as-far one other (suc place) left far
          (λ at after before. same at (omega (arith, after)) before) none.1 in
          let skipped : None ≡ other (suc place) =
          sym none.0 ∙ same (suc place) (omega arith) past in
          subst
          (λ (found : Option Stop).
          far ≤ (standing_at (suc place) found (first_stop other (suc place) left)).place)
          skipped rest
      | inr here ↦ omega (arith, here, next-from other place left)
    ]

-- the first stop has its cause there
standing-told : (causes : ℕ → Option Stop) (place : ℕ) (found : Option Stop) (rest : Standing)
    (rule : Rule) → causes place ≡ found
    → (rest.stop ≡ Refused rule → causes rest.place ≡ Some (Refused rule))
    → (standing_at place found rest).stop ≡ Refused rule
    → causes (standing_at place found rest).place ≡ Some (Refused rule)
standing-told causes place (Some stop) rest rule is later told =
    is ∙ ap (λ (one : Stop). Some one) told
standing-told causes place None rest rule is later told = later told

first-told : (causes : ℕ → Option Stop) (place left : ℕ) (rule : Rule)
    → (first_stop causes place left).stop ≡ Refused rule
    → causes (first_stop causes place left).place ≡ Some (Refused rule)
first-told causes place zero rule told = absurd (cc)
first-told causes place (suc left) rule told =
    standing-told causes (suc place) (causes (suc place)) (first_stop causes (suc place) left) rule
    refl (first-told causes (suc place) left rule) told

last-same : (one other : ℕ → Option Stop) (place : ℕ)
    → ((at : ℕ) → at < place → one at ≡ other at) → last_stop one place ≡ last_stop other place
last-same one other zero same = refl
last-same one other (suc zero) same = refl
last-same one other (suc (suc before)) same =
    λ i. standing_at (suc before) (same (suc before) (omega arith) i)
    (last-same one other (suc before) (λ at below. same at (omega (arith, below))) i)

-- a stop before a refusal has read of it ahead
rule_of : Option Stop → Option Rule
rule_of (Some (Refused rule)) = Some rule
rule_of other = None

stop-told : (hit : Option Hit) (plain stepped : Bool) (refused : Option Rule) (rule : Rule)
    → stop_of hit plain stepped refused ≡ Some (Refused rule) → refused ≡ Some rule
unfolding rule_of
stop-told (Some hit) plain stepped refused rule told = absurd (cc)
stop-told None true stepped refused rule told = absurd (cc)
stop-told None false true refused rule told = absurd (cc)
stop-told None false false (Some one) rule told = ap rule_of told
stop-told None false false None rule told = absurd (cc)

boundary-told : (test : Bool) (hit : Option Hit) (plain stepped : Bool) (refused : Option Rule)
    (rule : Rule)
    → (if test then stop_of hit plain stepped refused else None) ≡ Some (Refused rule)
    → refused ≡ Some rule
boundary-told true hit plain stepped refused rule told =
    stop-told hit plain stepped refused rule told
boundary-told false hit plain stepped refused rule told = absurd (cc)

cause-told : (stops : Stops) (seek : Seek) (place : ℕ) (here : Sight) (before after : List Sight)
    (rule : Rule) → cause_here stops seek place here before after ≡ Some (Refused rule)
    → refusal after ≡ Some rule
cause-told stops seek place here before after rule told =
    boundary-told here.boundary
    (hit_on seek.way (hits stops.watches (sights_between seek.way before after)))
    (is_plain stops here (place - length before) place)
    (steps_over seek.step here (sights_between seek.way before after)) (refusal after) rule told

cut-or : (test other : Bool) (cut one two : Standing) → (test ≡ true → other ≡ true)
    → (test ≡ false → (other ≡ false) × (one ≡ two))
    → (if test then cut else one) ≡ (if other then cut else two)
cut-or true other cut one two both neither =
    ap (λ (now : Bool). if now then cut else two) (sym (both refl))
cut-or false other cut one two both neither =
    (neither refl).1 ∙ ap (λ (now : Bool). if now then cut else two) (sym (neither refl).0)

module _ (last : ℕ) (left right : View) (same : IsSameTo last left right) (stops : Stops)
    (going : Going) (from : ℕ) (here : from ≤ last)
  where
    seek-same : (way : Way) → seek_of left way going from ≡ seek_of right way going from
    seek-same way =
        λ i. record {
          way = way;
          last = last_of way from;
          step = step_of going (ap (λ (sight : Sight). sight.level) (same.places from here) i);
        }

    abbrev causes : View → Way → ℕ → Option Stop
    causes view way = cause view stops (seek_of view way going from)

    causes-same : (way : Way) (at : ℕ)
        → at + length (ahead left at (last_of way from - at)) ≤ last
        → causes left way at ≡ causes right way at
    causes-same way at within =
        cause-same last left right same stops (seek_of left way going from) at within
        ∙ ap (λ (seek : Seek). cause right stops seek at) (seek-same way)

    abbrev went : View → Way → Standing
    went view way = where_to view stops way going from

    back-same : went left Back ≡ went right Back
    back-same =
        last-same (causes left Back) (causes right Back) from
        (λ at below. causes-same Back at
        (omega (arith, reach-few left at (from - at), below, here)))

    ahead-went : next_boundary left (went left Ahead).place ≤ last
        → went left Ahead ≡ went right Ahead
    ahead-went within =
        first-same (causes left Ahead) (causes right Ahead) from (most_steps - from)
        (λ at after before. causes-same Ahead at
        (omega (arith, boundary-later left at (went left Ahead).place before, within)))

    pub went-same : (way : Way) → next_boundary left (went left way).place ≤ last
        → went left way ≡ went right way
    went-same Ahead within = ahead-went within
    went-same Back within = back-same

    -- where an interrupt ends the way
    abbrev ends : View → ℕ → Bool
    ends view at = (view at).boundary || (at == from)

    ends-same : (at : ℕ) → at ≤ last → ends left at ≡ ends right at
    ends-same at within =
        ap (λ (test : Bool). test || (at == from)) (boundary-same last left right same at within)

    ahead-between : (at : ℕ) → at ≤ last
        → lies_between from (went left Ahead).place at ≡ true → (left at).boundary ≡ true
        → lies_between from (went right Ahead).place at ≡ true
    ahead-between at within near there =
        let both = between-is from (went left Ahead).place at near in
        let left_from : from ≤ (went left Ahead).place =
        stop-from (causes left Ahead) from (most_steps - from) in
        let right_from : from ≤ (went right Ahead).place =
        stop-from (causes right Ahead) from (most_steps - from) in
        let far : at ≤ (went right Ahead).place =
        as-far (causes left Ahead) (causes right Ahead) from (most_steps - from) at
        (λ one after before. causes-same Ahead one
        (omega (arith, reach-within left one (most_steps - one) at before there, within)))
        (omega (arith, both.1, left_from)) in
        is-between from (went right Ahead).place at
        (omega (arith, both.0, left_from, right_from)) (omega (arith, far))

    -- an interrupt that ends the way there ends it here
    between-same : (way : Way) (at : ℕ) → at ≤ last
        → lies_between from (went left way).place at ≡ true → ends left at ≡ true
        → lies_between from (went right way).place at ≡ true
    between-same Back at within near there =
        ap (λ (now : Standing). lies_between from now.place at) (sym back-same) ∙ near
    between-same Ahead at within near there =
        elim (or_cases (left at).boundary (at == from) there) [
          | inl boundary ↦ ahead-between at within near boundary
          | inr begun ↦
              let same_place : at ≡ from = eqb-true at from begun in
              is-between from (went right Ahead).place at (omega (arith, same_place))
              (omega (arith, same_place))
        ]

    not-between : (at : ℕ) (now : Standing) → last < at → now.place ≤ last
        → lies_between from now.place at ≡ false
    not-between at now past within =
        elim (cases_Bool (lies_between from now.place at)) [
          | inl near ↦
              absurd (omega (arith, (between-is from now.place at near).1, past, within, here))
          | inr far ↦ far
        ]

    uncut : (at : ℕ) (now : Standing) → now.place ≤ last
        → (lies_between from now.place at && ends left at) ≡ false
        → (lies_between from now.place at && ends right at) ≡ false
    uncut at now within none =
        elim (cases_lt last at) [
          | inl past ↦
              and_left (lies_between from now.place at) (ends right at)
              (not-between at now past within)
          | inr before ↦
              ap (λ (test : Bool). lies_between from now.place at && test)
              (sym (ends-same at before))
              ∙ none
        ]

    gone-cut : (test : Bool) (cut one : Standing) → test ≡ true
        → next_boundary left (if test then cut else one).place ≤ last
        → next_boundary left cut.place ≤ last
    gone-cut true cut one is within = within
    gone-cut false cut one is within = absurd (cc)

    gone-uncut : (test : Bool) (cut one : Standing) → test ≡ false
        → next_boundary left (if test then cut else one).place ≤ last
        → next_boundary left one.place ≤ last
    gone-uncut true cut one is within = absurd (cc)
    gone-uncut false cut one is within = within

    abbrev gone : View → Way → Option ℕ → Standing
    gone view way interrupt = interrupted view from interrupt (went view way)

    pub gone-same : (way : Way) (interrupt : Option ℕ)
        → next_boundary left (gone left way interrupt).place ≤ last
        → gone left way interrupt ≡ gone right way interrupt
    gone-same way None within = went-same way within
    gone-same way (Some at) within =
        let cut : Standing = record { place = at; stop = Interrupted } in
        let one : Standing = went left way in
        let test : Bool = lies_between from one.place at && ends left at in
        cut-or test (lies_between from (went right way).place at && ends right at) cut one
        (went right way)
        (λ is.
        let bound : next_boundary left at ≤ last = gone-cut test cut one is within in
        let before : at ≤ last = omega (arith, boundary-behind left at, bound) in
        let both = and_parts (lies_between from one.place at) (ends left at) is in
        and_from (lies_between from (went right way).place at) (ends right at)
        (between-same way at before both.0 both.1)
        (sym (ends-same at before) ∙ both.1))
        (λ no.
        let bound : next_boundary left one.place ≤ last = gone-uncut test cut one no within in
        let before : one.place ≤ last =
        omega (arith, boundary-behind left one.place, bound) in (
          ap (λ (now : Standing). lies_between from now.place at && ends right at)
              (sym (went-same way bound)) ∙ uncut at one before no,
          went-same way bound,
        ))

    -- who stops before a refusal has read of it
    abbrev TellsRefusal : Standing → Type 0
    TellsRefusal now =
        (rule : Rule) → now.stop ≡ Refused rule
        → refusal (ahead left now.place (most_steps - now.place)) ≡ Some rule

    cut-tells : (test : Bool) (at : ℕ) (one : Standing) → TellsRefusal one
        → TellsRefusal (if test then record { place = at; stop = Interrupted } else one)
    cut-tells true at one tells rule told = absurd (cc)
    cut-tells false at one tells rule told = tells rule told

    went-tells : TellsRefusal (went left Ahead)
    went-tells rule told =
        let now : Standing = went left Ahead in
        cause-told stops (seek_of left Ahead going from) now.place (left now.place)
        (behind left now.place) (ahead left now.place (most_steps - now.place)) rule
        (first-told (causes left Ahead) from (most_steps - from) rule told)

    pub gone-tells : (interrupt : Option ℕ) → TellsRefusal (gone left Ahead interrupt)
    gone-tells None = went-tells
    gone-tells (Some at) =
        cut-tells (lies_between from (went left Ahead).place at && ends left at) at
        (went left Ahead) went-tells
