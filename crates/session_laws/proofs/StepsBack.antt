-- A step is taken back by a step back.
use Rattle.std.{proofs.{Common.{◌≡◌, ◌≤◌, ◌<◌, ◌+◌, ◌-◌, ◌∙◌, ◌⊎◌, inl, ⊎_elim, ℕ, Bool, true, false, List, [], ◌∷◌, Option, Some, None, length, refl, ap, sym, subst, arith}, lemmas.Bool.{and_from, and_parts, and_right, cases_lt, false≢true, le-leb, le-ltb, not_from_false, or_cases, or_left, or_right}}, specs.Prelude.{◌&&◌, ◌||◌, nat_le, not, if◌then◌else◌}}
use Rattle.device_types.specs.{Kind.{is_cpu, is_rom}, declared.rule.Rule.Rule}
use Rattle.part_definitions.specs.CpuRegister.{pc_of}
use Rattle.debug_session.{specs.{Request.most_steps, declared.{command.Way.TheVariants.{Ahead, Back}, stop.Stop.{Stop, TheVariants.{End, Plain, Stepped}}, watch.Hit.Hit}, Stops.Stops, Watched.{first_hit, last_hit}, Cause.{Seek, Step, ahead, begins_within, behind, boots, cause, cause_here, hit_on, hits, is_plain, in_range, refusal, steps_over, stop_of}, Going.{Standing, seek_of, where_to}, Sight.{Sight, View}}, proofs.{Scans.{first-at, last-at}, Stretches.{HasBegin, ahead-behind, behind-first, has-begin}}}
use Rattle.debug_session.specs.declared.command.Going.TheVariants as going
use Rattle.session_laws.{specs.{FirstStop.HasStopped, StepBack.{HasStepped, IsTakenBack, MayStandAt}}, proofs.FirstStops.stops-first}

-- a cause to stop is at a boundary
pub at-boundary : (here : Bool) (cause : Option Stop) (stop : Stop)
    → (if here then cause else None) ≡ Some stop → (here ≡ true) × (cause ≡ Some stop)
at-boundary true cause stop is = (refl, is)
at-boundary false cause stop is = absurd (cc (is))

-- a step stops for no other cause
record IsStep (hit : Option Hit) (plain steps : Bool) : Type 0 where
  no_hit : hit ≡ None
  not_plain : plain ≡ false
  is_there : steps ≡ true

is-step : (hit : Option Hit) (plain steps : Bool) (rule : Option Rule)
    → stop_of hit plain steps rule ≡ Some Stepped → IsStep hit plain steps
is-step (Some hit) plain steps rule is = absurd (cc (is))
is-step None true steps rule is = absurd (cc (is))
is-step None false true rule is = record { no_hit = refl; not_plain = refl; is_there = refl }
is-step None false false None is = absurd (cc (is))
is-step None false false (Some rule) is = absurd (cc (is))

-- and where it would stop, a breakpoint alone goes before it
step-or-plain : (hit : Option Hit) (plain steps : Bool) (rule : Option Rule)
    → hit ≡ None → steps ≡ true
    → stop_of hit plain steps rule ≡ Some (if plain then Plain else Stepped)
step-or-plain None true steps rule none is = refl
step-or-plain None false true rule none is = refl
step-or-plain None false false rule none is = absurd (false≢true is)
step-or-plain (Some hit) plain steps rule none is = absurd (cc (none))

-- what is hit forwards is hit back
none-back : (hits : List Hit) → first_hit hits ≡ None → last_hit None hits ≡ None
none-back [] none = refl
none-back (hit ∷ hits) none = absurd (cc (none))

abbrev step_within : ℕ → Step
step_within highest = record { highest = highest; first = 0; end = 0 }

outside : (highest pc : ℕ) → in_range (step_within highest) pc ≡ false
outside highest pc = and_right (nat_le 0 pc) _ (le-ltb pc 0 (omega arith))

-- a step over this, of this level
over-parts : (highest : ℕ) (here : Sight) (between : List Sight)
    → steps_over (Some (step_within highest)) here between ≡ true
    → (boots between || begins_within highest between) ≡ true
over-parts highest here between is =
    (and_parts (boots between || begins_within highest between)
    (not (in_range (step_within highest) (pc_of here.registers))) is).0

over-from : (highest : ℕ) (here : Sight) (between : List Sight)
    → (boots between || begins_within highest between) ≡ true
    → steps_over (Some (step_within highest)) here between ≡ true
over-from highest here between is =
    and_from (boots between || begins_within highest between)
    (not (in_range (step_within highest) (pc_of here.registers))) is
    (not_from_false _ (outside highest (pc_of here.registers)))

last-of-three : (a b c d : Bool) → (a && b && c) ≡ true → d ≡ true → (a && b && d) ≡ true
last-of-three true true c d is last = last
last-of-three true false c d is last = is
last-of-three false b c d is last = is

-- an instruction is of its own level
begins-itself : (highest : ℕ) (sight : Sight) (later : List Sight)
    → begins_within highest (sight ∷ later) ≡ true
    → begins_within sight.level (sight ∷ later) ≡ true
begins-itself highest sight later is =
    last-of-three sight.boundary (is_cpu sight.next.kind || is_rom sight.next.kind)
    (nat_le sight.level highest) (nat_le sight.level sight.level) is
    (le-leb sight.level sight.level (omega arith))

no-cause : (view : View) (stops : Stops) (seek : Seek) (at : ℕ) → (view at).boundary ≡ false
    → cause view stops seek at ≡ None
no-cause view stops seek at none = rw none refl

-- a step that came to a place
module _ (view : View) (stops : Stops) (place until : ℕ)
    (late : 1 ≤ place) (after : place < until) (within : until ≤ most_steps)
    (from_here : (view place).boundary ≡ true)
    (is : cause view stops (seek_of view Ahead going.Step place) until ≡ Some Stepped)
    (left_none : (boots (behind view until) ≡ true)
    ⊎ (begins_within (view until).level (behind view until) ≡ true))
  where
    abbrev way : List Sight
    way = behind view until

    abbrev begun : HasBegin view until
    begun = has-begin view until (omega (arith, after))

    abbrev plain : Bool
    plain = is_plain stops (view until) (until - length way) until

    abbrev stepped : ℕ → Bool
    stepped highest = steps_over (Some (step_within highest)) (view until) way

    abbrev rule : Option Rule
    rule = refusal (ahead view until (most_steps - until))

    abbrev hit : Option Hit
    hit = hit_on Ahead (hits stops.watches way)

    met : ((view until).boundary ≡ true)
        × (stop_of hit plain (stepped (view place).level) rule ≡ Some Stepped)
    met =
        at-boundary (view until).boundary (stop_of hit plain (stepped (view place).level) rule)
        Stepped is

    step_is : IsStep hit plain (stepped (view place).level)
    step_is = is-step hit plain (stepped (view place).level) rule met.1

    not_before : place ≤ begun.from
    not_before =
        ⊎_elim
        (λ (less : begun.from < place).
        absurd (false≢true (sym (begun.none_since place less after) ∙ from_here)))
        (λ (over : place ≤ begun.from). over)
        (cases_lt begun.from place)

    begun_at : (view begun.from).boundary ≡ true
    begun_at =
        ⊎_elim
        (λ (first : begun.from ≡ 0). absurd (omega (arith, first, not_before, late)))
        (λ (here : (view begun.from).boundary ≡ true). here)
        begun.settled

    begins_itself : begins_within (view place).level way ≡ true
        → begins_within (view begun.from).level way ≡ true
    begins_itself begins =
        let first = behind-first view until begun in
        subst (λ (sights : List Sight). begins_within (view begun.from).level sights ≡ true)
        (sym first.1)
        (begins-itself (view place).level (view begun.from) first.0
        (subst (λ (sights : List Sight). begins_within (view place).level sights ≡ true) first.1
        begins))

    over_again : (boots way || begins_within (view begun.from).level way) ≡ true
    over_again =
        ⊎_elim
        (λ (booted : boots way ≡ true).
        or_left (boots way) (begins_within (view begun.from).level way) booted)
        (λ (begins : begins_within (view place).level way ≡ true).
        or_right (boots way) (begins_within (view begun.from).level way) (begins_itself begins))
        (or_cases (boots way) (begins_within (view place).level way)
        (over-parts (view place).level (view until) way step_is.is_there))

    over_back : (boots way || begins_within (view until).level way) ≡ true
    over_back =
        ⊎_elim
        (λ (booted : boots way ≡ true).
        or_left (boots way) (begins_within (view until).level way) booted)
        (λ (begins : begins_within (view until).level way ≡ true).
        or_right (boots way) (begins_within (view until).level way) begins)
        left_none

    abbrev seek_back : Seek
    seek_back = seek_of view Back going.Step until

    abbrev plain_there : Bool
    plain_there =
        is_plain stops (view begun.from) (begun.from - length (behind view begun.from)) begun.from

    abbrev back_stop : Stop
    back_stop = if plain_there then Plain else Stepped

    ahead_is : ahead view begun.from (until - begun.from) ≡ way
    ahead_is =
        let steps : until ≡ until - begun.from + begun.from = omega (arith, begun.earlier) in
        ahead-behind view begun.from until (until - begun.from) begun.earlier
        (omega (arith, begun.earlier)) begun.settled begun.none_since (inl steps)

    back_cause : cause view stops seek_back begun.from ≡ Some back_stop
    back_cause =
        let there : Sight = view begun.from in
        let before : List Sight = behind view begun.from in
        let over : Bool = steps_over (Some (step_within (view until).level)) there way in
        ap (λ (sights : List Sight). cause_here stops seek_back begun.from there before sights)
        ahead_is
        ∙ rw begun_at
        (step-or-plain (hit_on Back (hits stops.watches way)) plain_there over (refusal way)
        (none-back (hits stops.watches way) step_is.no_hit)
        (over-from (view until).level there way over_back))

    again_cause : cause view stops (seek_of view Ahead going.Step begun.from) until ≡ Some Stepped
    again_cause =
        rw met.0
        (step-or-plain hit plain (stepped (view begun.from).level) rule step_is.no_hit
        (over-from (view begun.from).level (view until) way over_again)
        ∙ ap (λ (one : Bool). Some (if one then Plain else Stepped)) step_is.not_plain)

    back_there : where_to view stops Back going.Step until
        ≡ record { place = begun.from; stop = back_stop }
    back_there =
        last-at (cause view stops seek_back) begun.from back_stop back_cause
        (omega (arith, late, not_before)) until begun.earlier
        (λ at past before. no-cause view stops seek_back at (begun.none_since at past before))

    again_here : where_to view stops Ahead going.Step begun.from
        ≡ record { place = until; stop = Stepped }
    again_here =
        let seek : Seek = seek_of view Ahead going.Step begun.from in
        first-at (cause view stops seek) until Stepped again_cause (most_steps - begun.from)
        begun.from begun.earlier (omega (arith, begun.earlier, within))
        (λ at past before. no-cause view stops seek at (begun.none_since at past before))

    step-back : (now : Standing) → now ≡ record { place = until; stop = Stepped }
        → IsTakenBack view stops place now (where_to view stops Back going.Step until)
    step-back now same =
        rw (same, back_there)
        (record {
          settled = begun_at;
          none_since = begun.none_since;
          not_before = not_before;
          before_now = begun.earlier;
          told = refl;
          again = again_here;
        })

pub taken-back : (view : View) (stops : Stops) (place : ℕ) → MayStandAt view place
    → HasStepped view place (where_to view stops Ahead going.Step place)
    → IsTakenBack view stops place (where_to view stops Ahead going.Step place)
    (where_to view stops Back going.Step (where_to view stops Ahead going.Step place).place)
taken-back view stops place may step =
    let now : Standing = where_to view stops Ahead going.Step place in
    let seek : Seek = seek_of view Ahead going.Step place in
    ⊎_elim
    (λ (stopped : HasStopped (cause view stops seek) (place + 1) most_steps now).
    step-back view stops place now.place may.behind_boot (omega (arith, stopped.from)) stopped.to
    step.from (stopped.why ∙ ap Some step.stop) step.left_none now
    (ap {B = Standing} (λ (one : Stop). record { place = now.place; stop = one }) step.stop))
    (λ (ended : (now ≡ record { place = most_steps; stop = End })
    × (place < most_steps → cause view stops seek most_steps ≡ None)).
    absurd (cc (sym step.stop ∙ ap (λ (one : Standing). one.stop) ended.0)))
    (stops-first view stops going.Step place may.within).stands
