-- What a walk looks at of a way, in pieces, is what going back looks for.
use Rattle.std.{proofs.{Common.{◌≡◌, ◌≤◌, ◌<◌, ◌+◌, ◌-◌, ◌∙◌, ◌⊎◌, inl, inr, ⊎_elim, ℕ, suc, Bool, true, false, List, [], ◌∷◌, ◌++◌, Option, Some, None, length, refl, ap, sym, arith, zero, is_some}, lemmas.Bool.{cases_lt, cond-true, cond-false, false≢true}}, specs.{Prelude.{◌&&◌, ◌||◌, IfSome, if◌then◌else◌, nat_le, not}, Option.option_or}}
use Rattle.device_types.specs.{declared.{kind.Kind.{Kind, TheVariants.Idle}, rule.Rule.Rule}, Kind.{is_boot, is_cpu, is_rom}}
use Rattle.part_definitions.specs.CpuRegister.{pc_of}
use Rattle.debug_session.{specs.{Request.most_steps, declared.{command.Way.TheVariants.{Back, Ahead}, stop.Stop.{Stop, TheVariants.Begin}}, Stops.Stops, Watched.last_hit, Cause.{Step, ahead, begins_within, behind, boots, cause, hit_on, hits, is_plain, in_range, refusal, refusal_or, steps_over, stop_of, cause_here, is_broken_at, is_due}, Going.last_stop, Place.{Run, view_of, sight_at}, Sight.{Sight, View}}, proofs.{Scans.{last-at, last-none}, Stretches.{ahead-behind, HasBegin, has-begin}, Views.view-at}}
use Rattle.debug_walk.{specs.{Passing.{IsSilent, Sleeps}, Walk.{IsStretch, TellsCause}, declared.stretch.Stretch.Stretch}, proofs.StretchSteps.told-refused}
use Rattle.device_debug.specs.{Ahead.{IsLastBehind, stop_with_place, seek_back}, Going.{cause_before, steps_by}}

-- the last place with a cause, of those behind a place and before another one
module _ (cause : ℕ → Option Stop) (begin : ℕ) where
  abbrev pub Covers : ℕ → Option (ℕ × Stop) → Type 0
  Covers until None = (at : ℕ) → begin < at → at < until → cause at ≡ None
  Covers until (Some found) =
      (begin < found.0) × (found.0 < until) × (cause found.0 ≡ Some found.1)
      × ((at : ℕ) → found.0 < at → at < until → cause at ≡ None)

  -- no cause further on
  pub covers-on : (until end : ℕ) (found : Option (ℕ × Stop)) → until ≤ end
      → ((at : ℕ) → begin < at → until ≤ at → at < end → cause at ≡ None)
      → Covers until found → Covers end found
  covers-on until end None later none covers =
      λ at past before. ⊎_elim (λ (less : at < until). covers at past less)
      (λ (over : until ≤ at). none at past over before) (cases_lt at until)
  covers-on until end (Some found) later none covers = (
    covers.0,
    omega (arith, covers.1, later),
    covers.2,
    λ at past before. ⊎_elim (λ (less : at < until). covers.3 at past less)
        (λ (over : until ≤ at). none at (omega (arith, past, covers.0)) over before)
        (cases_lt at until),
  )

  -- and one place more
  pub covers-here : (here : ℕ) (stop : Option Stop) (found : Option (ℕ × Stop)) → begin < here
      → cause here ≡ stop → Covers here found
      → Covers (suc here) (option_or (stop_with_place here stop) found)
  covers-here here (Some stop) found past is covers =
      (past, omega arith, is, λ at after before. absurd (omega (arith, after, before)))
  covers-here here None found past is covers =
      covers-on here (suc here) found (omega arith)
      (λ at after over before. let same : at ≡ here = omega (arith, over, before) in rw same is)
      covers

  pub covers-all : (until last : ℕ) (found : Option (ℕ × Stop)) → last < until
      → IfSome found (λ one. one.0 ≤ last) → Covers until found
      → IsLastBehind cause begin last found
  covers-all until last None past early covers =
      λ at after within. covers at after (omega (arith, within, past))
  covers-all until last (Some found) past early covers = (
    covers.0,
    early,
    covers.2,
    λ at after within. covers.3 at after (omega (arith, within, past)),
  )

pub early-here : (last here : ℕ) (past : Bool) (stop : Option Stop) (found : Option (ℕ × Stop))
    → here ≤ last → IfSome found (λ one. one.0 ≤ last)
    → IfSome (if past then option_or (stop_with_place here stop) found else found)
    (λ one. one.0 ≤ last)
early-here last here true (Some stop) found within early = within
early-here last here true None found within early = early
early-here last here false stop found within early = early

-- where the processor sleeps from a boundary to the next there is none
none-of : (one other : Bool) → (one && false && other) ≡ false
none-of true other = refl
none-of false other = refl

begins-none : (highest : ℕ) (here : Sight) → here.next.kind ≡ Idle
    → begins_within highest (here ∷ []) ≡ false
begins-none highest here idle =
    ap (λ (kind : Kind).
    here.boundary && (is_cpu kind || is_rom kind) && nat_le here.level highest) idle
    ∙ none-of (here.boundary) (nat_le here.level highest)

pub idle-over : (one : Option Step) (here sight : Sight) → sight.next.kind ≡ Idle
    → steps_over one here (sight ∷ []) ≡ false
idle-over None here sight idle = refl
idle-over (Some one) here sight idle =
    ap (λ (kind : Kind).
    (is_boot kind || begins_within one.highest (sight ∷ []))
    && not (in_range one (pc_of here.registers))) idle
    ∙ ap (λ (begins : Bool). begins && not (in_range one (pc_of here.registers)))
    (begins-none one.highest sight idle)

pub plain-none : (here plain : Bool) → (here && plain) ≡ false → here ≡ true → plain ≡ false
plain-none true plain none is = none
plain-none false plain none is = absurd (false≢true is)

module _ (run : Run) (stops : Stops) (step : Option Step) (from : ℕ) where
  abbrev pub view : View
  view = view_of run

  abbrev pub cause_back : ℕ → Option Stop
  cause_back = cause view stops (seek_back step from)

  abbrev pub plain_at : ℕ → Bool
  plain_at at = is_plain stops (view at) (at - length (behind view at)) at

  -- at a boundary, by what lies ahead of it
  abbrev cause_with : Sight → ℕ → List Sight → Option Stop
  cause_with here at after =
      stop_of (hit_on Back (hits stops.watches after)) (plain_at at) (steps_over step here after)
      (refusal after)

  cause-ahead : (at : ℕ) (after : List Sight) → (view at).boundary ≡ true
      → ahead view at (from - at) ≡ after → cause_back at ≡ cause_with (view at) at after
  cause-ahead at after here is =
      cond-true (view at).boundary (cause_with (view at) at (ahead view at (from - at))) None here
      ∙ ap (cause_with (view at) at) is

  pub no-boundary : (at : ℕ) → (view at).boundary ≡ false → cause_back at ≡ None
  no-boundary at none =
      cond-false (view at).boundary (cause_with (view at) at (ahead view at (from - at))) None none

  -- what is kept of a stretch is what a step goes over
  steps-same : (one : Option Step) (stretch : Stretch) (here : Sight) (between : List Sight)
      → ((highest : ℕ) → (stretch.begins && nat_le stretch.level highest)
      ≡ begins_within highest between)
      → stretch.boots ≡ boots between
      → steps_by one stretch (pc_of here.registers) ≡ steps_over one here between
  steps-same None stretch here between begins boot = refl
  steps-same (Some one) stretch here between begins boot =
      λ i. (boot i || begins one.highest i) && not (in_range one (pc_of here.registers))

  -- so the cause at a boundary is what was kept of the steps up to the next one
  pub cause-behind : (here until : ℕ) (stretch : Stretch) (plain : Bool)
      → (view here).boundary ≡ true → here < until → until ≤ from
      → ((at : ℕ) → here < at → at < until → (view at).boundary ≡ false)
      → (until ≡ from) ⊎ ((view until).boundary ≡ true)
      → plain ≡ plain_at here
      → IsStretch stops.watches run until stretch
      → cause_back here ≡ cause_before step stretch plain (pc_of (view here).registers)
  cause-behind here until stretch plain settled before within none ends is kept =
      let way : List Sight = behind view until in
      let count : from ≡ from - here + here = omega (arith, before, within) in
      let all : ahead view here (from - here) ≡ way =
      ahead-behind view here until (from - here) before (omega (arith, within, count))
      (inr settled) none
      (⊎_elim (λ (last : until ≡ from). inl (omega (arith, last, count)))
      (λ (end : (view until).boundary ≡ true). inr end) ends) in
      cause-ahead here way settled all
      ∙ sym (λ i. stop_of (kept.last i) (is i)
      (steps-same step stretch (view here) way kept.begins kept.boot i)
      ((ap (λ (rule : Option Rule). refusal_or rule None) kept.refused ∙ told-refused way) i))

  -- where the processor sleeps up to the next boundary there is none
  pub asleep-none : (at : ℕ) → at < from → from ≤ most_steps → Sleeps run at → IsSilent run at
      → hits stops.watches (behind view (suc at)) ≡ [] → plain_at at ≡ false
      → cause_back at ≡ None
  asleep-none at before within sleeps silent met plain =
      let here = view-at run at (omega (arith, before, within)) in
      let settled : (view at).boundary ≡ true = rw here sleeps.from in
      let ends : (view (suc at)).boundary ≡ true =
      rw (view-at run (suc at) (omega (arith, before, within))) sleeps.to in
      let idle : (view at).next.kind ≡ Idle = rw here sleeps.idle in
      let unrefused : (view at).next.refused ≡ None = rw here silent.unrefused in
      let alone : behind view (suc at) ≡ view at ∷ [] =
      ap (λ (sights : List Sight). sights ++ view at ∷ [])
      (cond-true (view at).boundary [] (behind view at) settled) in
      let unhit : hits stops.watches (view at ∷ []) ≡ [] =
      ap (hits stops.watches) (sym alone) ∙ met in
      let steps : ℕ = from - suc at in
      let count : from - at ≡ suc steps = omega (arith, before) in
      let all : ahead view at (from - at) ≡ view at ∷ [] =
      ap (ahead view at) count
      ∙ ap (λ (later : List Sight). view at ∷ later)
      (cond-true (view (suc at)).boundary [] (ahead view (suc at) steps) ends) in
      cause-ahead at (view at ∷ []) settled all
      ∙ (λ i. stop_of (last_hit None (unhit i)) (plain i)
      (idle-over step (view at) (view at) idle i) (refusal_or (unrefused i) None))

  -- the pieces of the way, joined
  abbrev pub NoneBehind : ℕ → Type 0
  NoneBehind last = (at : ℕ) → last < at → at < from → cause_back at ≡ None

  pub none-further : (begin last : ℕ) → IsLastBehind cause_back begin last None → NoneBehind last
      → NoneBehind begin
  none-further begin last piece none =
      λ at past before. ⊎_elim (λ (later : last < at). none at later before)
      (λ (within : at ≤ last). piece at past within) (cases_lt last at)

  pub found-last : (begin last : ℕ) (found : ℕ × Stop) → last < from
      → IsLastBehind cause_back begin last (Some found) → NoneBehind last
      → last_stop cause_back from ≡ record { place = found.0; stop = found.1 }
  found-last begin last found before piece none =
      last-at cause_back found.0 found.1 piece.2 (omega (arith, piece.0)) from
      (omega (arith, piece.1, before))
      (λ at past early. ⊎_elim (λ (later : last < at). none at later early)
      (λ (within : at ≤ last). piece.3 at past within) (cases_lt last at))

  pub found-none : NoneBehind 0 → last_stop cause_back from ≡ record { place = 1; stop = Begin }
  found-none none =
      last-none cause_back from (λ at late before. none at (omega (arith, late)) before)

-- What is kept of all steps of a stretch tells why to stop behind it.

begins-before : (run : Run) (place begin : ℕ)
    → begin ≡ place - length (behind (view_of run) place)
    → (begin ≡ 0) ⊎ (begin < place)
begins-before run zero begin is = inl (omega (arith, is))
begins-before run (suc before) begin is =
    let begun : HasBegin (view_of run) (suc before) =
    has-begin (view_of run) (suc before) (omega arith) in
    inr (omega (arith, is, begun.steps, begun.earlier))

pub exact-tells : (run : Run) (stops : Stops) (asleep : Bool) (place : ℕ) (stretch : Stretch)
    → IsStretch stops.watches run place stretch → TellsCause stops asleep run place stretch
exact-tells run stops asleep place stretch kept =
    record {
      begun = begins-before run place stretch.place kept.begin;
      first = kept.first;
      due = ap (λ (begin : ℕ). is_due stops.until begin place) kept.begin;
      exact = λ is. kept;
    }

-- where a step is looked for, what is kept says what it led over
steps-known : (run : Run) (stops : Stops) (step : Option Step) (place : ℕ) (stretch : Stretch)
    (here : Sight) → TellsCause stops (is_some step) run place stretch
    → steps_by step stretch (pc_of here.registers)
    ≡ steps_over step here (behind (view_of run) place)
steps-known run stops None place stretch here tells = refl
steps-known run stops (Some one) place stretch here tells =
    let kept = tells.exact refl in
    λ i. (kept.boot i || kept.begins one.highest i) && not (in_range one (pc_of here.registers))

pub cause-known : (run : Run) (stops : Stops) (step : Option Step) (place : ℕ) (stretch : Stretch)
    (broken : Bool) (pc : ℕ)
    → TellsCause stops (is_some step) run place stretch
    → (sight_at run place).boundary ≡ true
    → broken ≡ (is_broken_at stops (sight_at run place)
    || is_due stops.until stretch.place place)
    → pc ≡ pc_of (sight_at run place).registers
    → stop_of stretch.first_hit broken (steps_by step stretch pc) None
    ≡ cause_here stops (record { way = Ahead; last = place; step = step }) place
    (sight_at run place) (behind (view_of run) place) []
cause-known run stops step place stretch broken pc tells here broken_is pc_is =
    let sight : Sight = sight_at run place in
    let before : List Sight = behind (view_of run) place in
    (λ i. stop_of (tells.first i)
    ((broken_is ∙ ap (λ (due : Bool). is_broken_at stops sight || due) tells.due) i)
    ((ap (steps_by step stretch) pc_is
    ∙ steps-known run stops step place stretch sight tells) i) None)
    ∙ sym (cond-true sight.boundary
    (stop_of (hit_on Ahead (hits stops.watches before))
    (is_plain stops sight (place - length before) place) (steps_over step sight before) None)
    None here)

-- so does what is kept where a stretch begins
pub fresh-tells : (run : Run) (stops : Stops) (asleep : Bool) (place : ℕ) (stretch : Stretch)
    → ((sight_at run place).boundary ≡ true) ⊎ IsStretch stops.watches run place stretch
    → ((sight_at run place).boundary ≡ true) ⊎ TellsCause stops asleep run place stretch
fresh-tells run stops asleep place stretch (inl here) = inl here
fresh-tells run stops asleep place stretch (inr kept) =
    inr (exact-tells run stops asleep place stretch kept)
