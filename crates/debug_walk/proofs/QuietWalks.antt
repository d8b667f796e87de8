-- A walk that makes a row of steps.
use Rattle.std.{proofs.{Common.{◌≡◌, ◌<◌, ◌≤◌, ◌+◌, ◌-◌, ◌∙◌, ◌⊎◌, ⊎_elim, inl, inr, ℕ, zero, suc, Bool, true, false, List, [], ◌∷◌, ◌++◌, Option, None, Some, length, refl, ap, sym, subst, arith}, lemmas.{Bool.{cond_both, eqb-false, eqb-true, or_parts, Decides.nat_tests}, List.length_push}}, specs.Prelude.{◌==◌, ◌&&◌, ◌||◌, is_some}}
use Rattle.device_types.specs.TraceFlag.{Flag}
use Rattle.hmac_core.specs.Hash.{Hash}
use Rattle.trace_facts.proofs.ExecFlag.{none_there}
use Rattle.play_script.specs.declared.playback.Playback.{Playback}
use Rattle.device_core.specs.{Device.{machine_of, steps_made}, Quiet.Question, declared.live.Live.Live}
use Rattle.device_play.specs.Midway.{HasGoneOn}
use Rattle.debug_session.{specs.{Request.most_steps, declared.{command.Way.TheVariants.Ahead, watch.Hit.Hit}, Cause.{behind, hit_on, hits, is_broken_at, is_due}, Place.{Run, aux_at, exec_at, sight_at, step_sight, view_of}, Sight.{Sight, StepSight}, Stops.Stops, Watched.first_hit}, proofs.Views.next-at}
use Rattle.debug_walk.{specs.{Passing.{ArePassed, AreSilent, IsCapped, IsPassed, goes_over}, Stretch.{has_cause, stretch_from, stretch_of_last}, Walk.{TellsCause, stretch_behind, stretch_past, stretch_there, IsStretch}, declared.stretch.Stretch.Stretch}, proofs.{QuietPlaces.{GoesBy, flags-next, goes-by, unbroken-at}, StretchSteps.{behind-few, hits-with, kept_behind, stretch-next}, TellsSteps.{KeepsTelling, begin_at, stretch-asleep, tells-over, tells-past, tells-there}}}

-- from a place on, from each place to the next
module _ (Holds : ℕ → Type 0) (place end : ℕ) (first : Holds place)
    (next : (at : ℕ) → place ≤ at → suc at < end → Holds at → Holds (suc at))
  where
    along-steps : (steps : ℕ) → steps + place < end → Holds (steps + place)
    along-steps zero few =
        let same : place ≡ zero + place = omega arith in subst Holds same first
    along-steps (suc steps) few =
        let same : suc (steps + place) ≡ suc steps + place = omega arith in
        subst Holds same
        (next (steps + place) (omega arith) (omega (arith, few))
        (along-steps steps (omega (arith, few))))

    along : (at : ℕ) → place ≤ at → at < end → Holds at
    along at from few =
        let same : at - place + place ≡ at = omega (arith, from) in
        subst Holds same (along-steps (at - place) (omega (arith, from, few)))

first-of-none : (made : List Hit) → first_hit made ≡ None → made ≡ []
first-of-none [] none = refl
first-of-none (hit ∷ made) none = absurd (cc (none))

begin-later : (run : Run) (place : ℕ) → begin_at run place ≤ begin_at run (suc place)
begin-later run place =
    cond_both (view_of run place).boundary [] (behind (view_of run) place)
    (λ kept. begin_at run place ≤ suc place - length (kept ++ view_of run place ∷ []))
    (λ here. omega (arith, behind-few run place))
    (λ none. omega (arith, length_push (behind (view_of run) place) (view_of run place)))

-- A number of steps that a row does not go past, from where a stretch begins.

capped-later : (until : Option ℕ) (begin later limit : ℕ)
    → begin ≤ later → IsCapped until begin limit → IsCapped until later limit
capped-later None begin later limit less capped = tt
capped-later (Some number) begin later limit less (inl reached) = inl (omega (arith, reached, less))
capped-later (Some number) begin later limit less (inr within) = inr within

-- it is not reached in the row, and at its end it is whichever stretch is meant
undue : (until : Option ℕ) (begin place limit : ℕ)
    → IsCapped until begin limit → place < limit → is_due until begin place ≡ false
undue None begin place limit capped before = refl
undue (Some number) begin place limit (inl reached) before = grind (arith, nat_tests, reached)
undue (Some number) begin place limit (inr within) before =
    grind (arith, nat_tests, within, before)

due-alike : (until : Option ℕ) (one other place limit : ℕ)
    → IsCapped until one limit → IsCapped until other limit
    → one < place → other < place → place ≤ limit
    → is_due until one place ≡ is_due until other place
due-alike None one other place limit capped also earlier before ends = refl
due-alike (Some number) one other place limit capped also earlier before ends =
    grind (arith, nat_tests, capped, also, earlier, before, ends)

-- one that was reached before, and was not due, was reached before each stretch
begin-capped : (until : Option ℕ) (one other place limit : ℕ)
    → IsCapped until place limit → is_due until one place ≡ false
    → is_due until one (suc place) ≡ is_due until other (suc place)
    → IsCapped until other limit
begin-capped None one other place limit capped none due = tt
begin-capped (Some number) one other place limit (inr within) none due = inr within
begin-capped (Some number) one other place limit (inl reached) none due =
    inl (grind (arith, nat_tests, reached, none, due))

plain-by : (boundary broken due : Bool)
    → (boundary ≡ true → broken ≡ false) → due ≡ false
    → (boundary && (broken || due)) ≡ false
plain-by true broken due unbroken undue = rw (unbroken refl, undue) refl
plain-by false broken due unbroken undue = refl

-- what holds within a row of more than one step: nothing is hit since the last boundary
record IsUnmet (stops : Stops) (asleep : Bool) (run : Run) (level limit place : ℕ) : Type 0 where
  unhit : hits stops.watches (kept_behind run place) ≡ []
  capped : IsCapped stops.until (begin_at run (suc place)) limit
  sleeps : asleep ≡ true
      → ((sight_at run place).boundary ≡ true) × ((sight_at run place).level ≡ level)

module _ {D G : Type 0} {hash : Hash D} {flag : Flag G} {every_step : Bool} (run : Run)
    (place : ℕ) (live : Live D G) (playback : Playback)
  where
    -- before the last step of a row the flags are those where it began
    pub row-flags : (quiet : Question)
        → HasGoneOn hash flag every_step quiet run.start run.events_at place live playback
        → (last : ℕ) → steps_made live ≡ suc last → place ≤ last
        → (exec_at run place ≡ exec_at run last) × (aux_at run place ≡ aux_at run last)
    row-flags quiet gone last ends from = along
        (λ (at : ℕ). (exec_at run place ≡ exec_at run at) × (aux_at run place ≡ aux_at run at))
        place (steps_made live) (refl, refl)
        (λ at later before same.
        let (alone, is) = gone.quietly at later (omega (arith, before)) in
        let next = flags-next quiet run at alone is in
        (same.0 ∙ sym next.0, same.1 ∙ sym next.1))
        last from (omega (arith, ends))

    module _ (stops : Stops) (asleep : Bool)
        (gone : HasGoneOn hash flag every_step (goes_over stops asleep) run.start run.events_at
        place live playback)
        (within : steps_made live ≤ most_steps)
      where
        goes-on : (at : ℕ) → place ≤ at → at + 1 < steps_made live → GoesBy stops asleep run at
        goes-on at from before =
            let (alone, is) = gone.quietly at from before in
            goes-by stops asleep run at (omega (arith, before, within)) alone is

        pub row-silent : AreSilent run place (steps_made live - 1)
        row-silent = λ at from before. (goes-on at from (omega (arith, before))).silent

        goes-last : (last : ℕ) → steps_made live ≡ suc last
            → is_some (machine_of live).bus.last ≡ false → GoesBy stops asleep run last
        goes-last last ends none =
            let (alone, is) =
            gone.unkept last ends (none_there (machine_of live).bus.last none) in
            goes-by stops asleep run last (omega (arith, ends, within)) alone is

        module _ (limit : ℕ) (was : Stretch)
            (known : ((sight_at run place).boundary ≡ true) ⊎ TellsCause stops asleep run place was)
            (some : place < steps_made live) (limited : steps_made live ≤ limit)
            (capped : IsCapped stops.until place limit)
            (one : (has_cause (stretch_there run place was) stops.until place ≡ false)
            ⊎ (limit ≡ place + 1))
          where
            abbrev begun : Stretch
            begun = stretch_there run place was

            keeps : KeepsTelling stops asleep run place begun
            keeps = tells-there stops asleep run place was (omega (arith, some, within)) known

            unmet-first : place + 1 < steps_made live
                → IsUnmet stops asleep run begun.level limit place
            unmet-first more =
                let none : has_cause begun stops.until place ≡ false =
                ⊎_elim (λ none. none)
                (λ (alone : limit ≡ place + 1). absurd (omega (arith, alone, more, limited))) one in
                let parts =
                or_parts (is_some begun.first_hit) (is_due stops.until begun.place place) none in
                record {
                  unhit = first-of-none (hits stops.watches (kept_behind run place))
                      (sym keeps.first ∙ none_there begun.first_hit parts.0);
                  capped = begin-capped stops.until begun.place (begin_at run (suc place)) place
                      limit capped parts.1 keeps.due;
                  sleeps = λ sleeps.
                      let here = ((goes-on place (omega arith) more).sleeps sleeps).sleeps.from in
                      (here, rw here refl);
                }

            -- so nothing is hit up to the next place
            unmet-behind : (at : ℕ) → place ≤ at → suc at < steps_made live
                → IsUnmet stops asleep run begun.level limit at
                → hits stops.watches (behind (view_of run) (suc at)) ≡ []
            unfolding step_sight
            unmet-behind at from before is =
                let here : Sight = view_of run at in
                let unhit : here.next.hits stops.watches ≡ [] =
                ap (λ (step : StepSight). step.hits stops.watches)
                (next-at run at (omega (arith, before, within)))
                ∙ (goes-on at from (omega (arith, before))).unhit in
                hits-with stops.watches (kept_behind run at) here ∙ rw (is.unhit, unhit) refl

            unmet-next : (at : ℕ) → place ≤ at → suc at < steps_made live
                → IsUnmet stops asleep run begun.level limit at
                → IsUnmet stops asleep run begun.level limit (suc at)
            unmet-next at from before is =
                record {
                  unhit = cond_both (view_of run (suc at)).boundary []
                      (behind (view_of run) (suc at)) (λ kept. hits stops.watches kept ≡ [])
                      (λ here. refl) (λ none. unmet-behind at from before is);
                  capped = capped-later stops.until (begin_at run (suc at))
                      (begin_at run (suc (suc at))) limit (begin-later run (suc at)) is.capped;
                  sleeps = λ sleeps.
                      let on = (goes-on at from (omega (arith, before))).sleeps sleeps in
                      (on.sleeps.to, on.level ∙ (is.sleeps sleeps).1);
                }

            unmet : place + 1 < steps_made live → (at : ℕ) → place ≤ at → at < steps_made live
                → IsUnmet stops asleep run begun.level limit at
            unmet more =
                along (IsUnmet stops asleep run begun.level limit) place (steps_made live)
                (unmet-first more) unmet-next

            passed-next : (at : ℕ) → place ≤ at → suc at < steps_made live
                → IsPassed stops asleep run (suc at)
            passed-next at from before =
                let is = unmet (omega (arith, from, before)) at from (omega (arith, before)) in
                let there : Sight = sight_at run (suc at) in
                record {
                  met = unmet-behind at from before is;
                  plain = plain-by there.boundary (is_broken_at stops there)
                      (is_due stops.until (begin_at run (suc at)) (suc at))
                      (unbroken-at stops asleep run (suc at)
                      (gone.between (suc at) (omega (arith, from)) before))
                      (undue stops.until (begin_at run (suc at)) (suc at) limit is.capped
                      (omega (arith, before, limited)));
                  slept = λ sleeps earlier same.
                      let is : at ≡ earlier = omega (arith, same) in
                      rw is at
                      ((goes-on at from (omega (arith, before))).sleeps sleeps).sleeps;
                }

            pub row-passed : ArePassed stops asleep run place (steps_made live)
            row-passed = λ at from before.
                let same : suc (at - 1) ≡ at = omega (arith, from) in
                subst (IsPassed stops asleep run) same
                (passed-next (at - 1) (omega (arith, from)) (omega (arith, from, before)))

            -- what is kept before the last step tells of the steps behind it; asleep it is what is
            -- kept at a boundary
            abbrev KeepsLast : ℕ → Stretch → Type 0
            KeepsLast last stretch =
                KeepsTelling stops asleep run last stretch
                × (asleep ≡ true → stretch ≡ stretch_there run last was)

            keeps-later : (last : ℕ) → steps_made live ≡ suc last → place < last
                → KeepsLast last (stretch_from last begun.level)
            keeps-later last ends more =
                let is =
                unmet (omega (arith, more, ends)) last (omega (arith, more)) (omega (arith, ends))
                in
                let there : asleep ≡ true
                → stretch_there run last was ≡ stretch_from last begun.level =
                λ sleeps. rw ((is.sleeps sleeps).0, (is.sleeps sleeps).1) refl in (
                  record {
                    begun = omega arith;
                    first = sym (ap (hit_on Ahead) is.unhit);
                    due = due-alike stops.until last (begin_at run (suc last)) (suc last) limit
                        (capped-later stops.until place last limit (omega (arith, more)) capped)
                        is.capped (omega arith)
                        (omega (arith, length_push (kept_behind run last) (view_of run last)))
                        (omega (arith, ends, limited));
                    exact = λ sleeps.
                        subst (λ (stretch : Stretch). IsStretch stops.watches run (suc last)
                        (stretch_past stops.watches run last stretch)) (there sleeps)
                        (stretch-next stops.watches run last (omega (arith, ends, within)) was
                        (inl (is.sleeps sleeps).0));
                  },
                  λ sleeps. sym (there sleeps),
                )

            keeps-last : (last : ℕ) → steps_made live ≡ suc last
                → KeepsLast last (stretch_of_last begun place last)
            keeps-last last ends =
                cond_both (last == place) begun (stretch_from last begun.level) (KeepsLast last)
                (λ same.
                subst (λ (at : ℕ). KeepsLast at begun) (sym (eqb-true last place same))
                (keeps, λ sleeps. refl))
                (λ other.
                keeps-later last ends (omega (arith, eqb-false last place other, some, ends)))

            tells-last : (last : ℕ) → steps_made live ≡ suc last → (kept : Bool)
                → (kept ≡ false → GoesBy stops asleep run last)
                → TellsCause stops asleep run (suc last)
                (stretch_behind stops.watches run place begun last kept)
            tells-last last ends true by =
                tells-past stops asleep run last (stretch_of_last begun place last)
                (omega (arith, ends, within)) (keeps-last last ends).0
            tells-last last ends false by =
                let before : last < most_steps = omega (arith, ends, within) in
                let is = keeps-last last ends in
                tells-over stops asleep run last (stretch_of_last begun place last) before is.0
                (by refl)
                (λ sleeps.
                subst (IsStretch stops.watches run (suc last)) (sym (is.1 sleeps))
                (stretch-asleep stops asleep run last was before (by refl) sleeps))

            pub row-tells : (last : ℕ) → steps_made live ≡ suc last
                → TellsCause stops asleep run (suc last)
                (stretch_behind stops.watches run place begun last
                (is_some (machine_of live).bus.last))
            row-tells last ends =
                tells-last last ends (is_some (machine_of live).bus.last) (goes-last last ends)
