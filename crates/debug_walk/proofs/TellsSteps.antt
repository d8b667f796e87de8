-- What tells why to stop, with one step more.
use Rattle.std.{proofs.{Common.{◌≡◌, ◌<◌, ◌≤◌, ◌-◌, ◌∙◌, ◌⊎◌, inl, inr, ℕ, suc, Bool, true, List, Option, None, Some, length, refl, ap, sym, subst, arith, is_some}, lemmas.{Bool.{and_right, eq-eqb, Decides.nat_tests}, List.length_push}}, specs.Prelude.◌==◌}
use Rattle.device_types.specs.declared.kind.Kind.TheVariants.{Idle}
use Rattle.debug_session.{specs.{Request.most_steps, declared.{command.Way.TheVariants.Ahead, watch.Watch.Watch}, Cause.{behind, hit_on, hits, is_due}, Place.{Run, sight_at, step_at, step_sight, view_of}, Sight.{Sight, StepSight}, Stops.Stops, Watched.hits_of}, proofs.Views.{next-at, view-at}}
use Rattle.debug_walk.{specs.{Walk.{IsStretch, TellsCause, seen_at, stretch_past, stretch_there, stretch_behind}, declared.stretch.Stretch.Stretch}, proofs.{QuietPlaces.GoesBy, Places.next-there, StretchSteps.{behind-few, by-boundary, first-with, kept_behind, or-none, stretch-next}}}
use Rattle.device_core.specs.{Device.{HasStepped, machine_of}, declared.live.Live.Live}

-- where a stretch begins that ends at a place
abbrev pub begin_at : Run → ℕ → ℕ
begin_at run place = place - length (behind (view_of run) place)

-- what tells it of the steps behind a place, where the next step is one of them
pub record KeepsTelling (stops : Stops) (asleep : Bool) (run : Run) (place : ℕ) (stretch : Stretch)
    : Type 0 where
  pub begun : stretch.place ≤ place
  pub first : stretch.first_hit ≡ hit_on Ahead (hits stops.watches (kept_behind run place))
  pub due : is_due stops.until stretch.place (suc place)
      ≡ is_due stops.until (begin_at run (suc place)) (suc place)
  pub exact : asleep ≡ true
      → IsStretch stops.watches run (suc place) (stretch_past stops.watches run place stretch)

due-next : (until : Option ℕ) (one other later place : ℕ)
    → one ≤ place → other ≤ place → later ≡ other
    → is_due until one place ≡ is_due until other place
    → is_due until one (suc place) ≡ is_due until later (suc place)
due-next None one other later place few less is same = refl
due-next (Some number) one other later place few less is same =
    grind (arith, nat_tests, few, less, is, same)

pub tells-there : (stops : Stops) (asleep : Bool) (run : Run) (place : ℕ) (was : Stretch)
    → place < most_steps
    → ((sight_at run place).boundary ≡ true) ⊎ TellsCause stops asleep run place was
    → KeepsTelling stops asleep run place (stretch_there run place was)
tells-there stops asleep run place was before known =
    let view : view_of run place ≡ sight_at run place =
    view-at run place (omega (arith, before)) in
    by-boundary (sight_at run place).boundary known
    (λ here.
    let begin : place ≡ suc place - 1 = omega arith in
    record {
      begun = rw here (omega arith);
      first = rw (view, here) refl;
      due = rw (view, here) (ap (λ (begin : ℕ). is_due stops.until begin (suc place)) begin);
      exact = λ sleeps. stretch-next stops.watches run place before was (inl here);
    })
    (λ none tells.
    let kept : kept_behind run place ≡ behind (view_of run) place = rw (view, none) refl in
    let begin : begin_at run (suc place) ≡ begin_at run place =
    omega (
      arith,
      behind-few run place,
      length_push (kept_behind run place) (view_of run place),
      ap length kept,
    ) in
    record {
      begun = rw none (omega (arith, tells.begun));
      first = rw (view, none) tells.first;
      due = rw none
          (due-next stops.until was.place (begin_at run place) (begin_at run (suc place)) place
          (omega (arith, tells.begun)) (omega arith) begin tells.due);
      exact = λ sleeps.
          stretch-next stops.watches run place before was (inr (tells.exact sleeps));
    })

module _ (stops : Stops) (asleep : Bool) (run : Run) (place : ℕ) (stretch : Stretch)
    (before : place < most_steps) (keeps : KeepsTelling stops asleep run place stretch)
  where
    -- with the step at its place
    pub tells-past : TellsCause stops asleep run (suc place)
        (stretch_past stops.watches run place stretch)
    unfolding step_sight
    tells-past =
        let here : Sight = view_of run place in
        let hit : hits_of (seen_at run place) stops.watches ≡ here.next.hits stops.watches =
        sym (ap (λ (step : StepSight). step.hits stops.watches) (next-at run place before)) in
        record {
          begun = inr (omega (arith, keeps.begun));
          first = rw (keeps.first, hit)
              (sym (first-with stops.watches (kept_behind run place) here));
          due = keeps.due;
          exact = keeps.exact;
        }

    -- and where a row goes over it, without a look at it
    pub tells-over : GoesBy stops asleep run place
        → (asleep ≡ true → IsStretch stops.watches run (suc place) stretch)
        → TellsCause stops asleep run (suc place) stretch
    tells-over by exact =
        record {
          begun = tells-past.begun;
          first = sym (or-none stretch.first_hit) ∙ rw by.unhit at tells-past.first;
          due = tells-past.due;
          exact = exact;
        }

-- a step of sleep that hits nothing leaves what is kept as it is
pub stretch-asleep : (stops : Stops) (asleep : Bool) (run : Run) (place : ℕ) (was : Stretch)
    → place < most_steps → GoesBy stops asleep run place → asleep ≡ true
    → IsStretch stops.watches run (suc place) (stretch_there run place was)
unfolding step_sight
stretch-asleep stops asleep run place was before by sleeps =
    let here = (by.sleeps sleeps).sleeps in
    let next = next-there run place before in
    let idle : (step_at run place).kind ≡ Idle = rw next at here.idle in
    let unrefused : (step_at run place).reset ≡ None = rw next at by.silent.unrefused in
    let same : stretch_past stops.watches run place (stretch_there run place was)
    ≡ stretch_there run place was =
    rw (here.from, by.unhit, idle, unrefused, and_right (place == place) _ refl) refl in
    subst (IsStretch stops.watches run (suc place)) same
    (stretch-next stops.watches run place before was (inl here.from))

-- a row of one step, which is kept
pub kept-one : {D G : Type 0} (watches : List Watch) (run : Run) (place : ℕ) (there : Stretch)
    (live : Live D G)
    → HasStepped live
    → stretch_behind watches run place there place (is_some (machine_of live).bus.last)
    ≡ stretch_past watches run place there
kept-one watches run place there live kept = rw (kept, eq-eqb place place refl) refl
