-- Count and flag of a timer before its count comes to 0 again.
use Rattle.std.{proofs.{Common.{◌≡◌, ◌<◌, ◌≤◌, ◌+◌, ◌-◌, ◌==◌, ℕ, zero, suc, Bool, List, ◌∷◌, true, false, min, if◌then◌else◌, arith, ◌∙◌, refl, sym, ap, ◌%◌, ◌&&◌, ◌||◌, add-one}, lemmas.Bool.{eqb-true, Decides.nat_tests}, Math.Nat.{mod-eq_of_lt, suc-mod, mod_self}}, specs.List.list_any}
use Rattle.word_arith.specs.Number.{bit_of}
use Rattle.part_definitions.specs.Timer.{TimerEvent, Tick, timer_runs, timer_writes, timer_count, timer_compare, timer_flag, timer_requests, timer_control, steps_of_count, timer_period, ends_period, distances}
use Rattle.device_peripherals.specs.Timer.{with_ticks, ticks_before_zero}

-- Remainders of a number and of the next.

suc-mod_within : (n period : ℕ) → n % period + 1 < period → suc n % period ≡ n % period + 1
suc-mod_within n period within = grind (arith, suc-mod, mod-eq_of_lt)

suc-mod_over : (n period : ℕ) → n % period + 1 ≡ period → suc n % period ≡ 0
suc-mod_over n period over =
    let same : suc (n % period) ≡ period = sym (add-one (n % period)) ∙ over in
    suc-mod n period ∙ ap (λ m. m % period) same ∙ mod_self period

-- a step more stays within the period
pub mod_within : (steps period : ℕ) → 0 < steps → (steps - 1) % period + 1 < period
    → steps % period ≡ (steps - 1) % period + 1
mod_within steps period some within = grind (arith, suc-mod_within)

-- a step more ends the period
pub mod_over : (steps period : ℕ) → 0 < steps → (steps - 1) % period + 1 ≡ period
    → steps % period ≡ 0
mod_over steps period some over = grind (arith, suc-mod_over)

-- Count and flag of a timer that runs, after one step more.

-- the count is the remainder of the distance
timer_count-running : (events : List TimerEvent) → timer_runs events ≡ true
    → timer_count events ≡ (steps_of_count events - 1) % (timer_compare events + 1)
timer_count-running events runs = grind arith

-- after a step more the distance is the steps so far
timer_count-ticked : (events : List TimerEvent) → timer_runs events ≡ true
    → timer_count (Tick ∷ events) ≡ steps_of_count events % (timer_compare events + 1)
timer_count-ticked events runs = grind arith

pub timer_count_within : (events : List TimerEvent) → timer_runs events ≡ true
    → 0 < steps_of_count events → timer_count events < timer_compare events
    → timer_count (Tick ∷ events) ≡ timer_count events + 1
timer_count_within events runs some below =
    grind (arith, timer_count-running, timer_count-ticked, mod_within)

pub timer_count_over : (events : List TimerEvent) → timer_runs events ≡ true
    → 0 < steps_of_count events → timer_compare events ≤ timer_count events
    → timer_count (Tick ∷ events) ≡ 0
timer_count_over events runs some past =
    grind (arith, timer_count-running, timer_count-ticked, mod_over)

-- the flag rises where a period ends at the steps so far
timer_flag-ticked : (events : List TimerEvent)
    → timer_flag (Tick ∷ events)
    ≡ (timer_runs events && (ends_period (timer_period events) (steps_of_count events)
    || list_any (ends_period (timer_period events)) (distances events)))
timer_flag-ticked events = grind arith

pub timer_flag_within : (events : List TimerEvent) → timer_runs events ≡ true
    → 0 < steps_of_count events → timer_count events < timer_compare events
    → timer_flag (Tick ∷ events) ≡ timer_flag events
timer_flag_within events runs some below =
    let next : timer_count (Tick ∷ events) ≡ timer_count events + 1 =
    timer_count_within events runs some below in
    let count : timer_count (Tick ∷ events) ≡ steps_of_count events % (timer_compare events + 1) =
    timer_count-ticked events runs in
    timer_flag-ticked events ∙ grind (arith, nat_tests)

pub timer_flag_over : (events : List TimerEvent) → timer_runs events ≡ true
    → 0 < steps_of_count events → timer_compare events ≤ timer_count events
    → timer_flag (Tick ∷ events) ≡ true
timer_flag_over events runs some past =
    grind (arith, nat_tests, timer_count_over, timer_count-ticked, timer_flag-ticked)

-- a step more of a timer that runs: the count goes on, or a period ends and the flag rises
pub ruleset tick_facts = (timer_count_within, timer_count_over, timer_flag_within, timer_flag_over)

pub ticks-writes : (steps : ℕ) (events : List TimerEvent)
    → timer_writes (with_ticks steps events) ≡ timer_writes events
ticks-writes zero events = refl
ticks-writes (suc steps) events = ticks-writes steps events

pub ticks-steps : (steps : ℕ) (events : List TimerEvent)
    → steps_of_count (with_ticks steps events) ≡ steps_of_count events + steps
ticks-steps zero events = omega arith
ticks-steps (suc steps) events = let before = ticks-steps steps events in omega arith

ticks-control : (steps : ℕ) (events : List TimerEvent)
    → timer_control (with_ticks steps events) ≡ timer_control events
ticks-control steps events = rw (ticks-writes steps events) refl

ticks-runs : (steps : ℕ) (events : List TimerEvent)
    → timer_runs (with_ticks steps events) ≡ timer_runs events
ticks-runs steps events = rw (ticks-writes steps events) refl

ticks-compare : (steps : ℕ) (events : List TimerEvent)
    → timer_compare (with_ticks steps events) ≡ timer_compare events
ticks-compare steps events = rw (ticks-writes steps events) refl

one-earlier : (steps : ℕ) (events : List TimerEvent)
    → with_ticks (suc steps) events ≡ with_ticks steps (Tick ∷ events)
one-earlier zero events = refl
one-earlier (suc steps) events = ap (λ before. Tick ∷ before) (one-earlier steps events)

-- after so many steps more the count has gone on by them, and the flag is as it was
pub record GoesOn (events : List TimerEvent) (steps count : ℕ) : Type 0 where
  pub same_flag : timer_flag (with_ticks steps events) ≡ timer_flag events
  pub same_count : timer_count (with_ticks steps events) ≡ count

-- where a step of the count has ended
counts-on : (steps : ℕ) (events : List TimerEvent) → timer_runs events ≡ true
    → 0 < steps_of_count events → timer_count events + steps ≤ timer_compare events
    → GoesOn events steps (timer_count events + steps)
counts-on zero events runs some below =
    record { same_flag = refl; same_count = omega arith }
counts-on (suc steps) events runs some below =
    let before = counts-on steps events runs some (omega arith) in
    let here = with_ticks steps events in
    let goes : timer_runs here ≡ true = ticks-runs steps events ∙ runs in
    let ended : 0 < steps_of_count here = let all = ticks-steps steps events in omega arith in
    let least : timer_count here < timer_compare here =
    let same = ticks-compare steps events in omega (arith, before.same_count) in
    record {
      same_flag = timer_flag_within here goes ended least ∙ before.same_flag;
      same_count =
          let next = timer_count_within here goes ended least in omega (arith, before.same_count);
    }

-- the step of the write that began the count does not count
first-count : (events : List TimerEvent) → timer_runs events ≡ true → steps_of_count events ≡ 0
    → timer_count (Tick ∷ events) ≡ 0
first-count events runs fresh =
    rw (runs, fresh) (mod-eq_of_lt (omega arith))

fresh-count : (events : List TimerEvent) → timer_runs events ≡ true → steps_of_count events ≡ 0
    → timer_count events ≡ 0
fresh-count events runs fresh =
    rw (runs, fresh) (mod-eq_of_lt (omega arith))

first-flag : (events : List TimerEvent) → steps_of_count events ≡ 0
    → timer_flag (Tick ∷ events) ≡ timer_flag events
first-flag events fresh = rw fresh refl

counts-from-write : (steps : ℕ) (events : List TimerEvent) → timer_runs events ≡ true
    → steps_of_count events ≡ 0 → 0 < steps → steps ≤ timer_compare events
    → GoesOn events steps (steps - 1)
counts-from-write zero events runs fresh some below = absurd (omega arith)
counts-from-write (suc steps) events runs fresh some below =
    let first = first-count events runs fresh in
    let rest = counts-on steps (Tick ∷ events) runs (omega arith) (omega arith) in
    record {
      same_flag =
          ap timer_flag (one-earlier steps events) ∙ rest.same_flag ∙ first-flag events fresh;
      same_count =
          ap timer_count (one-earlier steps events) ∙ rest.same_count ∙ omega arith;
    }

some-steps : (steps : ℕ) → false ≡ (steps == 0) → 0 < steps
some-steps steps some = grind (arith, nat_tests)

pub ticked : (steps : ℕ) (events : List TimerEvent) (fresh : Bool) → timer_runs events ≡ true
    → fresh ≡ (steps_of_count events == 0)
    → 0 < steps → timer_count events + steps ≤ timer_compare events
    → GoesOn events steps (timer_count events + (steps - bit_of fresh))
ticked steps events true runs fresh some below =
    let none : steps_of_count events ≡ 0 = eqb-true (steps_of_count events) 0 (sym fresh) in
    let zero = fresh-count events runs none in
    let goes = counts-from-write steps events runs none some (omega arith) in
    record { same_flag = goes.same_flag; same_count = goes.same_count ∙ omega arith }
ticked steps events false runs fresh some below =
    let goes = counts-on steps events runs (some-steps (steps_of_count events) fresh) below in
    record { same_flag = goes.same_flag; same_count = goes.same_count ∙ omega arith }

-- a timer that is stopped
pub stopped : (steps : ℕ) (events : List TimerEvent) → timer_runs events ≡ false
    → GoesOn events steps (timer_count events)
stopped steps events stops =
    let still : timer_runs (with_ticks steps events) ≡ false = ticks-runs steps events ∙ stops in
    record { same_flag = rw (still, stops) refl; same_count = rw (still, stops) refl }

within-count : (steps most compare count : ℕ) (runs : Bool) → runs ≡ true → 0 < steps
    → steps ≤ (if runs then min most (compare - count) else most) → count + steps ≤ compare
within-count steps most compare count true is some few = omega arith
within-count steps most compare count false is some few = absurd cc

flag-before-zero : (most steps : ℕ) (events : List TimerEvent) (runs : Bool)
    → timer_runs events ≡ runs → steps ≤ ticks_before_zero most events
    → timer_flag (with_ticks steps events) ≡ timer_flag events
flag-before-zero most zero events runs is few = refl
flag-before-zero most (suc steps) events false is few = (stopped (suc steps) events is).same_flag
flag-before-zero most (suc steps) events true is few =
    let below =
    within-count (suc steps) most (timer_compare events) (timer_count events) (timer_runs events) is
    (omega arith) few in
    (ticked (suc steps) events (steps_of_count events == 0) is refl (omega arith) below).same_flag

-- in steps before the count comes to 0 again the request neither comes nor goes
pub requests-before-zero : (most steps : ℕ) (events : List TimerEvent)
    → steps ≤ ticks_before_zero most events
    → timer_requests (with_ticks steps events) ≡ timer_requests events
requests-before-zero most steps events few =
    let flag = flag-before-zero most steps events (timer_runs events) refl few in
    rw (flag, ticks-control steps events) refl
