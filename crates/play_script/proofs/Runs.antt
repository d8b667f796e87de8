-- Lemmas on runs of events of one step.
use Rattle.std.{proofs.{Common.{◌≡◌, ℕ, zero, suc, ◌+◌, ◌-◌, ◌<◌, ◌≤◌, List, [], ◌∷◌, ◌++◌, length, length-append, replicate, take, drop, get_or, set, refl, sym, ◌∙◌, ap, subst, arith, All, ⊎_elim}, lemmas.{Bool.cases_lt, Grind.{replicate_next}, List.{append_assoc, get_or_append_left, get_or-append-add, get_or-replicate, length-drop, length-replicate, take-append-drop, Elements.{All-append, All-cons, All-head, All-nil, All-replicate, All-tail}, Quantifiers.all_pairs_push, Sums.{sum_by-append, sum_by-cons}}}}, specs.List.Sorted.IsNonDecreasingBy}
use Rattle.device_types.specs.declared.event.Event.{Event}
use Rattle.play_script.specs.{Runs.{AreRunsOf, Ascend, count_in, steps_in}, declared.step_events.StepEvents.StepEvents}

-- each event has its step
pub length-steps : (runs : List StepEvents) → length (steps_in runs) ≡ count_in runs
length-steps [] = refl
length-steps (run ∷ runs) =
    omega (
      arith,
      length-append (replicate run.count run.step) (steps_in runs),
      length-replicate run.count run.step,
      length-steps runs,
      sum_by-cons (λ (each : StepEvents). each.count) run runs,
    )

-- behind the first runs the others are of the events that are left
pub of-rest : (first rest : List StepEvents) (events : List Event)
    → AreRunsOf events (first ++ rest)
    → AreRunsOf (drop (count_in first) events) rest
of-rest first rest events are = record {
  counted =
      omega (
        arith,
        are.counted,
        sum_by-append (λ (run : StepEvents). run.count) first rest,
        length-drop (count_in first) events,
      );
  ascend = λ i j d order below.
      rw (← get_or-append-add first rest i d, ← get_or-append-add first rest j d)
      (are.ascend (length first + i) (length first + j) d (omega (arith, order))
      (omega (arith, below, length-append first rest)));
}

pub of-drop : (runs : List StepEvents) (events : List Event) (past : ℕ)
    → AreRunsOf events runs
    → AreRunsOf (drop (count_in (take past runs)) events) (drop past runs)
of-drop runs events past are =
    of-rest (take past runs) (drop past runs) events
    (subst (AreRunsOf events) (sym (take-append-drop past runs)) are)

pub count-one : (run : StepEvents) → count_in (run ∷ []) ≡ run.count
count-one run = omega arith

pub of-tail : (run : StepEvents) (runs : List StepEvents) (events : List Event)
    → AreRunsOf events (run ∷ runs)
    → AreRunsOf (drop run.count events) runs
of-tail run runs events are =
    rw (← count-one run) (of-rest (run ∷ []) runs events are)

pub later_than_first : (run : StepEvents) (runs : List StepEvents) → Ascend (run ∷ runs)
    → All (λ later. run.step < later.step) runs
later_than_first run runs ascend = λ k d below.
    ascend 0 (suc k) d (omega arith) (omega (arith, below))

-- in the order of the steps, as a search among them asks
pub ascend-by_step : (runs : List StepEvents) → Ascend runs
    → IsNonDecreasingBy (λ run. run.step) runs
ascend-by_step runs ascend = λ i j d order below.
    ⊎_elim
    (λ (before : i < j). omega (arith, ascend i j d before below))
    (λ (after : j ≤ i). let same : i ≡ j = omega (arith, order, after) in rw same (omega arith))
    (cases_lt i j)

-- what is so of each run's step is so of each event's, and the other way round
pub steps_from_runs : (P : ℕ → Type 0) (runs : List StepEvents) → All (λ run. P run.step) runs
    → All P (steps_in runs)
steps_from_runs P [] all = All-nil P
steps_from_runs P (run ∷ runs) all =
    All-append P (replicate run.count run.step) (steps_in runs)
    (All-replicate P run.count run.step (All-head (λ each. P each.step) run runs all))
    (steps_from_runs P runs (All-tail (λ each. P each.step) run runs all))

pub runs_from_steps : (P : ℕ → Type 0) (runs : List StepEvents) → All P (steps_in runs)
    → All (λ run. P run.step) runs
runs_from_steps P [] all = All-nil (λ run. P run.step)
runs_from_steps P (run ∷ runs) all =
    let steps = replicate run.count run.step in
    let size : length steps ≡ run.count = length-replicate run.count run.step in
    let more = length-append steps (steps_in runs) in
    All-cons (λ each. P each.step) run runs
    (subst P
    (get_or_append_left steps (steps_in runs) run.step 0 (omega (arith, size, run.some))
    ∙ get_or-replicate run.count 0 run.step run.step (omega (arith, run.some)))
    (all 0 run.step (omega (arith, size, more, run.some))))
    (runs_from_steps P runs (λ k d below.
    subst P (get_or-append-add steps (steps_in runs) k d)
    (all (length steps + k) d (omega (arith, more, below)))))

-- one more event, in the last run or behind it
pub steps-counted : (runs : List StepEvents) (i : ℕ) (last more : StepEvents) → suc i ≡ length runs
    → last ≡ get_or runs i last
    → more.step ≡ last.step
    → more.count ≡ last.count + 1
    → steps_in (set runs i more) ≡ steps_in runs ++ last.step ∷ []
steps-counted [] i last more size is step count = absurd (omega (arith, size))
steps-counted (run ∷ []) zero last more size is step count =
    rw (step, count, ← is, replicate_next last.count last.step)
    (append_assoc (replicate last.count last.step) (last.step ∷ []) []
    ∙ sym (append_assoc (replicate last.count last.step) [] (last.step ∷ [])))
steps-counted (run ∷ []) (suc i) last more size is step count = absurd (omega (arith, size))
steps-counted (run ∷ next ∷ runs) zero last more size is step count = absurd (omega (arith, size))
steps-counted (run ∷ next ∷ runs) (suc i) last more size is step count =
    ap (λ steps. replicate run.count run.step ++ steps)
    (steps-counted (next ∷ runs) i last more (omega (arith, size)) is step count)
    ∙ sym (append_assoc (replicate run.count run.step) (steps_in (next ∷ runs)) (last.step ∷ []))

pub ascend-push : (runs : List StepEvents) (more : StepEvents) → Ascend runs
    → ((d : StepEvents) → 0 < length runs → (get_or runs (length runs - 1) d).step < more.step)
    → Ascend (runs ++ more ∷ [])
ascend-push runs more ascend last =
    all_pairs_push (λ (earlier : StepEvents) (later : StepEvents). earlier.step < later.step) runs
    more ascend (λ k d below.
    let before = last d (omega (arith, below)) in
    ⊎_elim
    (λ (earlier : k < length runs - 1).
    omega (arith, before, ascend k (length runs - 1) d earlier (omega (arith, below))))
    (λ (after : length runs - 1 ≤ k).
    let same : k ≡ length runs - 1 = omega (arith, below, after) in rw same before)
    (cases_lt k (length runs - 1)))
