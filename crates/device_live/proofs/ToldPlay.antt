-- What is told of steps, and the lines that `play` prints of the play up to them.
use Rattle.std.{proofs.{Common.{◌≡◌, ◌<◌, ◌≤◌, ◌+◌, ◌-◌, ◌∙◌, ◌++◌, ℕ, zero, suc, List, [], ◌∷◌, map, refl, ap, sym, arith, append_assoc}, lemmas.List.{append-nil, map-append, Elements.filter-append}}, specs.{List.filter, Prelude.nat_eq}}
use Rattle.device_types.specs.{Address.Bytes, declared.event.Event.Event}
use Rattle.play_script.{specs.{Grammar.timed_events, Script.{TimedEvent, events_of}}, proofs.Steps.events_of-other}
use Rattle.device_trace.specs.{Start.Start, Text.{lines_of, lines_of_step}, Trace.play_of}
use Rattle.device_live.specs.Life.{lines_since}

-- the lines of a play, and those of so many steps behind it, are those of the longer play
pub lines-on : (start : Start) (events_at : ℕ → List Event) (made more : ℕ)
    → lines_of start (play_of events_at made) ++ lines_since start events_at made more
    ≡ lines_of start (play_of events_at (more + made))
unfolding lines_of
lines-on start events_at made zero =
    let none : 0 + made ≡ made = omega arith in
    rw none (append-nil (lines_of start (play_of events_at made)))
lines-on start events_at made (suc more) =
    let step : Bytes =
    lines_of_step start (events_at (more + made)) (play_of events_at (more + made)) in
    let next : suc more + made ≡ suc (more + made) = omega arith in
    rw next
    (sym (append_assoc (lines_of start (play_of events_at made))
    (lines_since start events_at made more) step)
    ∙ ap (λ (text : Bytes). text ++ step) (lines-on start events_at made more))

-- so many steps are told in two parts as at once
since-cut : (start : Start) (events_at : ℕ → List Event) (made first second : ℕ)
    → lines_since start events_at made (second + first)
    ≡ lines_since start events_at made first ++ lines_since start events_at (first + made) second
since-cut start events_at made first zero =
    let none : 0 + first ≡ first = omega arith in
    rw none (sym (append-nil (lines_since start events_at made first)))
since-cut start events_at made first (suc second) =
    let line : ℕ → Bytes =
    λ place. lines_of_step start (events_at place) (play_of events_at place) in
    let same : (second + first) + made ≡ second + (first + made) = omega arith in
    let next : suc second + first ≡ suc (second + first) = omega arith in
    rw next
    (ap (λ (place : ℕ). lines_since start events_at made (second + first) ++ line place) same
    ∙ ap (λ (text : Bytes). text ++ line (second + (first + made)))
    (since-cut start events_at made first second)
    ∙ append_assoc (lines_since start events_at made first)
    (lines_since start events_at (first + made) second) (line (second + (first + made))))

pub since-between : (start : Start) (events_at : ℕ → List Event) (from between to : ℕ)
    → from ≤ between → between ≤ to
    → lines_since start events_at from (to - from)
    ≡ lines_since start events_at from (between - from)
    ++ lines_since start events_at between (to - between)
since-between start events_at from between to before after =
    let whole : to - from ≡ (to - between) + (between - from) =
    omega (arith, before, after) in
    let place : (between - from) + from ≡ between = omega (arith, before) in
    ap (λ (steps : ℕ). lines_since start events_at from steps) whole
    ∙ since-cut start events_at from (between - from) (to - between)
    ∙ ap (λ (at : ℕ). lines_since start events_at from (between - from)
    ++ lines_since start events_at at (to - between)) place

-- a play is of the events before its end alone
pub same-play : (one other : ℕ → List Event) (steps : ℕ)
    → ((step : ℕ) → step < steps → one step ≡ other step)
    → play_of one steps ≡ play_of other steps
same-play one other zero same = refl
same-play one other (suc steps) same =
    let earlier = same-play one other steps (λ step below. same step (omega (arith, below))) in
    let here = same steps (omega arith) in
    rw (earlier, here) refl

none-of : (at step : ℕ) (events : List Event) → (at ≡ step → ⊥)
    → events_of (timed_events (at, events)) step ≡ []
none-of at step [] other = refl
none-of at step (event ∷ events) other =
    events_of-other at event (timed_events (at, events)) step other
    ∙ none-of at step events other

pub events_of-append : (first second : List TimedEvent) (step : ℕ)
    → events_of (first ++ second) step ≡ events_of first step ++ events_of second step
events_of-append first second step =
    ap (λ (entries : List TimedEvent). map (λ entry. entry.1) entries)
    (filter-append (λ entry. nat_eq entry.0 step) first second)
    ∙ map-append (λ entry. entry.1) (filter (λ entry. nat_eq entry.0 step) first)
    (filter (λ entry. nat_eq entry.0 step) second)

-- what comes in a later step changes no earlier one
pub events-behind : (script : List TimedEvent) (at step : ℕ) (events : List Event) → step < at
    → events_of (script ++ timed_events (at, events)) step ≡ events_of script step
events-behind script at step events before =
    events_of-append script (timed_events (at, events)) step
    ∙ ap (λ (more : List Event). events_of script step ++ more)
    (none-of at step events (λ is. omega (arith, is, before)))
    ∙ append-nil (events_of script step)
