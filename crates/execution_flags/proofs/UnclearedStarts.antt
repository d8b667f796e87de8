-- The flag is set exactly where there is an uncleared start: by induction on the records seen.
use Rattle.std.{proofs.{Common.{◌≡◌, ◌≤◌, ◌+◌, ◌||◌, ◌++◌, ℕ, Bool, true, false, not, List, [], ◌∷◌, Option, length, IsTrue, ◌↔◌, sym, ◌∙◌, ap, inl, inr, refl, arith, ◌==◌, ◌&&◌, if◌then◌else◌}, lemmas.Bool.{and_parts, or_cases, and_from, or_left, or_right, not-true, not_from_false, false_from_ne_true, both_ways}, Math.Bool.{and-true, and-false, or_comm}}, specs.List.list_any}
use Rattle.device_types.specs.{ExecFlag.{SeenRecord, starts_run, last_pc, is_set, is_opcode_fetch, records_since}, Bounds.are_valid}
use Rattle.execution_flags.specs.UnclearedStart.{Moment, UnclearedStart}

-- How a flag of a run changes at a record, whichever records clear it.

-- it is set where it was set before or the record starts a run, and the record does not clear it
pub uncleared_run-cons : (clears : Option ℕ → SeenRecord → Bool) (now : SeenRecord)
    (before : List SeenRecord)
    → is_set clears (now ∷ before)
    ≡ ((is_set clears before || starts_run now) && not (clears (last_pc before) now))
uncleared_run-cons clears now before =
    let was_set : Bool = is_set clears before in
    elim (clears (last_pc before) now) as
    (λ is_clear.
    list_any starts_run (if is_clear then [] else now ∷ records_since clears before)
    ≡ ((was_set || starts_run now) && not is_clear)) [
      | true ↦ sym (and-false (was_set || starts_run now))
      | false ↦ or_comm (starts_run now) was_set ∙ sym (and-true (was_set || starts_run now))
    ]

-- so it is of a flag of a run
pub flag-cons : {flag : List SeenRecord → Bool} (clears : Option ℕ → SeenRecord → Bool)
    → ((records : List SeenRecord) → flag records ≡ is_set clears records)
    → (now : SeenRecord) (before : List SeenRecord)
    → flag (now ∷ before) ≡ ((flag before || starts_run now) && not (clears (last_pc before) now))
flag-cons clears of_run now before =
    of_run (now ∷ before)
    ∙ uncleared_run-cons clears now before
    ∙ ap (λ was_set. (was_set || starts_run now) && not (clears (last_pc before) now))
    (sym (of_run before))

-- a record at another place than ERmin starts no run
pub starts_run-elsewhere : (now : SeenRecord)
    → (now.entry.pc == now.bounds.er_min) ≡ false → starts_run now ≡ false
starts_run-elsewhere now elsewhere =
    let fetches : Bool = is_opcode_fetch now.entry in
    let valid : Bool = are_valid now.bounds in
    ap (λ here. fetches && here && valid) elsewhere
    ∙ elim fetches as (λ fetches. (fetches && false && valid) ≡ false) [
      | true ↦ refl
      | false ↦ refl
    ]

-- a flag that is not set stays so at a record at another place than ERmin
pub flag-elsewhere : {flag : List SeenRecord → Bool} (clears : Option ℕ → SeenRecord → Bool)
    → ((records : List SeenRecord) → flag records ≡ is_set clears records)
    → (now : SeenRecord) (before : List SeenRecord)
    → flag before ≡ false
    → (now.entry.pc == now.bounds.er_min) ≡ false
    → flag (now ∷ before) ≡ false
flag-elsewhere clears of_run now before unset elsewhere =
    let keeps : Bool = not (clears (last_pc before) now) in
    flag-cons clears of_run now before
    ∙ ap (λ was_set. (was_set || starts_run now) && keeps) unset
    ∙ ap (λ starts. starts && keeps) (starts_run-elsewhere now elsewhere)

-- a flag that is set stays so at a record that does not clear it
pub flag-spared : {flag : List SeenRecord → Bool} (clears : Option ℕ → SeenRecord → Bool)
    → ((records : List SeenRecord) → flag records ≡ is_set clears records)
    → (now : SeenRecord) (before : List SeenRecord)
    → flag before ≡ true
    → clears (last_pc before) now ≡ false
    → flag (now ∷ before) ≡ true
flag-spared clears of_run now before set spared =
    flag-cons clears of_run now before
    ∙ ap (λ was_set. (was_set || starts_run now) && not (clears (last_pc before) now)) set
    ∙ ap not spared

-- the record at which the records seen end
abbrev newest : (now : SeenRecord) (before : List SeenRecord) → Moment (now ∷ before)
newest now before = record { after = []; now = now; before = before; whole = refl }

-- a moment of the records before is one of all
abbrev earlier :
    (now : SeenRecord) (before : List SeenRecord) → Moment before → Moment (now ∷ before)
earlier now before moment =
    record {
      after = now ∷ moment.after;
      now = moment.now;
      before = moment.before;
      whole = ap (λ rest. now ∷ rest) moment.whole;
    }

-- the newest record starts a run
abbrev newest_starts : List SeenRecord → Bool
newest_starts [] = false
newest_starts (now ∷ before) = starts_run now

-- the newest record clears the flag
abbrev newest_clears : (Option ℕ → SeenRecord → Bool) → List SeenRecord → Bool
newest_clears clears [] = false
newest_clears clears (now ∷ before) = clears (last_pc before) now

-- no moment of these clears the flag, of those with at most so many records after it
abbrev NoneClears : (Option ℕ → SeenRecord → Bool) → List SeenRecord → ℕ → Type 0
NoneClears clears records most =
    (moment : Moment records)
    → length moment.after ≤ most
    → clears (last_pc moment.before) moment.now ≡ true
    → ⊥

-- the newest record keeps the flag, and so do those before it
none_clears-cons :
    (clears : Option ℕ → SeenRecord → Bool) (now : SeenRecord) (before : List SeenRecord) (most : ℕ)
    → clears (last_pc before) now ≡ false
    → ((moment : Moment before)
    → length moment.after + 1 ≤ most
    → clears (last_pc moment.before) moment.now ≡ true
    → ⊥)
    → (after : List SeenRecord) (this : SeenRecord) (rest : List SeenRecord)
    → now ∷ before ≡ after ++ this ∷ rest
    → length after ≤ most
    → clears (last_pc rest) this ≡ true
    → ⊥
none_clears-cons clears now before most keeps others [] this rest whole near is_clear =
    both_ways (clears (last_pc rest) this) (sym (ap (newest_clears clears) whole) ∙ keeps) is_clear
none_clears-cons clears now before most keeps others (x ∷ after) this rest whole near is_clear =
    others (record { after = after; now = this; before = rest; whole = cc }) (omega arith) is_clear

-- a start since which nothing cleared, and one more record that keeps the flag
start-cons : (clears : Option ℕ → SeenRecord → Bool) (now : SeenRecord) (before : List SeenRecord)
    → clears (last_pc before) now ≡ false → UnclearedStart clears before
    → UnclearedStart clears (now ∷ before)
start-cons clears now before keeps run =
    record {
      start = earlier now before run.start;
      starts = run.starts;
      kept = λ moment near.
          none_clears-cons clears now before (length run.start.after + 1) keeps
          (λ moment near. run.kept moment (omega (arith, near)))
          moment.after moment.now moment.before moment.whole (omega (arith, near));
    }

-- the newest record is a start that keeps the flag
start-newest : (clears : Option ℕ → SeenRecord → Bool) (now : SeenRecord) (before : List SeenRecord)
    → starts_run now ≡ true → clears (last_pc before) now ≡ false
    → UnclearedStart clears (now ∷ before)
start-newest clears now before starts keeps =
    record {
      start = newest now before;
      starts = starts;
      kept = λ moment near.
          none_clears-cons clears now before 0 keeps
          (λ moment near. absurd (omega (arith, near)))
          moment.after moment.now moment.before moment.whole near;
    }

-- the flag is set after a record: it could be set, and the record keeps it
set_parts : (clears : Option ℕ → SeenRecord → Bool) (now : SeenRecord) (before : List SeenRecord)
    → is_set clears (now ∷ before) ≡ true
    → ((is_set clears before || starts_run now) ≡ true)
    × (not (clears (last_pc before) now) ≡ true)
set_parts clears now before set =
    and_parts (is_set clears before || starts_run now) (not (clears (last_pc before) now))
    (sym (uncleared_run-cons clears now before) ∙ set)

-- where the flag is set, there is such a start
start_from_set : (clears : Option ℕ → SeenRecord → Bool) (records : List SeenRecord)
    → is_set clears records ≡ true → UnclearedStart clears records
start_from_set clears [] set = absurd (cc)
start_from_set clears (now ∷ before) set =
    let keeps : clears (last_pc before) now ≡ false =
    not-true (clears (last_pc before) now) (set_parts clears now before set).1
    in
    elim (or_cases (is_set clears before) (starts_run now) (set_parts clears now before set).0) [
      | inl was_set ↦ start-cons clears now before keeps (start_from_set clears before was_set)
      | inr starts ↦ start-newest clears now before starts keeps
    ]

-- the newest record keeps the flag
newest_keeps : (clears : Option ℕ → SeenRecord → Bool) (now : SeenRecord)
    (before : List SeenRecord) (most : ℕ)
    → NoneClears clears (now ∷ before) most → not (clears (last_pc before) now) ≡ true
newest_keeps clears now before most none =
    not_from_false (clears (last_pc before) now)
    (false_from_ne_true (clears (last_pc before) now) (none (newest now before) (omega arith)))

-- where there is such a start, the flag is set
set_from_start : (clears : Option ℕ → SeenRecord → Bool)
    (records after : List SeenRecord) (this : SeenRecord) (rest : List SeenRecord)
    → records ≡ after ++ this ∷ rest
    → starts_run this ≡ true
    → NoneClears clears records (length after)
    → is_set clears records ≡ true
set_from_start clears [] [] this rest whole starts none = absurd (cc)
set_from_start clears [] (x ∷ after) this rest whole starts none = absurd (cc)
set_from_start clears (now ∷ before) [] this rest whole starts none =
    uncleared_run-cons clears now before
    ∙ and_from (is_set clears before || starts_run now) (not (clears (last_pc before) now))
    (or_right (is_set clears before) (starts_run now) (ap newest_starts whole ∙ starts))
    (newest_keeps clears now before 0 none)
set_from_start clears (now ∷ before) (x ∷ after) this rest whole starts none =
    uncleared_run-cons clears now before
    ∙ and_from (is_set clears before || starts_run now) (not (clears (last_pc before) now))
    (or_left (is_set clears before) (starts_run now)
    (set_from_start clears before after this rest (cc) starts
    (λ moment near. none (earlier now before moment) (omega (arith, near)))))
    (newest_keeps clears now before (length (x ∷ after)) none)

-- a flag is set exactly where there is such a start
pub flag-iff : {flag : List SeenRecord → Bool} {clears : Option ℕ → SeenRecord → Bool}
    → ((records : List SeenRecord) → flag records ≡ is_set clears records)
    → (records : List SeenRecord) → IsTrue (flag records) ↔ UnclearedStart clears records
flag-iff {clears = clears} of_run records = (
  λ set. start_from_set clears records (sym (of_run records) ∙ set),
  λ (run : UnclearedStart clears records).
      of_run records
      ∙ set_from_start clears records run.start.after run.start.now run.start.before
      run.start.whole run.starts run.kept,
)
