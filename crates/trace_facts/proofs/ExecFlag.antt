-- Where EXEC is set, the bounds are valid.
use Rattle.std.{proofs.{Common.{◌≡◌, Bool, true, false, List, [], ◌∷◌, ◌⊎◌, inl, inr, refl, ap, ◌∙◌, not, Option, Some, None, arith}, lemmas.Bool.{and_parts, or_cases, or_parts}}, specs.{Prelude.{◌==◌, ◌&&◌, is_some, if◌then◌else◌}, List.list_any}}
use Rattle.device_types.specs.{declared.bus_record.BusRecord.BusRecord, Bounds.are_valid, Map.metadata_region, ExecFlag.{SeenRecord, accesses_in, writes_to, is_opcode_fetch, clears_e3, clears_e4, clears_e9, clears, starts_run, last_pc, records_since, exec}}
use Rattle.part_definitions.specs.TrustedFlag.{clears_aux, aux}
use Rattle.device_trace.specs.{Trace.{Play, logs_after}, Logs.{Logs, exec_of, logged_bounds, with_events, with_record}, Start.Start, Step.next_record}
use Rattle.trace_facts.proofs.BoundsStay.{logged_bounds-stay}

-- What tests and options say of each other.

pub other_false : (x y : Bool) → (x && y) ≡ false → y ≡ true → x ≡ false
other_false x y off holds = grind arith

pub first_false : (x y : Bool) → (x && not y) ≡ false → y ≡ false → x ≡ false
first_false x y off outside = grind arith

pub none_there : {A : Type 0} (option : Option A) → is_some option ≡ false → option ≡ None
none_there None off = refl
none_there (Some x) off = absurd (cc)

-- what is there only where a test holds
pub some_where : {A : Type 0} (test : Bool) (value answer : A)
    → (if test then Some value else None) ≡ Some answer → (test ≡ true) × (value ≡ answer)
some_where true value answer is = (refl, cc)
some_where false value answer is = absurd (cc)

-- where the flag is set after a record, this does not clear it, and it starts a run or the flag was
-- set before
set_after : (is_clear : Bool) (now : SeenRecord) (older : List SeenRecord)
    → list_any starts_run (if is_clear then [] else now ∷ older) ≡ true
    → (is_clear ≡ false) × ((starts_run now ≡ true) ⊎ (list_any starts_run older ≡ true))
set_after true now older set = absurd (cc)
set_after false now older set = (refl, or_cases (starts_run now) (list_any starts_run older) set)

pub exec-more : (now : SeenRecord) (before : List SeenRecord) → exec (now ∷ before) ≡ true
    → (clears (last_pc before) now ≡ false) × ((starts_run now ≡ true) ⊎ (exec before ≡ true))
unfolding exec
exec-more now before set =
    set_after (clears (last_pc before) now) now (records_since clears before) set

pub aux-more : (now : SeenRecord) (before : List SeenRecord) → aux (now ∷ before) ≡ true
    → (clears_aux (last_pc before) now ≡ false)
    × ((starts_run now ≡ true) ⊎ (aux before ≡ true))
unfolding aux
aux-more now before set =
    set_after (clears_aux (last_pc before) now) now (records_since clears_aux before) set

pub aux-none : aux [] ≡ true → ⊥
unfolding aux
aux-none set = cc

pub exec-none : exec [] ≡ true → ⊥
unfolding exec
exec-none set = cc

-- after a step
abbrev pub LogsAreValid : Start → Logs → Type 0
LogsAreValid start logs = exec_of logs ≡ true → are_valid (logged_bounds start logs) ≡ true

with_record-valid : (start : Start) (logs : Logs) (entry : BusRecord)
    → LogsAreValid start logs → LogsAreValid start (with_record start logs entry)
unfolding with_record
with_record-valid start logs entry before set =
    let now : SeenRecord = record { entry = entry; bounds = logged_bounds start logs } in
    let more = exec-more now logs.records set in
    let p4 = or_parts _ (clears_e4 now) more.0 in
    let p3 = or_parts _ (clears_e3 (last_pc logs.records) now) p4.0 in
    let last = or_parts _ (clears_e9 now) p3.0 in
    let clean = or_parts (list_any (writes_to metadata_region) (accesses_in entry))
    (is_some entry.reset) last.1 in
    let stays : logged_bounds start (with_record start logs entry) ≡ logged_bounds start logs =
    logged_bounds-stay start logs entry (none_there entry.reset clean.1) clean.0 in
    let valid : are_valid (logged_bounds start logs) ≡ true =
    elim more.1 [
      | inl starts ↦
          (and_parts (is_opcode_fetch entry && (entry.pc == (logged_bounds start logs).er_min))
          (are_valid (logged_bounds start logs)) starts).1
      | inr was_set ↦ before was_set
    ] in
    ap are_valid stays ∙ valid

-- after every play
pub logs_after-valid : (start : Start) (play : Play)
    → LogsAreValid start (logs_after start play)
unfolding logs_after with_events
logs_after-valid start [] set = absurd (exec-none set)
logs_after-valid start (events ∷ play) set =
    with_record-valid start (with_events (logs_after start play) events)
    (next_record start (logs_after start play) events) (logs_after-valid start play) set
