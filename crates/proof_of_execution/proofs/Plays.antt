-- Where the flag of a run is set after a play, the executable region runs, has run, or sleeps.
use Rattle.std.{proofs.{Common.{◌≡◌, ℕ, Bool, true, false, List, [], ◌∷◌, inl, inr, Option, Some, None, refl, ap, sym, ◌∙◌, subst, not, ◌⊎◌, length, map, arith, ◌<◌, ◌*◌, ◌/◌}, lemmas.Bool.{and_parts, or_parts, eqb-true, false_from_ne_true, and_from, not-true, not_from_false, cond_both}}, specs.{Prelude.{◌==◌, ◌&&◌, is_some, IsTrue, if◌then◌else◌, is_none}, List.list_any}}
use Rattle.device_types.specs.{declared.{bounds.Bounds.Bounds, bus_record.BusRecord.BusRecord, event.Event.Event, access.Access.Access, rule.Rule.Rule}, Bounds.{are_valid, executable_region}, Kind.{is_rom, is_irq}, Map.{lies_in, metadata_region, ROM_EXIT}, Report.ReportFields, ExecFlag.{SeenRecord, accesses_in, writes_to, ran_inside, last_pc, fetches_first, is_opcode_fetch, starts_run, runs_inside, exec, clears_both}, Access.some_reads}
use Rattle.part_definitions.specs.{MonitorRule.in_rom, FirstRule.first_rule, TrustedFlag.{aux, clears_aux, enters_elsewhere, reads_vector, handler_read, clears_f3, clears_f4, clears_f10}}
use Rattle.device_trace.specs.{Trace.{Play, logs_after, trace}, Logs.{Logs, exec_of, logged_bounds, step_progress, finishes_call, call_decision, progress_after, with_events, with_record, vector_of}, Progress.{Progress, last_registers}, Start.Start, Step.{record_of, asks_reset, next_record, dma_value_read, record_from}, Text.{report_of, denial_where, last_report, last_decision, last_denial}, RegionRun.{WholeRun, Interrupts, NoInterrupts, RegionRun, TrustedInterrupts, runs_alone, runs_with, keeps_code, keeps_code_with}, Blank.{blank_seen, touches_secrets, blank_access, blank_value}, Signals.{value_read, step_kind, proposed_access, signals_at, signals_of}}
use Rattle.trace_facts.proofs.{ExecFlag.{none_there, other_false, exec-more, exec-none, aux-more, aux-none}, BoundsStay.logged_bounds-stay, Fresh.{LogsAreFresh, logs_after-fresh}, LastReport.last_report-made, BlankRecords.{last_pc-blank, starts_run-blank}}
use Rattle.proof_of_execution.{specs.WholeCall.ExecAfterCallMeansWholeRun, proofs.{Regions.inside-open, Runs.{RunState, run_begins, state_after, run_outside, Goes}, InterruptEntries.{IsEarly, logs_after-early, irq-follows}, Entries.{region_entered, sleep_lasts}, Keeps.{KeepsBoth, Keeps, clears-kept, undisturbed-kept, code-kept, enters_at_start, clears_both-kept, alone-kept, entered_only}}}

-- What a record does that does not clear the second flag, which sees it blanked.

pub record KeepsAux (last : Option ℕ) (now : SeenRecord) : Type 0 where
  pub both : KeepsBoth last now
  pub f3 : clears_f3 last now ≡ false
  pub f4 : clears_f4 now ≡ false
  pub f10 : clears_f10 now ≡ false

clears_both-blank : (last : Option ℕ) (now : SeenRecord)
    → clears_both last (blank_seen now) ≡ clears_both last now
clears_both-blank last now = grind arith

f3-blank : (last : Option ℕ) (now : SeenRecord)
    → clears_f3 last (blank_seen now) ≡ clears_f3 last now
f3-blank last now = grind arith

f10-blank : (now : SeenRecord) → clears_f10 (blank_seen now) ≡ clears_f10 now
f10-blank now = grind arith

-- address 0 is in no valid region
zero_outside : (bounds : Bounds) → are_valid bounds ≡ true
    → lies_in (executable_region bounds) 0 ≡ false
zero_outside bounds valid =
    false_from_ne_true (lies_in (executable_region bounds) 0)
    (λ within. let above : 0 < 0 = (inside-open bounds 0 valid within).1 in omega arith)

-- a read of a secret is blanked to 0, which is no handler in the region
f4_off : (inside reads at other : Bool) → (inside && (reads && not at)) ≡ false → at ≡ false
    → (inside && (reads && not other)) ≡ false
f4_off inside reads at other off outside = grind arith

abbrev f4_of : SeenRecord → Option Access → ℕ → Bool
f4_of now cpu value =
    runs_inside now
    && ((is_irq now.entry.kind && some_reads cpu)
    && not (lies_in (executable_region now.bounds) (value / 2 * 2)))

some_reads-blank : (cpu : Option Access) → some_reads (blank_access cpu) ≡ some_reads cpu
some_reads-blank cpu = grind arith

f4-value : (now : SeenRecord) (cpu : Option Access) (value : ℕ)
    → are_valid now.bounds ≡ true
    → f4_of now cpu (blank_value cpu value) ≡ false
    → f4_of now cpu value ≡ false
f4-value now None value valid off = off
f4-value now (Some access) value valid off =
    cond_both (touches_secrets access) 0 value
    (λ seen. f4_of now (Some access) seen ≡ false → f4_of now (Some access) value ≡ false)
    (λ secret kept.
    f4_off (runs_inside now) (is_irq now.entry.kind && some_reads (Some access))
    (lies_in (executable_region now.bounds) 0) _ kept (zero_outside now.bounds valid))
    (λ clear kept. kept) off

f4-blank : (now : SeenRecord) → are_valid now.bounds ≡ true
    → clears_f4 (blank_seen now) ≡ false → clears_f4 now ≡ false
f4-blank now valid off =
    f4-value now now.entry.cpu now.entry.value valid
    (ap (λ reads. runs_inside now
    && ((is_irq now.entry.kind && reads)
    && not (lies_in (executable_region now.bounds)
    (blank_value now.entry.cpu now.entry.value / 2 * 2))))
    (sym (some_reads-blank now.entry.cpu)) ∙ off)

pub clears_aux-kept : (last : Option ℕ) (now : SeenRecord) → are_valid now.bounds ≡ true
    → clears_aux last (blank_seen now) ≡ false → KeepsAux last now
clears_aux-kept last now valid none =
    let p10 = or_parts _ (clears_f10 (blank_seen now)) none in
    let p4 = or_parts _ (clears_f4 (blank_seen now)) p10.0 in
    let p3 = or_parts (clears_both last (blank_seen now)) (clears_f3 last (blank_seen now)) p4.0 in
    record {
      both = clears_both-kept last now (sym (clears_both-blank last now) ∙ p3.0);
      f3 = sym (f3-blank last now) ∙ p3.1;
      f4 = f4-blank now valid p4.1;
      f10 = sym (f10-blank now) ∙ p10.1;
    }

pub trusted-kept : (last : Option ℕ) (now : SeenRecord)
    → KeepsAux last now → runs_inside now ≡ true
    → runs_with TrustedInterrupts now.bounds now.entry ≡ true
trusted-kept last now keeps inside =
    let entered : enters_elsewhere (executable_region now.bounds) now.entry ≡ false =
    holds (runs_inside now) (enters_elsewhere (executable_region now.bounds) now.entry)
    keeps.f4 inside in
    and_from (runs_alone now.bounds now.entry) _ (alone-kept last now keeps.both inside)
    (not_from_false _ entered)
  where
    holds : (x y : Bool) → (x && y) ≡ false → x ≡ true → y ≡ false
    holds x y off is = grind arith

pub code_and_vectors-kept : (last : Option ℕ) (now : SeenRecord) → KeepsAux last now
    → keeps_code_with TrustedInterrupts now.bounds now.entry ≡ true
code_and_vectors-kept last now keeps =
    and_from (keeps_code now.bounds now.entry) _ (code-kept last now keeps.both)
    (not_from_false _ keeps.f10)

-- ER is entered by the opcode fetch at its first place
pub enters_first : (last : Option ℕ) (now : SeenRecord) → KeepsAux last now
    → runs_inside now ≡ true → ran_inside last (executable_region now.bounds) ≡ false
    → fetches_first now.bounds now.entry ≡ true
enters_first last now keeps =
    entered_only (runs_inside now) (ran_inside last (executable_region now.bounds))
    (fetches_first now.bounds now.entry) keeps.f3

-- The flag of a run of the executable region, and what a record is that leaves it set.

-- EXEC, or with trusted interrupts the second flag, which sees the records blanked
abbrev pub flag_of : Interrupts → List SeenRecord → Bool
flag_of NoInterrupts records = exec records
flag_of TrustedInterrupts records = aux (map blank_seen records)

pub flag-none : (allowed : Interrupts) → flag_of allowed [] ≡ true → ⊥
flag-none NoInterrupts set = exec-none set
flag-none TrustedInterrupts set = aux-none set

abbrev pub KeepsFlag : Interrupts → Option ℕ → SeenRecord → Type 0
KeepsFlag NoInterrupts last now = Keeps last now
KeepsFlag TrustedInterrupts last now = KeepsAux last now

pub keeps-both : (allowed : Interrupts) (last : Option ℕ) (now : SeenRecord)
    → KeepsFlag allowed last now → KeepsBoth last now
keeps-both NoInterrupts last now keeps = keeps.both
keeps-both TrustedInterrupts last now keeps = keeps.both

-- where the flag is set after a record, this does not clear it, and it starts a run or the flag was
-- set before
pub flag-more : (allowed : Interrupts) (now : SeenRecord) (before : List SeenRecord)
    → flag_of allowed (now ∷ before) ≡ true
    → (are_valid now.bounds ≡ true → KeepsFlag allowed (last_pc before) now)
    × ((starts_run now ≡ true) ⊎ (flag_of allowed before ≡ true))
flag-more NoInterrupts now before set =
    let more = exec-more now before set in
    (λ valid. clears-kept (last_pc before) now more.0, more.1)
flag-more TrustedInterrupts now before set =
    let more = aux-more (blank_seen now) (map blank_seen before) set in (
      λ valid. clears_aux-kept (last_pc before) now valid
          (ap (λ pc. clears_aux pc (blank_seen now)) (sym (last_pc-blank before)) ∙ more.0),
      elim more.1 [
        | inl starts ↦ inl (sym (starts_run-blank now) ∙ starts)
        | inr was_set ↦ inr was_set
      ],
    )

-- a record that runs trusted has its handler in the region, if it reads a vector
handler_inside : (bounds : Bounds) (entry : BusRecord)
    → runs_with TrustedInterrupts bounds entry ≡ true
    → reads_vector entry ≡ true
    → lies_in (executable_region bounds) (handler_read entry) ≡ true
handler_inside bounds entry trusted reads =
    within (reads_vector entry) (lies_in (executable_region bounds) (handler_read entry))
    (not-true (enters_elsewhere (executable_region bounds) entry)
    (and_parts (runs_alone bounds entry) _ trusted).1) reads
  where
    within : (x y : Bool) → (x && not y) ≡ false → x ≡ true → y ≡ true
    within x y off is = grind arith

-- the record of a step
abbrev record_at : Start → Logs → Bool → Option Rule → BusRecord
record_at start logs reset rule =
    record_from (last_registers logs.progress) (signals_of start logs reset) rule
    (value_read start logs (signals_of start logs reset).cpu)
    (dma_value_read start logs (signals_of start logs reset))

-- with these bounds before it
abbrev GoesOn : Interrupts → Logs → Bounds → BusRecord → Type 0
GoesOn allowed logs bounds entry =
    are_valid bounds ≡ true → LogsAreFresh logs → IsEarly logs.progress
    → KeepsFlag allowed (last_pc logs.records) (record { entry = entry; bounds = bounds })
    → Goes allowed (last_pc logs.records) (record { entry = entry; bounds = bounds }) logs.progress
    (progress_after entry.reset entry.kind (step_progress logs entry.kind) entry.cpu entry.value)

goes_at : (allowed : Interrupts) (start : Start) (logs : Logs) (reset : Bool) (rule : Option Rule)
    (bounds : Bounds)
    → rule ≡ None → GoesOn allowed logs bounds (record_at start logs reset rule)
unfolding signals_at
goes_at allowed start logs reset (Some rule) bounds none = absurd (cc)
goes_at NoInterrupts start logs reset None bounds none = λ valid fresh early keeps.
    let now : SeenRecord = record { entry = record_at start logs reset None; bounds = bounds } in
    let last : Option ℕ = last_pc logs.records in
    let access : Option Access = proposed_access start logs (step_kind logs) in
    record {
      both = keeps.both;
      code = code-kept last now keeps.both;
      runs = λ inside. undisturbed-kept last now keeps inside;
      leads = λ inside. tt;
      enters = λ inside outside.
          let place = enters_at_start last now keeps inside outside in
          elim
          (region_entered start (length logs.released_words) bounds logs.progress (vector_of logs)
          last valid fresh inside place outside
          (other_false now.entry.irq (runs_inside now) keeps.e4 inside)) [
            | inl opcode ↦
                inl (and_from (is_opcode_fetch now.entry) (now.entry.pc == bounds.er_min) opcode
                place)
            | inr sleeps ↦ inr (sleeps access (value_read start logs access))
          ];
      ends = λ newest older leads outside at_end. at_end;
      rests = λ asleep.
          let on = sleep_lasts bounds logs.progress (vector_of logs) valid asleep keeps.e4 in
          (on.inside, on.next access (value_read start logs access));
    }
goes_at TrustedInterrupts start logs reset None bounds none = λ valid fresh early keeps.
    let now : SeenRecord = record { entry = record_at start logs reset None; bounds = bounds } in
    let last : Option ℕ = last_pc logs.records in
    let access : Option Access = proposed_access start logs (step_kind logs) in
    record {
      both = keeps.both;
      code = code_and_vectors-kept last now keeps;
      runs = λ inside. trusted-kept last now keeps inside;
      leads = λ inside irq.
          irq-follows start (length logs.released_words) bounds logs.progress (vector_of logs)
          access (value_read start logs access) valid early irq inside
          (λ reads. handler_inside bounds now.entry (trusted-kept last now keeps inside)
          (ap (λ kind. kind && some_reads now.entry.cpu) irq ∙ reads));
      enters = λ inside outside. inl (enters_first last now keeps inside outside);
      ends = λ newest older leads outside at_end.
          and_from (newest.pc == bounds.er_max) _ at_end
          (not_from_false _ (false_from_ne_true (is_irq newest.kind)
          (λ irq. let clash : true ≡ false = sym (leads irq (vector_of logs)) ∙ outside in cc)));
      rests = λ rests. absurd rests;
    }

pub record_goes : (allowed : Interrupts) (start : Start) (logs : Logs) (reset : Bool)
    (bounds : Bounds)
    → (record_of start logs reset).reset ≡ None
    → GoesOn allowed logs bounds (record_of start logs reset)
unfolding record_of
record_goes allowed start logs reset bounds none =
    goes_at allowed start logs reset
    (first_rule (last_pc logs.records) (signals_of start logs reset)) bounds none

-- of the logs of a play
abbrev pub LogsState : Interrupts → Start → Logs → List BusRecord → Type 0
LogsState allowed start logs history =
    flag_of allowed logs.records ≡ true
    → RunState allowed (logged_bounds start logs) history logs.progress (last_pc logs.records)

record_state : (allowed : Interrupts) (start : Start) (logs : Logs) (reset : Bool)
    (history : List BusRecord)
    → LogsAreFresh logs → IsEarly logs.progress → LogsState allowed start logs history
    → LogsState allowed start (with_record start logs (record_of start logs reset))
    (record_of start logs reset ∷ history)
unfolding with_record
record_state allowed start logs reset history fresh early before set =
    let entry : BusRecord = record_of start logs reset in
    let last : Option ℕ = last_pc logs.records in
    let now : SeenRecord = record { entry = entry; bounds = logged_bounds start logs } in
    let more = flag-more allowed now logs.records set in
    let parts = and_parts (fetches_first now.bounds now.entry) (are_valid now.bounds) in
    let valid : are_valid now.bounds ≡ true =
    elim more.1 [ inl starts ↦ (parts starts).1 | inr was_set ↦ (before was_set).valid ] in
    let keeps : KeepsFlag allowed last now = more.0 valid in
    let clean = or_parts (list_any (writes_to metadata_region) (accesses_in entry))
    (is_some entry.reset) (keeps-both allowed last now keeps).e9 in
    let none : entry.reset ≡ None = none_there entry.reset clean.1 in
    let goes = record_goes allowed start logs reset now.bounds none valid fresh early keeps in
    let after : Progress =
    progress_after entry.reset entry.kind (step_progress logs entry.kind) entry.cpu entry.value in
    let state : RunState allowed now.bounds (entry ∷ history) after (Some entry.pc) =
    elim more.1 [
      | inl starts ↦
          run_begins allowed last now history logs.progress after goes valid (parts starts).0
      | inr was_set ↦
          state_after allowed last now history logs.progress after goes (before was_set)
    ] in
    subst (λ (bounds : Bounds). RunState allowed bounds (entry ∷ history) after (Some entry.pc))
    (sym (logged_bounds-stay start logs entry none clean.0)) state

pub play_state : (allowed : Interrupts) (start : Start) (play : Play)
    → LogsState allowed start (logs_after start play) (trace start play)
unfolding logs_after trace next_record with_events
play_state allowed start [] set = absurd (flag-none allowed set)
play_state allowed start (events ∷ play) set =
    record_state allowed start (with_events (logs_after start play) events) (asks_reset events)
    (trace start play) (logs_after-fresh start play) (logs_after-early start play)
    (play_state allowed start play) set

-- where the flag is set and the last record is outside the region, this has run whole
pub outside-run : (allowed : Interrupts) (start : Start) (play : Play)
    → flag_of allowed (logs_after start play).records ≡ true
    → ran_inside (last_pc (logs_after start play).records)
    (executable_region (logged_bounds start (logs_after start play))) ≡ false
    → RegionRun allowed (logged_bounds start (logs_after start play)) (trace start play)
outside-run allowed start play set =
    run_outside allowed (logged_bounds start (logs_after start play)) (trace start play)
    (logs_after start play).progress (last_pc (logs_after start play).records)
    (play_state allowed start play set)

finished_where : (finishes : Bool) (decision : Option ℕ)
    → is_some (if finishes then decision else None) ≡ true → finishes ≡ true
finished_where true decision some = refl
finished_where false decision some = absurd (cc)

-- the decision after a step is that of the call that it finished
pub decision_finishes : (start : Start) (logs : Logs) (entry : BusRecord)
    → is_some (with_record start logs entry).decision ≡ true → finishes_call entry ≡ true
unfolding with_record
decision_finishes start logs entry some =
    finished_where (finishes_call entry) (call_decision (step_progress logs entry.kind)) some

-- after a finished call the last record is at the ROM's exit, which is outside
last_exit : (start : Start) (events : List Event) (play : Play)
    → is_some (last_decision start (events ∷ play)) ≡ true
    → last_pc (logs_after start (events ∷ play)).records ≡ Some ROM_EXIT
unfolding logs_after with_record
last_exit start events play finished =
    let entry : BusRecord = next_record start (logs_after start play) events in
    let call = and_parts (is_rom entry.kind && (entry.pc == ROM_EXIT)) (is_none entry.reset)
    (decision_finishes start (with_events (logs_after start play) events) entry finished) in
    ap Some (eqb-true entry.pc ROM_EXIT
    (and_parts (is_rom entry.kind) (entry.pc == ROM_EXIT) call.0).1)

exit_outside : (bounds : Bounds) → are_valid bounds ≡ true
    → lies_in (executable_region bounds) ROM_EXIT ≡ false
exit_outside bounds valid =
    false_from_ne_true (lies_in (executable_region bounds) ROM_EXIT)
    (λ within.
    let apart : in_rom ROM_EXIT ≡ false = (inside-open bounds ROM_EXIT valid within).0 in
    cc)

-- after a finished call, whatever it decided
pub finished-run : (allowed : Interrupts) (start : Start) (play : Play)
    → is_some (last_decision start play) ≡ true
    → flag_of allowed (logs_after start play).records ≡ true
    → RegionRun allowed (logged_bounds start (logs_after start play)) (trace start play)
unfolding logs_after
finished-run allowed start [] finished set = absurd (flag-none allowed set)
finished-run allowed start (events ∷ play) finished set =
    let bounds : Bounds = logged_bounds start (logs_after start (events ∷ play)) in
    outside-run allowed start (events ∷ play) set
    (ap (λ pc. ran_inside pc (executable_region bounds)) (last_exit start events play finished)
    ∙ exit_outside bounds (play_state allowed start (events ∷ play) set).valid)

-- where the call made a report
pub report-run : (allowed : Interrupts) (start : Start) (play : Play) (report : ReportFields)
    → last_report start play ≡ Some report
    → ((step : ℕ) → report_of start (logs_after start play) step ≡ report
    → flag_of allowed (logs_after start play).records ≡ true)
    → RegionRun allowed report.bounds (trace start play)
report-run allowed start play report is set =
    let made = last_report-made start play report is in
    subst (λ (bounds : Bounds). RegionRun allowed bounds (trace start play))
    (ap (λ (r : ReportFields). r.bounds) made.same)
    (finished-run allowed start play (ap (λ (one : Option ℕ). is_some one) made.attests)
    (set made.step made.same))

-- a denial has a decision
pub denied_where : (decision : Option ℕ) (denial : ℕ) → denial_where decision ≡ Some denial
    → is_some decision ≡ true
denied_where None denial is = absurd (cc)
denied_where (Some decision) denial is = refl

-- the laws on EXEC
pub decision-whole_run : (start : Start) (play : Play)
    → ExecAfterCallMeansWholeRun start play
decision-whole_run start play decision is =
    finished-run NoInterrupts start play (ap (λ (one : Option ℕ). is_some one) is)

pub report-whole_run : (start : Start) (play : Play) (report : ReportFields)
    → last_report start play ≡ Some report → IsTrue report.exec
    → WholeRun report.bounds (trace start play)
report-whole_run start play report is set =
    report-run NoInterrupts start play report is
    (λ step made. ap (λ (r : ReportFields). r.exec) made ∙ set)

pub denial-whole_run : (start : Start) (play : Play) (denial : ℕ)
    → last_denial start play ≡ Some denial
    → exec_of (logs_after start play) ≡ true
    → WholeRun (logged_bounds start (logs_after start play)) (trace start play)
denial-whole_run start play denial is =
    finished-run NoInterrupts start play (denied_where (logs_after start play).decision denial is)
