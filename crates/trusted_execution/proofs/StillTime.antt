-- Through a call the second flag stays as it is.
use Rattle.std.{proofs.{Common.{not, ◌≡◌, ◌&&◌, ℕ, Bool, true, false, List, [], ◌∷◌, inl, inr, Option, Some, None, map, refl, ap, sym, ◌∙◌, subst, is_some, arith}, lemmas.Bool.{cond_both, cond-true, and_left, and_right, and_parts, eq-eqb, or_from, Decides.nat_tests}}, specs.{Prelude.{◌==◌, is_none}, List.list_any}}
use Rattle.device_types.specs.{declared.{access.Access.Access, bus_record.BusRecord.BusRecord, kind.Kind.TheVariants.Rom}, Access.{some_writes, bytes_of}, Bounds.are_valid, Kind.is_rom, Map.{ROM_ENTRY, lies_in, touches, vector_region}, Report.ReportFields, ExecFlag.{SeenRecord, SeenHistory, last_pc, runs_inside, records_since}}
use Rattle.part_definitions.{specs.{MonitorRule.{leaves_stack_and_mac, in_rom, is_written_by_rom}, TrustedFlag.{aux, clears_aux, clears_f3, clears_f4, clears_f10}}, proofs.CallItems.first_pc}
use Rattle.device_trace.specs.{Trace.{Play, logs_after, trace}, Blank.{blank_access, blank_record, blank_seen}, Logs.{Logs, aux_of, goes_on_in_call, records_until_call, logged_bounds, vector_of, step_progress, with_events, with_record}, Progress.{Progress, Held, Runs, InCall, next_pc_of}, Signals.step_kind, Start.Start, Step.{record_of, asks_reset, next_record}, Text.{last_report, last_decision, last_denial}, RegionRun.{TrustedInterrupts, TrustedRun}}
use Rattle.mac_coverage.proofs.{ExecKept.{IsRomStep, rom_step-outside, rom_step-apart, rom_step-keeps_both, rom_step-starts_none, kept_flag}, Plays.{rom_kind, record_of-on_call}, Steps.{rom_step-of_call, OnCall, record_of-call, record_of-kind, record_of-pc, IsInRom}, ValidPlaces.none_elsewhere}
use Rattle.proof_of_execution.proofs.Plays.{play_state, finished-run, report-run, denied_where}
use Rattle.trusted_execution.specs.TrustedCall.{aux_seen, AuxAfterCallMeansTrustedRun}
use Rattle.trace_facts.proofs.BlankRecords.{last_pc-blank}

-- A step of the ROM after another leaves the second flag.

vectors_unwritten : (place : ℕ) → is_written_by_rom place ≡ true
    → lies_in vector_region place ≡ false
vectors_unwritten place written = grind (arith, nat_tests)

writes_off_vectors : (access : Access)
    → list_any (λ place. not (is_written_by_rom place)) (bytes_of access) ≡ false
    → touches access vector_region ≡ false
writes_off_vectors access within =
    none_elsewhere is_written_by_rom (lies_in vector_region) (bytes_of access) vectors_unwritten
    within

rom_step-keeps_aux : (last : ℕ) (now : SeenRecord) → IsRomStep now.entry → in_rom last ≡ true
    → are_valid now.bounds ≡ true → clears_aux (Some last) now ≡ false
rom_step-keeps_aux last now step rom valid =
    let stays_out = rom_step-outside now step valid in
    let f3 : clears_f3 (Some last) now ≡ false =
    and_left _ _ (and_left (runs_inside now) _ stays_out) in
    let f4 : clears_f4 now ≡ false = and_left (runs_inside now) _ stays_out in
    let f10 : clears_f10 now ≡ false = rom_step-apart now vector_region step writes_off_vectors in
    or_from _ _ (or_from _ _ (or_from _ _ (rom_step-keeps_both last now step rom valid) f3) f4) f10

pub aux-rom_step : (last : ℕ) (now : SeenRecord) (before : List SeenRecord)
    → last_pc before ≡ Some last → IsRomStep now.entry → in_rom last ≡ true
    → (aux before ≡ true → are_valid now.bounds ≡ true)
    → aux (now ∷ before) ≡ aux before
unfolding aux
aux-rom_step last now before is_last step rom valid =
    kept_flag (clears_aux (last_pc before) now) now (records_since clears_aux before)
    (rom_step-starts_none now step)
    (λ set. ap (λ (pc : Option ℕ). clears_aux pc now) is_last
    ∙ rom_step-keeps_aux last now step rom (valid set))

-- a step of the ROM, blanked
writes-blank : (cpu : Option Access)
    → (some_writes (blank_access cpu) && leaves_stack_and_mac (blank_access cpu))
    ≡ (some_writes cpu && leaves_stack_and_mac cpu)
writes-blank cpu = grind arith

blank-rom_step : (entry : BusRecord) → IsRomStep entry → IsRomStep (blank_record entry)
blank-rom_step entry step =
    record {
      kind = step.kind;
      code = step.code;
      none = step.none;
      no_dma = ap blank_access step.no_dma;
      within = writes-blank entry.cpu ∙ step.within;
    }

-- what holds in a call: the last record is in the ROM, and the flag is as it was after the first
-- step
record CallState (records : List SeenRecord) : Type 0 where
  last : IsInRom (last_pc records)
  flag : aux (map blank_seen (records_until_call records)) ≡ aux (map blank_seen records)

abbrev HoldsInCall : Progress → List SeenRecord → Type 0
HoldsInCall progress records = OnCall (λ regs words. CallState records) progress

in_any : (progress : Progress) (records : List SeenRecord) → CallState records
    → HoldsInCall progress records
in_any Held records state = tt
in_any (Runs cpu) records state = tt
in_any (InCall regs words) records state = state

none_of : {A : Type 0} (option : Option A) → is_none option ≡ true → option ≡ None
none_of None none = refl
none_of (Some x) none = absurd (cc)

-- a first step does not go on in a call
first-begins : (entry : BusRecord) (progress : Progress) (regs : List ℕ)
    → entry.kind ≡ Rom → entry.pc ≡ next_pc_of progress → progress ≡ InCall regs []
    → goes_on_in_call entry ≡ false
first-begins entry progress regs rom pc is =
    and_left _ (is_none entry.reset) (and_right (is_rom entry.kind) (not (entry.pc == ROM_ENTRY))
    (ap not (eq-eqb entry.pc ROM_ENTRY (pc ∙ (ap next_pc_of is ∙ first_pc)))))

record_flag : (start : Start) (logs : Logs) (reset : Bool)
    → (aux_seen logs ≡ true → are_valid (logged_bounds start logs) ≡ true)
    → HoldsInCall logs.progress logs.records
    → (record_of start logs reset).reset ≡ None
    → step_kind logs ≡ Rom
    → CallState (with_record start logs (record_of start logs reset)).records
unfolding with_record
record_flag start logs reset valid holds none rom =
    let entry : BusRecord = record_of start logs reset in
    let now : SeenRecord = record { entry = entry; bounds = logged_bounds start logs } in
    let call = rom_step-of_call logs.progress (vector_of logs) rom in
    let step = record_of-call start logs reset call.regs call.words none rom call.is in
    let Claim : List SeenRecord → Type 0 =
    λ records. aux (map blank_seen records) ≡ aux (blank_seen now ∷ map blank_seen logs.records) in
    record {
      last = record { pc = entry.pc; is = refl; code = step.rom.code };
      flag =
          cond_both (goes_on_in_call entry) (records_until_call logs.records) (now ∷ logs.records)
          Claim
          (λ goes_on.
          elim call.from [
            | inl same ↦
                let state : CallState logs.records =
                subst (λ progress. HoldsInCall progress logs.records) same holds in
                state.flag
                ∙ sym (aux-rom_step state.last.pc (blank_seen now) (map blank_seen logs.records)
                (last_pc-blank logs.records ∙ state.last.is)
                (blank-rom_step entry step.rom) state.last.code valid)
            | inr none_passed ↦
                let begins : goes_on_in_call entry ≡ false =
                first-begins entry (step_progress logs (step_kind logs)) call.regs step.rom.kind
                (record_of-pc start logs reset)
                (call.is ∙ ap (InCall call.regs) none_passed) in
                let clash : true ≡ false = sym goes_on ∙ begins in
                absurd (cc)
          ])
          (λ begins. refl);
    }

record_holds : (start : Start) (logs : Logs) (reset : Bool)
    → (aux_seen logs ≡ true → are_valid (logged_bounds start logs) ≡ true)
    → HoldsInCall logs.progress logs.records
    → HoldsInCall (with_record start logs (record_of start logs reset)).progress
    (with_record start logs (record_of start logs reset)).records
unfolding with_record
record_holds start logs reset valid holds =
    let after : Logs = with_record start logs (record_of start logs reset) in
    record_of-on_call (λ regs words. CallState after.records) start logs reset
    (λ none rom.
    in_any after.progress after.records (record_flag start logs reset valid holds none rom))

valid_after : (start : Start) (play : Play)
    → aux_seen (logs_after start play) ≡ true
    → are_valid (logged_bounds start (logs_after start play)) ≡ true
valid_after start play set = (play_state TrustedInterrupts start play set).valid

play_holds : (start : Start) (play : Play)
    → HoldsInCall (logs_after start play).progress (logs_after start play).records
unfolding logs_after next_record with_events
play_holds start [] = tt
play_holds start (events ∷ play) =
    record_holds start (with_events (logs_after start play) events) (asks_reset events)
    (valid_after start play) (play_holds start play)

-- the flag over the records until the call
abbrev aux_until : Logs → Bool
aux_until logs = aux (map blank_seen (records_until_call logs.records))

-- at each moment of a play it is that over all records
until_after : (start : Start) (logs : Logs) (reset : Bool)
    → (aux_seen logs ≡ true → are_valid (logged_bounds start logs) ≡ true)
    → HoldsInCall logs.progress logs.records
    → aux_until (with_record start logs (record_of start logs reset))
    ≡ aux_seen (with_record start logs (record_of start logs reset))
unfolding with_record
until_after start logs reset valid holds =
    let entry : BusRecord = record_of start logs reset in
    let records : List SeenRecord =
    record { entry = entry; bounds = logged_bounds start logs } ∷ logs.records in
    let Claim : List SeenRecord → Type 0 =
    λ until. aux (map blank_seen until) ≡ aux (map blank_seen records) in
    cond_both (goes_on_in_call entry) (records_until_call logs.records) records Claim
    (λ goes_on.
    let parts = and_parts (is_rom entry.kind && not (entry.pc == ROM_ENTRY)) (is_none entry.reset)
    goes_on in
    let rom = (and_parts (is_rom entry.kind) (not (entry.pc == ROM_ENTRY)) parts.0).0 in
    let state : CallState records =
    record_flag start logs reset valid holds (none_of entry.reset parts.1)
    (sym (record_of-kind start logs reset) ∙ rom_kind entry.kind rom) in
    ap (λ (until : List SeenRecord). aux (map blank_seen until))
    (sym (cond-true (goes_on_in_call entry) (records_until_call logs.records) records goes_on))
    ∙ state.flag)
    (λ other. refl)

until-is : (start : Start) (play : Play)
    → aux_until (logs_after start play) ≡ aux_seen (logs_after start play)
unfolding logs_after next_record with_events
until-is start [] = refl
until-is start (events ∷ play) =
    until_after start (with_events (logs_after start play) events) (asks_reset events)
    (valid_after start play) (play_holds start play)

-- so memory shows the flag as it is
pub shown-is : (start : Start) (play : Play) → start.second_flag ≡ aux
    → aux_of start (logs_after start play) ≡ aux_seen (logs_after start play)
shown-is start play is_aux =
    ap (λ (flag : SeenHistory → Bool).
    flag (map blank_seen (records_until_call (logs_after start play).records))) is_aux
    ∙ until-is start play

-- after a finished call, whatever it decided
pub finished-trusted_run : (start : Start) (play : Play) → start.second_flag ≡ aux
    → is_some (last_decision start play) ≡ true
    → aux_of start (logs_after start play) ≡ true
    → TrustedRun (logged_bounds start (logs_after start play)) (trace start play)
finished-trusted_run start play is_aux finished set =
    finished-run TrustedInterrupts start play finished (sym (shown-is start play is_aux) ∙ set)

pub decision-trusted_run : (start : Start) (play : Play) → start.second_flag ≡ aux
    → AuxAfterCallMeansTrustedRun start play
decision-trusted_run start play is_aux decision is set =
    finished-trusted_run start play is_aux (ap (λ (one : Option ℕ). is_some one) is) set

pub report-trusted_run : (start : Start) (play : Play) (report : ReportFields)
    → start.second_flag ≡ aux → last_report start play ≡ Some report → report.aux ≡ true
    → TrustedRun report.bounds (trace start play)
report-trusted_run start play report is_aux is set =
    report-run TrustedInterrupts start play report is
    (λ step made. sym (shown-is start play is_aux) ∙ (ap (λ (r : ReportFields). r.aux) made ∙ set))

pub denial-trusted_run : (start : Start) (play : Play) (denial : ℕ)
    → start.second_flag ≡ aux → last_denial start play ≡ Some denial
    → aux_of start (logs_after start play) ≡ true
    → TrustedRun (logged_bounds start (logs_after start play)) (trace start play)
denial-trusted_run start play denial is_aux is set =
    finished-trusted_run start play is_aux
    (denied_where (logs_after start play).decision denial is) set
