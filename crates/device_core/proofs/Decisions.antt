-- The decision of the call that a step finishes.
use Rattle.std.proofs.{Common.{◌≡◌, ◌∙◌, ◌&&◌, ◌==◌, ◌⊎◌, inl, inr, ℕ, Bool, true, false, List, [], ◌∷◌, Option, None, Some, is_none, is_some, if◌then◌else◌, refl, sym, ap}, lemmas.Bool.false≢true}
use Rattle.msp_decode.proofs.IllegalLemmas.{middle_false}
use Rattle.device_types.specs.{declared.{bus_record.BusRecord.BusRecord, event.Event.Event, kind.Kind.{Kind, TheVariants.{Boot, Cpu, Idle, Irq, Rom}}, rule.Rule.Rule}, Kind.is_rom, Map.ROM_EXIT, ExecFlag.last_pc}
use Rattle.part_definitions.specs.{Attestation.{CallItem, call_item, decision_read, is_return, item_pc}, FirstRule.first_rule, CpuRegister.Registers}
use Rattle.word_arith.specs.Number.{Word16}
use Rattle.device_trace.specs.{Trace.{Play, trace, last_record, logs_after}, Logs.{Logs, call_decision, finishes_call, step_progress, vector_of, with_events, with_record}, Progress.{Progress, InCall, last_registers, next_pc_of}, Signals.{signals_at, signals_of, step_kind, value_read}, Start.Start, Step.{asks_reset, next_record, record_of, value_recorded}, Text.last_decision}
use Rattle.mac_coverage.proofs.CallItems.{exit_returns}
use Rattle.device_core.{specs.{Bus.{answer_in, logs_after_step, value_unless}, Machine.DecisionStandsFor}, proofs.Turns.{within-rom, words_of}}

-- a step of the ROM is one of a call
decision-where :
    (kind : Kind) (within : Progress) (regs : Registers) (words : List Word16) (ends kept : Bool)
    → (kind ≡ Rom → within ≡ InCall regs words)
    → is_some (if is_rom kind && ends && kept then call_decision within else None)
    ≡ (is_rom kind && ends && kept)
decision-where Rom within regs words true true is = rw (is refl) refl
decision-where Rom within regs words true false is = refl
decision-where Rom within regs words false kept is = refl
decision-where Boot within regs words ends kept is = refl
decision-where Cpu within regs words ends kept is = refl
decision-where Idle within regs words ends kept is = refl
decision-where Irq within regs words ends kept is = refl

decision-finished :
    (start : Start) (logs : Logs) (reset : Bool)
    → is_some (logs_after_step start logs reset).decision
    ≡ finishes_call (record_of start logs reset)
unfolding with_record record_of signals_at
decision-finished start logs reset =
    decision-where (step_kind logs) (step_progress logs (step_kind logs))
    (last_registers logs.progress) (words_of logs.progress) _ _
    (λ rom. within-rom logs.progress (vector_of logs) (step_kind logs) refl rom)

after-events :
    (start : Start) (play : Play) (events : List Event)
    → logs_after start (events ∷ play)
    ≡ logs_after_step start (with_events (logs_after start play) events) (asks_reset events)
unfolding logs_after next_record
after-events start play events = refl

-- there is a decision where the last record finishes a call
pub last_decision-Some :
    (start : Start) (play : Play) (entry : BusRecord)
    → last_record (trace start play) ≡ Some entry
    → is_some (last_decision start play) ≡ finishes_call entry
unfolding trace next_record
last_decision-Some start [] entry last = absurd cc
last_decision-Some start (events ∷ play) entry last =
    let logs = with_events (logs_after start play) events in
    let same : record_of start logs (asks_reset events) ≡ entry = cc in
    ap (λ (here : Logs). is_some here.decision) (after-events start play events)
    ∙ (decision-finished start logs (asks_reset events) ∙ ap finishes_call same)

pub last_decision-None :
    (start : Start) (play : Play)
    → last_record (trace start play) ≡ None → last_decision start play ≡ None
unfolding trace logs_after
last_decision-None start [] last = refl
last_decision-None start (events ∷ play) last = absurd cc

-- a step of another kind has none
pub other-decision :
    (start : Start) (logs : Logs) (reset : Bool)
    → is_rom (step_kind logs) ≡ false → (logs_after_step start logs reset).decision ≡ None
unfolding with_record record_of signals_at
other-decision start logs reset other = rw other refl

pub other-rom : (kind : Kind) → (kind ≡ Cpu) ⊎ (kind ≡ Irq) → is_rom kind ≡ false
other-rom kind (inl cpu) = rw cpu refl
other-rom kind (inr irq) = rw irq refl

refused-none :
    (rule : Option Rule) (value : ℕ) (first middle : Bool) (decision : Option ℕ)
    → value_unless rule (value_recorded rule value) ≡ None
    → (if first && middle && is_none rule then decision else None) ≡ None
refused-none None value first middle decision none = absurd cc
refused-none (Some rule) value true true decision none = refl
refused-none (Some rule) value true false decision none = refl
refused-none (Some rule) value false middle decision none = refl

-- nor has a refused one
pub refused-decision :
    (start : Start) (logs : Logs) (reset : Bool)
    → answer_in (record_of start logs reset) ≡ None
    → (logs_after_step start logs reset).decision ≡ None
unfolding with_record record_of signals_at
refused-decision start logs reset none =
    refused-none (first_rule (last_pc logs.records) (signals_of start logs reset))
    (value_read start logs (signals_of start logs reset).cpu)
    (is_rom (record_of start logs reset).kind) ((record_of start logs reset).pc == ROM_EXIT)
    (call_decision (step_progress logs (record_of start logs reset).kind)) none

-- the record of a step of a call finishes it
abbrev pub ends_call : Start → Logs → Bool → Bool
ends_call start logs reset = finishes_call (record_of start logs reset)

pub call-decision :
    (start : Start) (logs : Logs) (reset : Bool) (regs : Registers) (words : List Word16)
    → step_progress logs (step_kind logs) ≡ InCall regs words
    → (logs_after_step start logs reset).decision
    ≡ (if ends_call start logs reset then Some (decision_read words) else None)
unfolding with_record record_of signals_at
call-decision start logs reset regs words within = rw within refl

not-exit : (item : CallItem) (ends : Bool)
    → (item_pc item == ROM_EXIT) ≡ ends → is_return item ≡ false → ends ≡ false
not-exit item true exit goes = absurd (false≢true (sym goes ∙ exit_returns item exit))
not-exit item false exit goes = refl

-- it does so at the return read alone
pub call-goes_on :
    (start : Start) (logs : Logs) (reset : Bool) (regs : Registers) (words : List Word16)
    → step_progress logs (step_kind logs) ≡ InCall regs words
    → is_return (call_item words) ≡ false
    → ends_call start logs reset ≡ false
unfolding record_of signals_at
call-goes_on start logs reset regs words within goes =
    let place : (next_pc_of (step_progress logs (step_kind logs)) == ROM_EXIT) ≡ false =
    rw within (not-exit (call_item words) _ refl goes) in
    middle_false _ _ _ place

-- what is kept stands for a decision that is there, and for none
pub decision-none : (kept : ℕ) (decision : Option ℕ) → decision ≡ None → DecisionStandsFor kept
    decision
decision-none kept decision none = rw none tt

pub decision-read :
    (kept word : ℕ) (ends : Bool)
    → kept ≡ word → DecisionStandsFor kept (if ends then Some word else None)
decision-read kept word true same = same
decision-read kept word false same = tt

pub decision-some :
    (kept : ℕ) (decision : Option ℕ)
    → DecisionStandsFor kept decision → is_some decision ≡ true → Some kept ≡ decision
decision-some kept (Some word) stands some = ap Some stands
decision-some kept None stands some = absurd cc

pub no_decision : (decision : Option ℕ) → is_some decision ≡ false → decision ≡ None
no_decision None none = refl
no_decision (Some word) none = absurd cc
