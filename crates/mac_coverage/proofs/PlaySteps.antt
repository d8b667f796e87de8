-- The next step of a play, where it is one of the ROM.
use Rattle.std.{proofs.{Common.{◌≡◌, ℕ, ◌≤◌, true, false, List, [], ◌∷◌, None, length, refl, ap, sym, ◌∙◌, subst}, lemmas.Bool.{cond-false, cond-true}}, specs.Prelude.{◌==◌, Option, Some}}
use Rattle.device_types.specs.{declared.{access.Access.{Access, TheVariants.{Fetch, Read, Write}}, bus_record.BusRecord.BusRecord, event.Event.Event, kind.Kind.TheVariants.Rom}, Map.ROM_ENTRY, ExecFlag.last_pc}
use Rattle.part_definitions.{specs.Attestation.{call_item, item_pc}, proofs.BytesFrom.length-bytes_from}
use Rattle.device_trace.specs.{Trace.{Play, byte_after, logs_after, trace}, Logs.{step_progress, with_events, with_record}, Progress.{InCall, next_pc_of}, Signals.step_kind, Step.{asks_reset, next_record}}
use Rattle.trace_facts.proofs.ExecFlag.{logs_after-valid}
use Rattle.mac_coverage.{specs.{AttestedBytes.{AttestedBytes, without_flag_words}, Coverage.{begins_call, last_call, attested_after, kept_after}}, proofs.{Calls.{CallSoFar, call-begins, earlier_records, entry_at, log_at}, Device.{Device, start_of, start_of-bytes, byte_after-byte}, ExecKept.IsRomStep, MemoryKept.{attested-but_flags, attested-same}, WordPlan.{IsCounter, Plan}, Words.bytes_from-are, Steps.{IsCallStep, IsInRom, OnCall, bytes-alike, bytes-same, record_of-call, record_of-kind, record_of-pc}}}

-- the last record wrote the high word of the kept counter
abbrev pub WritesHighWord : Option Access → Type 0
WritesHighWord None = ⊥
WritesHighWord (Some (Fetch place)) = ⊥
WritesHighWord (Some (Read place size)) = ⊥
WritesHighWord (Some (Write place size number)) = place ≡ 0x4062

abbrev pub LastWroteHighWord : List BusRecord → Type 0
LastWroteHighWord [] = ⊥
LastWroteHighWord (entry ∷ history) = (entry.reset ≡ None) × WritesHighWord entry.cpu

abbrev pub plan_of : Device → AttestedBytes → List ℕ → Plan
plan_of device contents kept = record { device = device; contents = contents; kept = kept }

-- after a play that is in a call
pub record CallGoesOn (device : Device) (play : Play) (words : List ℕ) : Type 0 where
  pub contents : AttestedBytes
  pub kept : List ℕ
  pub so_far :
      CallSoFar (plan_of device contents kept) play (last_call (trace (start_of device) play)) words
  pub made : length (last_call (trace (start_of device) play)) ≡ length words
  pub high : length words ≡ 75 → LastWroteHighWord (trace (start_of device) play)
  pub begun : 1 ≤ length words
  pub last : IsInRom (last_pc (logs_after (start_of device) play).records)

abbrev pub PlayStands : Device → Play → Type 0
PlayStands device play =
    OnCall (λ regs words. CallGoesOn device play words) (logs_after (start_of device) play).progress

pub entry-kind : (device : Device) (play : Play) (events : List Event)
    → (entry_at device play events).kind ≡ step_kind (log_at device play events)
unfolding next_record
entry-kind device play events =
    record_of-kind (start_of device) (log_at device play events) (asks_reset events)

-- the next step is one of a call in which these words passed
pub record IsTurnOfCall (device : Device) (play : Play) (events : List Event)
    (regs words : List ℕ) : Type 0 where
  pub kind : step_kind (log_at device play events) ≡ Rom
  pub progress :
      step_progress (log_at device play events) (step_kind (log_at device play events))
      ≡ InCall regs words

pub entry-pc : (device : Device) (play : Play) (events : List Event)
    (regs words : List ℕ)
    → IsTurnOfCall device play events regs words
    → (entry_at device play events).pc ≡ item_pc (call_item words)
unfolding next_record
entry-pc device play events regs words turn =
    record_of-pc (start_of device) (log_at device play events) (asks_reset events)
    ∙ ap next_pc_of turn.progress

pub entry-step : (device : Device) (play : Play) (events : List Event)
    (regs words : List ℕ)
    → IsTurnOfCall device play events regs words
    → (entry_at device play events).reset ≡ None
    → IsCallStep (start_of device) (log_at device play events) regs words
    (entry_at device play events)
unfolding next_record
entry-step device play events regs words turn none =
    record_of-call (start_of device) (log_at device play events) (asks_reset events) regs words none
    turn.kind turn.progress

-- the kept counter is of bytes
pub kept-is : (device : Device) (play : Play)
    → IsCounter (kept_after (start_of device) play)
kept-is device play =
    record {
      size = length-bytes_from (byte_after (start_of device) play) 0x4060 4;
      bytes =
          bytes_from-are (byte_after (start_of device) play) 0x4060 4
          (λ place. byte_after-byte (start_of device) play place (start_of-bytes device));
    }

pub none_earlier : (device : Device) (play : Play) (events : List Event)
    → begins_call (entry_at device play events) ≡ true
    → earlier_records device play events ≡ []
none_earlier device play events begins =
    cond-true (begins_call (entry_at device play events)) []
    (last_call (trace (start_of device) play)) begins

pub first_step : (device : Device) (play : Play) (events : List Event) (contents : AttestedBytes)
    → begins_call (entry_at device play events) ≡ true
    → without_flag_words (attested_after (start_of device) play) ≡ without_flag_words contents
    → CallSoFar (plan_of device contents (kept_after (start_of device) play)) play
    (earlier_records device play events) []
first_step device play events contents begins alike =
    let plan : Plan = plan_of device contents (kept_after (start_of device) play) in
    subst (λ (call : List BusRecord). CallSoFar plan play call [])
    (sym (none_earlier device play events begins))
    (call-begins plan play (kept-is device play) refl alike)

pub all_earlier : (device : Device) (play : Play) (events : List Event)
    → begins_call (entry_at device play events) ≡ false
    → earlier_records device play events ≡ last_call (trace (start_of device) play)
all_earlier device play events goes_on =
    cond-false (begins_call (entry_at device play events)) []
    (last_call (trace (start_of device) play)) goes_on

pub later_step : (plan : Plan) (play : Play) (events : List Event) (words : List ℕ)
    → begins_call (entry_at plan.device play events) ≡ false
    → CallSoFar plan play (last_call (trace (start_of plan.device) play)) words
    → CallSoFar plan play (earlier_records plan.device play events) words
later_step plan play events words goes_on so_far =
    subst (λ (call : List BusRecord). CallSoFar plan play call words)
    (sym (all_earlier plan.device play events goes_on)) so_far

-- what a step of the ROM leaves
pub after_step-alike : (device : Device) (play : Play) (events : List Event)
    → IsRomStep (entry_at device play events)
    → without_flag_words (attested_after (start_of device) play)
    ≡ without_flag_words (attested_after (start_of device) (events ∷ play))
unfolding logs_after with_events
after_step-alike device play events step =
    sym (attested-but_flags (byte_after (start_of device) (events ∷ play))
    (byte_after (start_of device) play)
    (bytes-alike (start_of device) (log_at device play events) (entry_at device play events) step))

pub after_step-same : (device : Device) (play : Play) (events : List Event)
    → IsRomStep (entry_at device play events)
    → ((entry_at device play events).pc == ROM_ENTRY) ≡ false
    → IsInRom (last_pc (logs_after (start_of device) play).records)
    → attested_after (start_of device) (events ∷ play)
    ≡ attested_after (start_of device) play
unfolding logs_after with_events
after_step-same device play events step later last =
    attested-same (byte_after (start_of device) (events ∷ play)) (byte_after (start_of device) play)
    (bytes-same (start_of device) (log_at device play events) (entry_at device play events) step
    later (logs_after-valid (start_of device) play) last)

pub last-in_rom : (device : Device) (play : Play) (events : List Event)
    → IsRomStep (entry_at device play events)
    → IsInRom (last_pc (logs_after (start_of device) (events ∷ play)).records)
unfolding logs_after with_record
last-in_rom device play events step =
    record { pc = (entry_at device play events).pc; is = refl; code = step.code }
