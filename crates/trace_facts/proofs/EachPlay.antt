-- What holds after every play: of the progress, where each step that is not refused keeps it, and
-- of the records, where the progress between two steps is sound.
use Rattle.std.proofs.Common.{◌≡◌, ℕ, Bool, [], ◌∷◌, Option, Some, None, refl}
use Rattle.device_types.specs.{declared.{access.Access.Access, kind.Kind.{Kind, TheVariants.{Boot, Cpu, Idle, Irq, Rom}}, rule.Rule.Rule}, ExecFlag.last_pc}
use Rattle.part_definitions.specs.{CpuState.{CpuState, cpu_after}, FirstRule.first_rule}
use Rattle.device_trace.specs.{Trace.{Play, logs_after}, Logs.{Logs, step_progress, progress_after, with_events, with_record}, Progress.{Progress, Held, next_pc_of, cpu_state_after, next_progress}, Signals.{step_kind, signals_at, signals_of}, Start.Start, Step.{record_of, next_record}}

-- what is said of a progress and the `pc` of the last record
abbrev pub Claim : Type 1
Claim = Progress → Option ℕ → Type 0

abbrev pub HoldsAfter : Claim → Logs → Type 0
HoldsAfter Holds logs = Holds logs.progress (last_pc logs.records)

-- it holds where the device is held, and each step that is not refused keeps it
pub record IsKept (Holds : Claim) : Type 0 where
  pub held : (last : Option ℕ) → Holds Held last
  pub goes_on : (start : Start) (logs : Logs) (reset : Bool) → HoldsAfter Holds logs
      → first_rule (last_pc logs.records) (signals_of start logs reset) ≡ None
      → (access : Option Access) (value : ℕ)
      → Holds (next_progress (step_kind logs) (step_progress logs (step_kind logs)) access value)
      (Some (next_pc_of (step_progress logs (step_kind logs))))

module _ (Holds : Claim) (kept : IsKept Holds) where
  by_rule : (rule : Option Rule) (kind : Kind) (progress : Progress) (access : Option Access)
      (value : ℕ) (last : Option ℕ)
      → (rule ≡ None → Holds (next_progress kind progress access value) last)
      → Holds (progress_after rule kind progress access value) last
  by_rule None kind progress access value last goes_on = goes_on refl
  by_rule (Some rule) kind progress access value last goes_on = kept.held last

  record_of-kept : (start : Start) (logs : Logs) (reset : Bool) → HoldsAfter Holds logs
      → HoldsAfter Holds (with_record start logs (record_of start logs reset))
  unfolding with_record record_of signals_at
  record_of-kept start logs reset holds =
      by_rule (first_rule (last_pc logs.records) (signals_of start logs reset))
      (step_kind logs) (step_progress logs (step_kind logs)) _ _ _
      (λ none. kept.goes_on start logs reset holds none _ _)

  pub logs_after-kept : (start : Start) (play : Play) → HoldsAfter Holds (logs_after start play)
  unfolding logs_after next_record with_events
  logs_after-kept start [] = kept.held None
  logs_after-kept start (events ∷ play) =
      record_of-kept start (with_events (logs_after start play) events) _
      (logs_after-kept start play)

-- a sleeping processor stays as it is
pub cpu_state_after-kept : (Holds : CpuState → Type 0) (kind : Kind) (cpu : CpuState) (value : ℕ)
    → Holds cpu → Holds (cpu_after cpu value) → Holds (cpu_state_after kind cpu value)
cpu_state_after-kept Holds Idle cpu value same after = same
cpu_state_after-kept Holds Boot cpu value same after = after
cpu_state_after-kept Holds Cpu cpu value same after = after
cpu_state_after-kept Holds Irq cpu value same after = after
cpu_state_after-kept Holds Rom cpu value same after = after
