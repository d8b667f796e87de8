-- Steps without events over quiet accesses.
use Rattle.std.specs.Prelude.{◌≡◌, ◌-◌, ◌⊎◌, ℕ, Bool, true, [], ◌∷◌, Option, Some, None}
use Rattle.device_types.specs.{declared.{access.Access.{Access, TheVariants.Fetch}, bus_record.BusRecord.BusRecord, kind.Kind.TheVariants.Idle}, Address.even, TraceFlag.Flag}
use Rattle.part_definitions.specs.{CpuRegister.{Registers, pc_of}, CpuState.Boundary}
use Rattle.hmac_core.specs.Hash.{Hash}
use Rattle.device_trace.specs.{Logs.{Logs, flags_of}, Trace.{Play, logs_after}, Progress.Runs, Signals.step_kind, Start.Start, Step.{next_record, record_of}}
use Rattle.device_core.specs.{Machine.{MachineStandsFor, PlaysAt}, Silence.{OfEach, is_silent}, declared.{last_step.LastStep.LastStep, machine.Machine.Machine, stage.Stage.Stage}}

-- whether a row goes over a step, by the accesses of processor or ROM and of the DMA
abbrev pub Question : Type 0
Question = Option Access → Option Access → Bool

-- it goes over the step of this record
abbrev pub GoesOver : Question → BusRecord → Type 0
GoesOver quiet entry = quiet entry.cpu entry.dma ≡ true

-- it may go on here: at a boundary the processor sleeps, or a fetch there is quiet
abbrev pub IsOpen : Question → Logs → Type 0
IsOpen quiet logs =
    (regs : Registers)
    → logs.progress ≡ Runs (Boundary regs)
    → (step_kind logs ≡ Idle) ⊎ (quiet (Some (Fetch (even (pc_of regs)))) None ≡ true)

-- the step after a play, without events: it is gone over, has no line and leaves the flags as they
-- are
pub record IsQuiet (quiet : Question) (start : Start) (play : Play) : Type 0 where
  pub made : GoesOver quiet (next_record start (logs_after start play) [])
  pub silent : is_silent start ([] ∷ play) ≡ true
  pub same_flags : flags_of start (logs_after start ([] ∷ play))
      ≡ flags_of start (logs_after start play)

-- so are the first so many
abbrev pub AreQuiet : Question → Start → ℕ → Play → Type 0
AreQuiet quiet start steps play = OfEach (IsQuiet quiet start) steps play

-- and before each of them it may go on
abbrev pub AreOpen : Question → Start → ℕ → Play → Type 0
AreOpen quiet start steps play =
    OfEach (λ before. IsOpen quiet (logs_after start before)) steps play

-- so are the next so many of a machine at this stage
abbrev pub GoesQuietly :
    {D G : Type 0} → Hash D → Flag G → Question → Stage → Machine D G → ℕ → Type 0
GoesQuietly hash flag quiet stage old steps =
    (start : Start) (play : Play)
    → PlaysAt hash flag stage old start play
    → AreQuiet quiet start steps play × AreOpen quiet start steps play

-- a step after its events, from logs of which this holds, is gone over where it is not kept
abbrev pub KeepsUnquiet :
    {D G : Type 0} → Hash D → Flag G
    → Question → Machine D G → (Logs → Type 0) → Bool → Machine D G → Type 0
KeepsUnquiet hash flag quiet old when script_reset new =
    (start : Start) (logs : Logs)
    → MachineStandsFor hash flag old start logs
    → when logs
    → new.bus.last ≡ None
    → GoesOver quiet (record_of start logs script_reset)

-- a row of so many steps after a play: all but the last are quiet, and so is the last where it is
-- not kept; between them it may go on
pub record IsRow (quiet : Question) (last : Option LastStep) (start : Start) (steps : ℕ)
    (play : Play) : Type 0 where
  pub quietly : AreQuiet quiet start (steps - 1) play
  pub between : AreOpen quiet start (steps - 1) ([] ∷ play)
  pub unkept : last ≡ None → AreQuiet quiet start steps play
