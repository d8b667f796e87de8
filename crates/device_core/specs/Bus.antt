-- What the bus stands for, between two steps and within one.
use Rattle.std.specs.Prelude.{Bool, false, ◌≡◌, ◌&&◌, ℕ, [], ◌∷◌, Option, Some, None, is_some, IfSome}
use Rattle.device_types.specs.{declared.{access.Access.Access, bus_record.BusRecord.BusRecord, rule.Rule.Rule, signals.Signals.Signals}, TraceFlag.Flag, ExecFlag.{SeenHistory, SeenRecord}, Map.{dma_region, timer_region}}
use Rattle.part_definitions.specs.{Dma.{dma_access, Store as DmaStore}, CpuRegister.Registers, Timer.{Store as TimerStore}}
use Rattle.mem_map.specs.Memory.{MemoryStandsFor}
use Rattle.device_trace.specs.{Logs.{Logs, flags_of, flags_shown, vector_of, step_progress, vector_taken, with_record}, Progress.{next_pc_of, last_registers, tells_irq, fetches_opcode}, Signals.{signals_of, step_kind, proposed_access, value_read}, Start.Start, Step.{record_of, record_from, dma_value_read}, Peripherals.{Peripherals as PeripheralLogs, with_store, serial_after}}
use Rattle.device_core.specs.{FlagsKept.MonitorsStandFor, declared.{bus.Bus.Bus, last_step.LastStep.LastStep, turn.Turn.Turn, peripherals.Peripherals.Peripherals}, Silence.{where_refused, has_line}}
use Rattle.device_peripherals.specs.{Timer.TimerStandsFor, Pins.PinsStandFor, Serial.SerialStandsFor, Dma.DmaStandsFor}

-- What the peripherals stand for.

pub record PeripheralsStandFor (parts : Peripherals) (logs : PeripheralLogs) : Type 0 where
  pub same_timer : TimerStandsFor parts.timer logs.timer
  pub same_serial : SerialStandsFor parts.serial logs.serial
  pub same_dma : DmaStandsFor parts.dma logs.dma
  pub same_pins : PinsStandFor parts.pins logs.pins

-- after an access of the processor
abbrev pub with_processor_access : Option Access → PeripheralLogs → PeripheralLogs
with_processor_access access logs =
    record {
      timer = with_store timer_region TimerStore access logs.timer;
      serial = serial_after None access logs.serial;
      dma = with_store dma_region DmaStore access logs.dma;
      pins = logs.pins;
    }

-- the newest record, with the bounds before it
abbrev pub last_seen : SeenHistory → Option SeenRecord
last_seen [] = None
last_seen (now ∷ before) = Some now

-- a step that is kept, as a flag sees it
abbrev pub seen_in : LastStep → SeenRecord
seen_in step = record { entry = step.entry; bounds = step.bounds }

-- the last step, where it was kept; one that was not has no line, and leaves the flags as they are
abbrev pub LastStandsFor : Start → Option LastStep → SeenHistory → Type 0
LastStandsFor start (Some step) records = last_seen records ≡ Some (seen_in step)
LastStandsFor start None [] = Unit {0}
LastStandsFor start None (now ∷ before) =
    (has_line now.entry ≡ false)
    × (flags_shown start (now ∷ before) ≡ flags_shown start before)

pub record BusStandsFor {G : Type 0} (flag : Flag G) (bus : Bus G) (start : Start) (logs : Logs)
    : Type 0 where
  pub same_memory : MemoryStandsFor bus.memory start.power (flags_of start logs) logs.memory
  pub same_peripherals : PeripheralsStandFor bus.peripherals logs.peripherals
  pub same_monitors : MonitorsStandFor flag bus.monitors logs.records
  pub same_flag : start.second_flag ≡ flag.value
  pub same_last : LastStandsFor start bus.last logs.records

-- where the last step was kept, and was refused, this is what it was about to do
abbrev pub KeepsSignals : Option LastStep → Option Signals → Type 0
KeepsSignals last now = IfSome last (λ step. step.refused ≡ where_refused step.entry.reset now)

-- it is the turn of the step that comes next, from these registers
pub record TurnStandsFor (regs : Registers) (turn : Turn) (start : Start) (logs : Logs)
    : Type 0 where
  pub same_regs : regs ≡ last_registers logs.progress
  pub same_kind : turn.kind ≡ step_kind logs
  pub same_pc : turn.pc ≡ next_pc_of (step_progress logs (step_kind logs))
  pub same_access : turn.access ≡ proposed_access start logs (step_kind logs)
  pub same_irq : turn.irq ≡ (tells_irq logs.progress && is_some (vector_of logs))
  pub same_opcode : turn.opcode ≡ fetches_opcode (step_kind logs) logs.progress
  pub same_acceptance : turn.acceptance
      ≡ vector_taken logs.progress (step_kind logs) (vector_of logs)

-- what the access of the processor read, where the step was not refused
abbrev pub value_unless : Option Rule → ℕ → Option ℕ
value_unless None value = Some value
value_unless (Some rule) value = None

abbrev pub answer_in : BusRecord → Option ℕ
answer_in entry = value_unless entry.reset entry.value

-- the logs after a step whose events came already, and in which the script asks for a reset or not
abbrev pub logs_after_step : Start → Logs → Bool → Logs
logs_after_step start logs reset = with_record start logs (record_of start logs reset)

-- what the bus answers to this turn, in which the DMA asks for this access
abbrev pub AnswersTurn :
    {G : Type 0} → Flag G → Bus G → Registers → Turn → Option Access → Bool → Option ℕ → Type 0
AnswersTurn flag bus regs turn dma script_reset answer =
    (start : Start) (logs : Logs)
    → BusStandsFor flag bus start logs
    → TurnStandsFor regs turn start logs
    → dma ≡ dma_access logs.peripherals.dma
    → answer ≡ answer_in (record_of start logs script_reset)

-- the bus after a step from these logs, in which the script asks for a reset or not
pub record BusStandsAfter {G : Type 0} (flag : Flag G) (bus : Bus G) (start : Start) (logs : Logs)
    (script_reset : Bool) : Type 0 where
  pub same : BusStandsFor flag bus start (logs_after_step start logs script_reset)
  pub same_signals : KeepsSignals bus.last (Some (signals_of start logs script_reset))

-- the bus makes the step of this turn, or refuses it
abbrev pub MakesTurn :
    {G : Type 0} → Flag G → Bus G → Registers → Turn → Option Access → Bool → Bus G → Type 0
MakesTurn flag old regs turn dma script_reset new =
    (start : Start) (logs : Logs)
    → BusStandsFor flag old start logs
    → TurnStandsFor regs turn start logs
    → dma ≡ dma_access logs.peripherals.dma
    → BusStandsAfter flag new start logs script_reset

-- the record of a step with these signals that breaks no rule, and the logs after it
abbrev pub record_performed : Start → Logs → Registers → Signals → BusRecord
record_performed start logs regs now =
    record_from regs now None (value_read start logs now.cpu) (dma_value_read start logs now)

abbrev pub logs_performed : Start → Logs → Registers → Signals → Logs
logs_performed start logs regs now =
    with_record start logs (record_performed start logs regs now)

-- the bus makes such a step, in which the processor's access read this value
abbrev pub PerformsFrom :
    {G : Type 0}
    → Start → Logs → Flag G → Bus G → Registers → Option ℕ → Signals → ℕ → Bus G → Type 0
PerformsFrom start logs flag old regs acceptance now value new =
    BusStandsFor flag old start logs
    → value ≡ value_read start logs now.cpu
    → now.dma ≡ dma_access logs.peripherals.dma
    → acceptance ≡ vector_taken logs.progress now.kind (vector_of logs)
    → BusStandsFor flag new start (logs_performed start logs regs now)

abbrev pub Performs :
    {G : Type 0} → Flag G → Bus G → Registers → Option ℕ → Signals → ℕ → Bus G → Type 0
Performs flag old regs acceptance now value new =
    (start : Start) (logs : Logs)
    → PerformsFrom start logs flag old regs acceptance now value new
