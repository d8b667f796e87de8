-- Steps of sleep in a row.
use Rattle.std.specs.Prelude.{◌≡◌, ℕ, zero, suc, false, map, Some, None}
use Rattle.device_types.specs.{declared.{bus_record.BusRecord.BusRecord, kind.Kind.TheVariants.Idle, signals.Signals.Signals, bounds.Bounds.Bounds}, Address.Address, ExecFlag.{last_pc, SeenHistory}, TraceFlag.{Flag, IsRecordOf}}
use Rattle.part_definitions.specs.{CpuRegister.pc_of, Dma.dma_access, FirstRule.first_rule}
use Rattle.device_peripherals.specs.Timer.{with_ticks}
use Rattle.device_trace.specs.{Blank.blank_seen, Logs.{Logs, aux_of, logged_bounds}, Peripherals.Peripherals, Progress.last_registers, Signals.step_kind, Start.Start, Step.record_of}
use Rattle.device_core.specs.{Bus.{LastStandsFor, logs_after_step}, FlagsKept.{LeavesFlags, MonitorsStandFor}, Machine.{DecisionStandsFor, IsAtBoundary}, declared.{bus.Bus.Bus, monitors.Monitors.Monitors}}

-- what a step of sleep at this `pc` is about to do: nothing
abbrev pub idle_signals : Address → Signals
idle_signals pc =
    record {
      kind = Idle;
      pc = pc;
      cpu = None;
      dma = None;
      irq = false;
      word = 0;
      opcode = false;
      script_reset = false;
    }

-- the peripherals after so many steps in which nobody has an access
abbrev pub with_idle_steps : ℕ → Peripherals → Peripherals
with_idle_steps steps parts = record parts { timer = with_ticks steps parts.timer }

-- the processor sleeps at this `pc`, and no interrupt could be accepted
pub record SleepsAt (pc : Address) (logs : Logs) : Type 0 where
  pub at_boundary : IsAtBoundary logs
  pub same_pc : pc ≡ pc_of (last_registers logs.progress)
  pub idle : step_kind logs ≡ Idle

-- the logs after so many steps without events
abbrev pub logs_idle : Start → ℕ → Logs → Logs
logs_idle start zero logs = logs
logs_idle start (suc steps) logs = logs_after_step start (logs_idle start steps logs) false

-- steps that are about to do this, after one with their `pc`, break no rule and leave both flags as
-- they are, however many they are
pub record Repeats {G : Type 0} (flag : Flag G) (monitors : Monitors G) (now : Signals)
    (bounds : Bounds) : Type 0 where
  pub same_pc : monitors.last_pc ≡ Some now.pc
  pub unbroken : (records : SeenHistory)
      → MonitorsStandFor flag monitors records
      → first_rule (last_pc records) now ≡ None
  pub leaves : (entry : BusRecord) (records : SeenHistory)
      → MonitorsStandFor flag monitors records
      → IsRecordOf now entry
      → LeavesFlags flag (record { entry = entry; bounds = bounds }) records

-- the next step leaves the bus as it is, but for the timer
pub record Rests {G : Type 0} (flag : Flag G) (bus : Bus G) (now : Signals) (start : Start)
    (logs : Logs) : Type 0 where
  pub repeats : Repeats flag bus.monitors now (logged_bounds start logs)
  pub unasked : dma_access logs.peripherals.dma ≡ None
  pub shown : aux_of start logs ≡ flag.value (map blank_seen logs.records)

-- the step from these logs, without events, is one of sleep
pub record IsOfSleep (start : Start) (logs : Logs) : Type 0 where
  pub idle : step_kind logs ≡ Idle
  pub no_access : (record_of start logs false).cpu ≡ None
  pub alone : (record_of start logs false).dma ≡ None

-- after steps of sleep the device is where it was, and the last of them has no line
pub record Sleeps (start : Start) (before after : Logs) : Type 0 where
  pub same_progress : after.progress ≡ before.progress
  pub same_last : LastStandsFor start None after.records
  pub same_decision : (decision : ℕ)
      → DecisionStandsFor decision before.decision
      → DecisionStandsFor decision after.decision
  pub same_level : after.level ≡ before.level
