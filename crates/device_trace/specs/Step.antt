-- The record of a step.
use Rattle.std.specs.{Prelude.{ℕ, Bool, true, false, List, Option, Some, None}, List.list_any}
use Rattle.device_types.specs.{declared.{access.Access.Access, bus_record.BusRecord.BusRecord, event.Event.{Event, TheVariants.Reset}, rule.Rule.Rule, signals.Signals.Signals}, Access.without_number, ExecFlag.last_pc}
use Rattle.part_definitions.specs.{FirstRule.first_rule, Memory.{byte_at, memory_read, with_access}, CpuRegister.Registers}
use Rattle.device_trace.specs.{Logs.{Logs, flags_of, with_events}, Progress.last_registers, Signals.{value_read, signals_of}, Start.Start}

abbrev pub is_reset : Event → Bool
is_reset Reset = true
is_reset event = false

-- the script asks for a reset in this step
abbrev pub asks_reset : List Event → Bool
asks_reset events = list_any is_reset events

-- the numbers that the writes of a refused step carry stand as 0
abbrev pub access_recorded : Option Rule → Option Access → Option Access
access_recorded None access = access
access_recorded (Some rule) access = without_number access

abbrev pub value_recorded : Option Rule → ℕ → ℕ
value_recorded None value = value
value_recorded (Some rule) value = 0

-- what the DMA reads: it sees the processor's write of the same step, and no peripherals
abbrev pub dma_value_read : Start → Logs → Signals → ℕ
dma_value_read start logs now =
    memory_read
    (byte_at start.power (flags_of start logs) (with_access now.cpu logs.memory)) now.dma

-- the record of a step with these signals, from these registers, that read these values
abbrev pub record_from : Registers → Signals → Option Rule → ℕ → ℕ → BusRecord
record_from regs now rule value dma_value =
    record {
      kind = now.kind;
      pc = now.pc;
      regs = regs;
      cpu = access_recorded rule now.cpu;
      value = value_recorded rule value;
      dma = access_recorded rule now.dma;
      dma_value = value_recorded rule dma_value;
      irq = now.irq;
      reset = rule;
    }

-- the record of the next step, after its events
unfoldable pub record_of : Start → Logs → Bool → BusRecord
record_of start logs reset =
    let now : Signals = signals_of start logs reset in
    record_from (last_registers logs.progress) now (first_rule (last_pc logs.records) now)
    (value_read start logs now.cpu) (dma_value_read start logs now)

-- what the next step is about to do, with its events
abbrev pub next_signals : Start → Logs → List Event → Signals
next_signals start logs events = signals_of start (with_events logs events) (asks_reset events)

-- the record of the next step, with its events
unfoldable pub next_record : Start → Logs → List Event → BusRecord
next_record start logs events = record_of start (with_events logs events) (asks_reset events)
