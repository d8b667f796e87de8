-- What happened to each peripheral: what the events of a step and its record add to the lists.
use Rattle.std.specs.Prelude.{◌==◌, ◌++◌, ℕ, List, [], ◌∷◌, Option, Some, None, if◌then◌else◌}
use Rattle.word_arith.specs.{declared.size.Size.{Size, TheVariants.Word}, Number.Word16}
use Rattle.device_types.specs.{declared.{access.Access.{Access, TheVariants.{Fetch, Read, Write}}, event.Event.{Event, TheVariants.{Rx, Pins, Dma, Reset}}, region.Region.Region, rule.Rule.Rule}, Map.{lies_in, pins_region, serial_region, timer_region, dma_region, SERIAL_VECTOR, TIMER_VECTOR}, Address.Address}
use Rattle.part_definitions.specs.{Dma.{DmaEvent, TransferStart, DmaAccess, dma_read}, Pins.pins_read, Serial.{SerialEvent, Arrival, Load, serial_read, serial_requests}, Timer.{TimerEvent, Tick, Acceptance, timer_read, timer_requests}}
use Rattle.part_definitions.specs.Dma as DmaEngine
use Rattle.part_definitions.specs.Serial as SerialPort
use Rattle.part_definitions.specs.Timer as IntervalTimer

pub record Peripherals : Type 0 where
  pub timer : List TimerEvent
  pub serial : List SerialEvent
  pub dma : List DmaEvent
  pub pins : List Word16

abbrev pub power_on_peripherals : Peripherals
power_on_peripherals = record { timer = []; serial = []; dma = []; pins = [] }

abbrev pub with_event : Peripherals → Event → Peripherals
with_event parts (Rx byte) = record parts { serial = Arrival byte ∷ parts.serial }
with_event parts (Pins word) = record parts { pins = word ∷ parts.pins }
with_event parts (Dma source destination words) =
    record parts { dma = TransferStart source destination words ∷ parts.dma }
with_event parts Reset = parts

-- the events of a step, in their order
abbrev pub with_all_events : Peripherals → List Event → Peripherals
with_all_events parts [] = parts
with_all_events parts (event ∷ events) = with_all_events (with_event parts event) events

-- what a read of this place gives; other places read 0
abbrev pub peripheral_read : Peripherals → Address → Size → ℕ
peripheral_read parts place size =
    if lies_in serial_region place then serial_read parts.serial place size
    else if lies_in timer_region place then timer_read parts.timer place size
    else if lies_in dma_region place then dma_read parts.dma place size
    else if lies_in pins_region place then pins_read parts.pins place size
    else 0

-- the vectors of the interrupts that parts ask for; the greatest is accepted first (SLAU049)
abbrev pub requests : Peripherals → List ℕ
requests parts =
    (if serial_requests parts.serial then SERIAL_VECTOR ∷ [] else [])
    ++ (if timer_requests parts.timer then TIMER_VECTOR ∷ [] else [])

-- the processor's access, where it is a write to a register of the part in this region
abbrev pub with_store : {E : Type 0} → Region → (Address → Size → ℕ → E) → Option Access → List E
    → List E
with_store region store (Some (Write place size number)) events =
    if lies_in region place then store place size number ∷ events else events
with_store region store access events = events

-- the entry of the interrupt with this vector may begin in this step
abbrev pub with_acceptance : Option ℕ → List TimerEvent → List TimerEvent
with_acceptance None events = events
with_acceptance (Some vector) events =
    if vector == TIMER_VECTOR then Acceptance ∷ events else events

-- a step ends; a refused one resets the timer
abbrev pub timer_after :
    Option Rule → Option ℕ → Option Access → List TimerEvent → List TimerEvent
timer_after None acceptance access events =
    Tick ∷ with_acceptance acceptance (with_store timer_region IntervalTimer.Store access events)
timer_after (Some rule) acceptance access events = IntervalTimer.DeviceReset ∷ events

-- the processor's access, where it is the serial port's
abbrev pub with_serial_read : Address → Size → List SerialEvent → List SerialEvent
with_serial_read place size events =
    if lies_in serial_region place then Load place size ∷ events else events

abbrev pub serial_after : Option Rule → Option Access → List SerialEvent → List SerialEvent
serial_after None None events = events
serial_after None (Some (Fetch place)) events = with_serial_read place Word events
serial_after None (Some (Read place size)) events = with_serial_read place size events
serial_after None (Some (Write place size number)) events =
    if lies_in serial_region place then SerialPort.Store place size number ∷ events else events
serial_after (Some rule) access events = SerialPort.DeviceReset ∷ events

-- the engine's own access, which takes a value
abbrev pub with_dma_value : Option Access → Word16 → List DmaEvent → List DmaEvent
with_dma_value None value events = events
with_dma_value (Some access) value events = DmaAccess value ∷ events

abbrev pub dma_after :
    Option Rule → Option Access → Option Access → Word16 → List DmaEvent → List DmaEvent
dma_after None cpu dma value events =
    with_dma_value dma value (with_store dma_region DmaEngine.Store cpu events)
dma_after (Some rule) cpu dma value events = DmaEngine.DeviceReset ∷ events

-- a step ends: the rule that refuses it, the interrupt that it takes, its accesses, the DMA's value
abbrev pub with_step :
    Option Rule → Option ℕ → Option Access → Option Access → Word16 → Peripherals → Peripherals
with_step reset acceptance cpu dma value parts =
    record {
      timer = timer_after reset acceptance cpu parts.timer;
      serial = serial_after reset cpu parts.serial;
      dma = dma_after reset cpu dma value parts.dma;
      pins = parts.pins;
    }
