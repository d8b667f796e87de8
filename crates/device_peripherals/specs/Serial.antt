-- Which events the serial port stands for.
use Rattle.std.specs.Prelude.{◌≡◌, List}
use Rattle.device_peripherals.specs.{Register.HoldsWrites, declared.serial.Serial.Serial}
use Rattle.part_definitions.specs.Serial.{SerialEvent, SERIAL_CONTROL, QUEUE_LENGTH, serial_writes, waiting_bytes, has_dropped}

-- the port is as these events, newest first, left it
pub record SerialStandsFor (port : Serial) (events : List SerialEvent) : Type 0 where
  pub same_control : HoldsWrites SERIAL_CONTROL port.control (serial_writes events)
  pub same_room : port.queue.capacity ≡ QUEUE_LENGTH
  pub same_waiting : port.queue.items ≡ waiting_bytes events
  pub same_dropped : port.has_dropped ≡ has_dropped events
