-- What a waveform shows of each step of a play.
use Rattle.std.specs.Prelude.{◌%◌, ℕ, List, [], ◌∷◌, Option, Some, None, if◌then◌else◌}
use Rattle.word_arith.specs.{declared.size.Size.{Size, TheVariants.Word}}
use Rattle.device_types.specs.{Address.Address, declared.{access.Access.{Access, TheVariants.{Fetch, Read}}, bus_record.BusRecord.BusRecord, event.Event.Event, rule.Rule.Rule}}
use Rattle.part_definitions.specs.{Pins.pins_word, Serial.takes_byte, Timer.timer_flag}
use Rattle.device_trace.specs.{Logs.{Logs, aux_of}, Peripherals.with_all_events, Trace.{Play, logs_after}, Progress.last_registers, Start.Start, Step.next_record, Text.byte_sent_in}
use Rattle.trace_files.specs.{declared.{ports.Ports.Ports, sample.Sample.Sample, state.State.State}, TraceText.next_line}

-- the byte of a read that takes one from the serial port; 0 where none waited
abbrev pub byte_received : Address → Size → ℕ → Option ℕ
byte_received place size value = if takes_byte place size then Some (value % 256) else None

-- the byte that an access which was not refused received by the serial port
abbrev pub byte_received_by : Option Rule → Option Access → ℕ → Option ℕ
byte_received_by None (Some (Fetch place)) value = byte_received place Word value
byte_received_by None (Some (Read place size)) value = byte_received place size value
byte_received_by rule access value = None

abbrev pub byte_received_in : BusRecord → Option ℕ
byte_received_in entry = byte_received_by entry.reset entry.cpu entry.value

-- the ports in the step with these events: the pins with the events, and the bytes of its access
abbrev pub ports_with : Logs → List Event → BusRecord → Ports
ports_with logs events entry =
    record {
      pins = pins_word (with_all_events logs.peripherals events).pins;
      sent = byte_sent_in entry;
      received = byte_received_in entry;
    }

abbrev pub next_ports : Start → Logs → List Event → Ports
next_ports start logs events = ports_with logs events (next_record start logs events)

-- what no line tells of these logs
abbrev pub state_of : Start → Logs → State
state_of start logs =
    record {
      registers = last_registers logs.progress;
      aux = aux_of start logs;
      timer_flag = timer_flag logs.peripherals.timer;
    }

abbrev pub play_state : Start → Play → State
play_state start play = state_of start (logs_after start play)

-- a step's line, its ports, and the state after it
abbrev pub next_sample : Start → List Event → Play → Sample
next_sample start events play =
    record {
      line = next_line start (logs_after start play) events;
      ports = next_ports start (logs_after start play) events;
      state = play_state start (events ∷ play);
    }

-- of all steps, the newest first
unfoldable pub wave_samples : Start → Play → List Sample
wave_samples start [] = []
wave_samples start (events ∷ play) = next_sample start events play ∷ wave_samples start play

-- of the last step of a play
abbrev pub last_ports : Start → Play → Option Ports
last_ports start [] = None
last_ports start (events ∷ play) = Some (next_ports start (logs_after start play) events)

abbrev pub last_sample : Start → Play → Option Sample
last_sample start [] = None
last_sample start (events ∷ play) = Some (next_sample start events play)
