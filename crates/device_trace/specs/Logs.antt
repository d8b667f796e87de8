-- What happened to each part of the device, made from events and records by one projection a part.
use Rattle.std.specs.Prelude.{◌==◌, ◌&&◌, ◌++◌, ℕ, Bool, not, List, [], ◌∷◌, map, Option, Some, None, is_none, if◌then◌else◌}
use Rattle.device_types.specs.{declared.{access.Access.{Access, TheVariants.Write}, bus_record.BusRecord.BusRecord, event.Event.Event, kind.Kind.{Kind, TheVariants.Rom}, rule.Rule.Rule, bounds.Bounds.Bounds}, Kind.{is_irq, is_rom}, Map.{lies_in, mac_region, ROM_ENTRY, ROM_EXIT}, ExecFlag.{SeenRecord, exec}}
use Rattle.part_definitions.specs.{Attestation.decision_read, CpuRegister.allows_interrupts, CpuState.Boundary, Interrupt.first_vector, Memory.{MemoryWrite, ShownFlags, with_access, byte_at}, Metadata.bounds_in}
use Rattle.device_trace.specs.{Blank.blank_seen, Progress.{level_after, Progress, Held, Runs, InCall, last_registers, progress_within, next_progress}, Peripherals.{Peripherals, power_on_peripherals, with_all_events, requests, with_step}, Start.Start}

pub record Logs : Type 0 where
  pub progress : Progress
  pub memory : List MemoryWrite
  pub peripherals : Peripherals
  -- all records with the bounds before each, the newest first
  pub records : List SeenRecord
  -- the words that calls wrote to the MAC, oldest first
  pub released_words : List ℕ
  -- the decision of the call that the last step finished
  pub decision : Option ℕ
  -- how many handlers were entered and not left
  pub level : ℕ

abbrev pub power_on_logs : Logs
power_on_logs =
    record {
      progress = Held;
      memory = [];
      peripherals = power_on_peripherals;
      records = [];
      released_words = [];
      decision = None;
      level = 0;
    }

abbrev pub exec_of : Logs → Bool
exec_of logs = exec logs.records

-- a step of a call after its first, which is not refused
abbrev pub goes_on_in_call : BusRecord → Bool
goes_on_in_call entry =
    is_rom entry.kind && not (entry.pc == ROM_ENTRY) && is_none entry.reset

-- the records but for those of the last call, under way or just finished, after its first
abbrev pub records_until_call : List SeenRecord → List SeenRecord
records_until_call [] = []
records_until_call (now ∷ before) =
    if goes_on_in_call now.entry then records_until_call before else now ∷ before

-- the second flag as memory shows it: it sees no secret, and stays through all steps of a call
abbrev pub aux_shown : Start → List SeenRecord → Bool
aux_shown start records = start.second_flag (map blank_seen (records_until_call records))

abbrev pub flags_shown : Start → List SeenRecord → ShownFlags
flags_shown start records = record { exec = exec records; aux = aux_shown start records }

abbrev pub aux_of : Start → Logs → Bool
aux_of start logs = aux_shown start logs.records

abbrev pub flags_of : Start → Logs → ShownFlags
flags_of start logs = flags_shown start logs.records

abbrev pub logged_byte : Start → Logs → ℕ → ℕ
logged_byte start logs place = byte_at start.power (flags_of start logs) logs.memory place

abbrev pub logged_bounds : Start → Logs → Bounds
logged_bounds start logs = bounds_in (logged_byte start logs)

-- the vector of the interrupt that could be accepted, where the processor allows any (GIE)
abbrev pub vector_of : Logs → Option ℕ
vector_of logs =
    if allows_interrupts (last_registers logs.progress)
    then first_vector (requests logs.peripherals) else None

abbrev pub step_progress : Logs → Kind → Progress
step_progress logs kind = progress_within logs.progress kind (vector_of logs)

-- the vector of the interrupt whose entry begins in a step of this kind
abbrev pub vector_taken : Progress → Kind → Option ℕ → Option ℕ
vector_taken (Runs (Boundary regs)) kind vector = if is_irq kind then vector else None
vector_taken progress kind vector = None

-- a step that breaks a rule resets the device
abbrev pub progress_after : Option Rule → Kind → Progress → Option Access → ℕ → Progress
progress_after None kind progress access value = next_progress kind progress access value
progress_after (Some rule) kind progress access value = Held

-- the processor's write comes before the DMA's; a refused step writes nothing
abbrev pub memory_after :
    Option Rule → Option Access → Option Access → List MemoryWrite → List MemoryWrite
memory_after None cpu dma writes = with_access dma (with_access cpu writes)
memory_after (Some rule) cpu dma writes = writes

-- a word that the ROM writes to the MAC is released
abbrev pub with_released_word : Option Access → List ℕ → List ℕ
with_released_word (Some (Write place size number)) words =
    if lies_in mac_region place then words ++ number ∷ [] else words
with_released_word access words = words

abbrev pub released_words_after : Option Rule → Kind → Option Access → List ℕ → List ℕ
released_words_after None Rom access words = with_released_word access words
released_words_after rule kind access words = words

-- the return read of a call that was not refused finishes the call
abbrev pub finishes_call : BusRecord → Bool
finishes_call entry = is_rom entry.kind && (entry.pc == ROM_EXIT) && is_none entry.reset

abbrev pub call_decision : Progress → Option ℕ
call_decision (InCall regs words) = Some (decision_read words)
call_decision progress = None

abbrev pub decision_after : Progress → BusRecord → Option ℕ
decision_after progress entry = if finishes_call entry then call_decision progress else None

abbrev pub peripherals_after : Logs → BusRecord → Peripherals
peripherals_after logs entry =
    with_step entry.reset (vector_taken logs.progress entry.kind (vector_of logs)) entry.cpu
    entry.dma entry.dma_value logs.peripherals

unfoldable pub with_events : Logs → List Event → Logs
with_events logs events = record logs { peripherals = with_all_events logs.peripherals events }

-- a record comes, after the events of its step
unfoldable pub with_record : Start → Logs → BusRecord → Logs
with_record start logs entry =
    let before : Progress = step_progress logs entry.kind in
    let after : Progress =
    progress_after entry.reset entry.kind before entry.cpu entry.value in
    record {
      progress = after;
      memory = memory_after entry.reset entry.cpu entry.dma logs.memory;
      peripherals = peripherals_after logs entry;
      records = record { entry = entry; bounds = logged_bounds start logs } ∷ logs.records;
      released_words = released_words_after entry.reset entry.kind entry.cpu logs.released_words;
      decision = decision_after before entry;
      level = level_after logs.progress after logs.level;
    }
