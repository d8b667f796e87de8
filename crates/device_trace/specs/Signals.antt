-- What a step is about to do.
use Rattle.std.specs.Prelude.{◌&&◌, ℕ, Bool, Option, Some, is_some, length, if◌then◌else◌}
use Rattle.word_arith.specs.{declared.size.Size.{Size, TheVariants.Word}, Number.Word16}
use Rattle.device_types.specs.{declared.{access.Access.{Access, TheVariants.{Fetch, Read}}, kind.Kind.Kind, signals.Signals.Signals}, Map.{lies_in, peripheral_region}, Address.Address}
use Rattle.part_definitions.specs.{Dma.dma_access, Memory.number_at}
use Rattle.device_trace.specs.{Logs.{Logs, logged_byte, vector_of, step_progress}, Peripherals.peripheral_read, Progress.{kind_of, next_pc_of, tells_irq, access_of, fetches_opcode}, Start.Start}

-- what the processor reads at a place: a register of a peripheral, or memory
abbrev pub number_read : Start → Logs → Address → Size → ℕ
number_read start logs place size =
    if lies_in peripheral_region place then peripheral_read logs.peripherals place size
    else number_at (logged_byte start logs) place size

-- what an access of the processor reads, 0 for a write and for none
abbrev pub value_read : Start → Logs → Option Access → ℕ
value_read start logs (Some (Fetch place)) = number_read start logs place Word
value_read start logs (Some (Read place size)) = number_read start logs place size
value_read start logs access = 0

-- what a fetch would read
abbrev pub word_fetched : Start → Logs → Option Access → Word16
word_fetched start logs (Some (Fetch place)) = number_read start logs place Word
word_fetched start logs access = 0

abbrev pub step_kind : Logs → Kind
step_kind logs = kind_of logs.progress (vector_of logs)

abbrev pub proposed_access : Start → Logs → Kind → Option Access
proposed_access start logs kind =
    access_of start (length logs.released_words) kind (step_progress logs kind)

-- what a step of this kind is about to do, after the events of the step
unfoldable pub signals_at : Start → Logs → Kind → Bool → Signals
signals_at start logs kind reset =
    record {
      kind = kind;
      pc = next_pc_of (step_progress logs kind);
      cpu = proposed_access start logs kind;
      dma = dma_access logs.peripherals.dma;
      irq = tells_irq logs.progress && is_some (vector_of logs);
      word = word_fetched start logs (proposed_access start logs kind);
      opcode = fetches_opcode kind logs.progress;
      script_reset = reset;
    }

-- what the next step is about to do, and whether a reset is asked for
abbrev pub signals_of : Start → Logs → Bool → Signals
signals_of start logs reset = signals_at start logs (step_kind logs) reset
