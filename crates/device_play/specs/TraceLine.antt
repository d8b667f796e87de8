-- What the line of a step shows.
use Rattle.std.specs.Prelude.{ℕ, Bool, Option, Some, None}
use Rattle.device_types.specs.{declared.{access.Access.{Access, TheVariants.{Fetch, Read, Write}}, bus_record.BusRecord.BusRecord, signals.Signals.Signals}}
use Rattle.device_trace.specs.Blank.{blank_value}
use Rattle.trace_files.specs.TraceText.{word_shown}

-- of what an access read: the word of a fetch, 0 for other accesses
abbrev pub word_read : Option Access → ℕ → ℕ
word_read None value = 0
word_read (Some (Fetch place)) value = value
word_read (Some (Read place size)) value = 0
word_read (Some (Write place size number)) value = 0

-- of what the processor or the ROM read, and of what a step was about to do
abbrev pub value_shown : BusRecord → ℕ
value_shown entry = blank_value entry.cpu entry.value

abbrev pub proposal_shown : Signals → Bool × ℕ
proposal_shown now = (now.script_reset, word_shown now)
