-- The trace file of a play: a line for each step, with the secrets blanked.
use Rattle.std.specs.Prelude.{ℕ, Bool, List, [], ◌∷◌, Option, Some, None}
use Rattle.device_types.specs.{declared.{bounds.Bounds.Bounds, bus_record.BusRecord.BusRecord, event.Event.Event, signals.Signals.Signals}}
use Rattle.device_trace.specs.{Trace.{Play, next_logs, logs_after}, Blank.{blank_record, blank_value}, Logs.{Logs, exec_of, logged_bounds}, Start.Start, Step.{next_record, next_signals}}
use Rattle.trace_files.specs.{declared.trace_line.TraceLine.TraceLine, LineText.file_text}

-- the word that a proposed fetch would read, 0 where it touches the key or the exclusive stack
abbrev pub word_shown : Signals → ℕ
word_shown now = blank_value now.cpu now.word

-- the line of a record, of what its step was about to do, and of the bounds and EXEC around it
abbrev pub line_with : BusRecord → Signals → Bounds → Bool → TraceLine
line_with entry now bounds exec =
    record {
      kind = entry.kind;
      pc = entry.pc;
      cpu = entry.cpu;
      dma = entry.dma;
      irq = entry.irq;
      asked = now.script_reset;
      word = word_shown now;
      value = entry.value;
      dma_value = entry.dma_value;
      bounds = bounds;
      exec = exec;
      rule = entry.reset;
    }

-- the line of the step after these logs
abbrev pub next_line : Start → Logs → List Event → TraceLine
next_line start logs events =
    line_with (blank_record (next_record start logs events)) (next_signals start logs events)
    (logged_bounds start logs) (exec_of (next_logs start logs events))

-- the lines of a play, the newest first
unfoldable pub trace_lines : Start → Play → List TraceLine
trace_lines start [] = []
trace_lines start (events ∷ play) =
    next_line start (logs_after start play) events ∷ trace_lines start play

-- the line of the last step of a play
abbrev pub last_line : Start → Play → Option TraceLine
last_line start [] = None
last_line start (events ∷ play) = Some (next_line start (logs_after start play) events)

-- their text in the order of the steps, which are numbered from 0
abbrev pub trace_text : Start → Play → List ℕ
trace_text start play = file_text (trace_lines start play)
