-- What `play`, `dump`, `trace` and `wave` say of a play.
use Rattle.std.specs.Prelude.{◌++◌, [], ℕ, List, Option, Some, None, length, if◌then◌else◌}
use Rattle.device_types.specs.{Address.Bytes, declared.event.Event.Event}
use Rattle.part_definitions.specs.Memory.{is_image_place}
use Rattle.hex_loader.specs.HexText.{hex_text}
use Rattle.device_trace.specs.{Trace.{Play, byte_after, logs_after}, Start.Start, Text.{lines_of, lines_of_step, end_line_after}}
use Rattle.trace_files.specs.{LineText.trace_line, LineReadBack.ArePrintable, declared.wave.Wave.Wave, WaveText.{WaveStandsFor, end_text, header, last_shown, shown_after, step_text, steps_text}, TraceText.{next_line, trace_lines, trace_text}, WaveSamples.{next_sample, wave_samples}}
use Rattle.device_play.specs.Account.{Account}

abbrev pub end_line_of : Start → Play → Bytes
end_line_of start play = end_line_after (length play) (logs_after start play)

-- `play`: the lines of each step, and the end line
abbrev pub line_account : Account (Unit {0})
line_account =
    record {
      tallies = λ start play tally. Unit {0};
      text = lines_of;
      step_text = lines_of_step;
      end_text = end_line_of;
      cuts = λ start play. [];
    }

-- the bytes of RAM, program and vectors after a play
abbrev pub memory_after : Start → Play → ℕ → Option ℕ
memory_after start play place =
    if is_image_place place then Some (byte_after start play place) else None

-- `dump`: the same, and then the memory
abbrev pub dump_account : Account (Unit {0})
dump_account =
    record {
      tallies = λ start play tally. Unit {0};
      text = lines_of;
      step_text = lines_of_step;
      end_text = λ start play. end_line_of start play ++ hex_text (memory_after start play);
      cuts = λ start play. [];
    }

-- `trace`: a line for each step, which are numbered from 0. That it reads back is known once each
-- of them is printable
abbrev pub trace_account : Account (Unit {0})
trace_account =
    record {
      tallies = λ start play tally. ArePrintable (trace_lines start play);
      text = trace_text;
      step_text = λ start events play.
          trace_line (length (trace_lines start play))
          (next_line start (logs_after start play) events);
      end_text = λ start play. [];
      cuts = λ start play. [];
    }

-- `wave`: what each step changes
abbrev pub change_text : Start → List Event → Play → Bytes
change_text start events play =
    let samples = wave_samples start play in
    step_text (length samples) (last_shown samples)
    (shown_after samples (next_sample start events play))

abbrev pub wave_account : Account Wave
wave_account =
    record {
      tallies = λ start play wave. WaveStandsFor wave (wave_samples start play);
      text = λ start play. header ++ steps_text (wave_samples start play);
      step_text = change_text;
      end_text = λ start play. end_text (wave_samples start play);
      cuts = λ start play. [];
    }
