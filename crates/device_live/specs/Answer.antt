-- What a device that lives answers to a line.
use Rattle.std.specs.{Prelude.{ℕ, ◌-◌, [], ◌∷◌, Result, Ok, Err, codes, List, map}, Fmt.decimal}
use Rattle.device_types.specs.Address.{Bytes}
use Rattle.printed_lines.specs.Line.{line_of, place_line, word_digits}
use Rattle.text_scan.specs.{declared.fault_kind.FaultKind.FaultKind, FaultName.fault_name, Reader.◌>>=◌}
use Rattle.device_trace.specs.{Logs.exec_of, Progress.{last_registers, next_pc_of}, Start.Start, Trace.logs_after}
use Rattle.debug_session.specs.{Place.{Run as PlayedRun, sight_at}, Shown.bytes_shown}
use Rattle.device_live.specs.{Life.{Life, events_in, lines_since, play_lived, with_happening, with_steps}, LiveLine.{LiveLine, Happens, Run, Registers, Memory}}
use Rattle.hex.specs.Hex.{encode_lower}

-- The lines that show registers and bytes.

-- `registers H4 ..`
abbrev pub registers_text : List ℕ → Bytes
registers_text words = line_of (codes "registers") (map word_digits words)

-- bytes as two digits each, `-` where there is none
abbrev pub bytes_piece : Bytes → Bytes
bytes_piece [] = codes "-"
bytes_piece (byte ∷ bytes) = encode_lower (byte ∷ bytes)

-- `memory H4 HH..`
abbrev pub memory_text : ℕ → Bytes → Bytes
memory_text place bytes = line_of (codes "memory") (word_digits place ∷ bytes_piece bytes ∷ [])

-- the life behind a line, what `play` prints of the steps that were made for it, and its answer
pub record Answer : Type 0 where
  pub life : Life
  pub told : Bytes
  pub line : Bytes

-- `at N pc H4 exec E`, or `end ..`: where the device stands
abbrev pub standing_line : Bytes → Start → Life → Bytes
standing_line keyword start life =
    let logs = logs_after start (play_lived life) in
    place_line keyword life.steps (next_pc_of logs.progress) (exec_of logs)

-- the sixteen registers at the last boundary
abbrev pub registers_line : Start → Life → Bytes
registers_line start life =
    registers_text (last_registers (logs_after start (play_lived life)).progress)

-- the bytes from an address on that a debugger shows
abbrev pub lived_run : Start → Life → PlayedRun
lived_run start life = record { start = start; events_at = events_in life }

abbrev pub memory_line : Start → Life → ℕ → ℕ → Bytes
memory_line start life place count =
    memory_text place (bytes_shown (sight_at (lived_run start life) life.steps) place count)

-- nothing is said, or this of the life as it is
abbrev pub silent_answer : Life → Answer
silent_answer life = record { life = life; told = []; line = [] }

abbrev pub says : Life → Bytes → Answer
says life line = record { life = life; told = []; line = line }

-- the steps from one life to a later one are told, and where the device stands then
abbrev pub tells : Start → Life → Life → Answer
tells start life later =
    record {
      life = later;
      told = lines_since start (events_in later) life.steps (later.steps - life.steps);
      line = standing_line (codes "at") start later;
    }

abbrev pub answer_of : Start → Life → LiveLine → Result Answer FaultKind
answer_of start life (Happens step events) = do
  later ← with_happening life step events
  Ok (silent_answer later)
answer_of start life (Run steps) = do
  later ← with_steps life steps
  Ok (tells start life later)
answer_of start life Registers = Ok (says life (registers_line start life))
answer_of start life (Memory place count) = Ok (says life (memory_line start life place count))

-- a line with a fault changes nothing: its number is told, and the fault
abbrev pub refusal_line : ℕ → FaultKind → Bytes
refusal_line number kind = line_of (codes "refused") (decimal number ∷ fault_name kind ∷ [])

abbrev pub or_refusal : Life → ℕ → Result Answer FaultKind → Answer
or_refusal life number (Ok answer) = answer
or_refusal life number (Err kind) = says life (refusal_line number kind)
