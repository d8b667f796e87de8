-- What is shown at a place is of the play of so many steps.
use Rattle.std.specs.{Prelude.{◌≡◌, ◌<◌, ◌≤◌, ◌++◌, ◌+◌, ◌%◌, ℕ, true, false, List, [], ◌∷◌, Option, EachIndex, codes, drop, length, min, slice_index}, Fmt.decimal}
use Rattle.hex.specs.Hex.{encode_lower}
use Rattle.word_arith.specs.declared.size.Size.TheVariants.{Byte}
use Rattle.printed_lines.specs.Line.{flag_digit}
use Rattle.device_trace.specs.{Logs.{Logs, aux_of, exec_of}, Trace.{Play, logs_after}, Progress.last_registers, Signals.number_read, Start.Start, Text.play_text}
use Rattle.trace_files.specs.TraceText.{trace_text}
use Rattle.debug_link.specs.{Console.console, declared.connection.Connection.TheVariants.Open}
use Rattle.debug_session.specs.{Request.most_steps, declared.{command.Command.{Command, TheVariants.{Memory, Monitor, Registers}}, request.Request.{Request, TheVariants.{Flags, Play as PlayText, Steps, Trace}}}, Place.{Run, is_shown, view_of}, Session.{Session, answer_of}, Shown.registers_bytes}

-- a command is answered by these packets, and the session stays as it was
abbrev pub Gives : Run → Session → Command → List (List ℕ) → Type 0
Gives run session command packets =
    (interrupt : Option ℕ)
    → answer_of (view_of run) interrupt session command
    ≡ record { session = session; packets = packets; connection = Open }

-- a request of the user is answered by this text, and then OK
abbrev pub Prints : Run → Session → Request → List ℕ → Type 0
Prints run session request text =
    Gives run session (Monitor request) (console text ++ codes "OK" ∷ [])

abbrev pub flags_text : Start → Logs → List ℕ
flags_text start logs =
    codes "exec " ++ flag_digit (exec_of logs)
    ++ codes " aux " ++ flag_digit (aux_of start logs) ++ codes "\n"

-- bytes from an address on, each as a read of it would give: so many, or fewer where the next one
-- is secret or past the last
pub record AreRead (start : Start) (logs : Logs) (first most : ℕ) (bytes : List ℕ)
    : Type 0 where
  pub few : length bytes ≤ most
  pub each : EachIndex bytes
      (λ at. slice_index bytes at ≡ number_read start logs (first + at) Byte % 256)
  pub shown : EachIndex bytes (λ at. is_shown (first + at) ≡ true)
  pub ends : length bytes < most → is_shown (first + length bytes) ≡ false

-- at most 2,048 bytes are asked for at once
pub record ShowsMemory (run : Run) (session : Session) (logs : Logs) (first size : ℕ)
    : Type 0 where
  pub bytes : List ℕ
  pub given : Gives run session (Memory first size) (encode_lower bytes ∷ [])
  pub read : AreRead run.start logs first (min size 2048) bytes

-- the lines of the last so many steps: what the trace file of a play has behind that of the play
-- without them
pub record PrintsLast (run : Run) (session : Session) (play : Play) (lines : ℕ) : Type 0 where
  pub text : List ℕ
  pub printed : Prints run session (Trace lines) text
  pub last : trace_text run.start play ≡ trace_text run.start (drop lines play) ++ text

-- the registers at the last boundary, the bytes and the flags are those behind this play, and what
-- is printed of it is what `play` and `trace` print
pub record ShowsPlay (run : Run) (session : Session) (play : Play) : Type 0 where
  pub registers : Gives run session Registers
      (encode_lower (registers_bytes (last_registers (logs_after run.start play).progress)) ∷ [])
  pub memory : (first size : ℕ) → 0 < size → is_shown first ≡ true
      → ShowsMemory run session (logs_after run.start play) first size
  pub secret : (first size : ℕ) → 0 < size → is_shown first ≡ false
      → Gives run session (Memory first size) (codes "E01" ∷ [])
  pub steps : Prints run session Steps
      (decimal (length play) ++ codes " steps of " ++ decimal most_steps ++ codes "\n")
  pub flags : Prints run session Flags (flags_text run.start (logs_after run.start play))
  pub printed : Prints run session PlayText (play_text run.start play)
  pub trace : (lines : ℕ) → PrintsLast run session play lines
