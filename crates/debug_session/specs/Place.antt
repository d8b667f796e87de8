-- The places of a run: what a debugger reads there are the device's logs after so many steps.
use Rattle.std.specs.Prelude.{ℕ, ◌||◌, ◌%◌, Bool, true, false, suc, List, [], Option, Some, None, min, nat_lt, not, if◌then◌else◌}
use Rattle.word_arith.specs.declared.size.Size.TheVariants.{Byte}
use Rattle.device_types.specs.{declared.{bus_record.BusRecord.BusRecord, event.Event.Event, kind.Kind.TheVariants.Idle}, Map.{key_region, lies_in, stack_region}}
use Rattle.printed_lines.specs.Line.{end_line}
use Rattle.device_trace.specs.{Logs.{Logs, aux_of, exec_of}, Trace.{Play, logs_after, play_of}, Progress.{last_registers, next_pc_of, stands_at_boundary}, Signals.number_read, Start.Start, Step.next_record, Text.lines_of_step}
use Rattle.trace_files.specs.{LineText.trace_line, TraceText.next_line}
use Rattle.debug_session.specs.{Request.most_steps, Sight.{Sight, StepSight, View}, Watched.{hits_of, seen_accesses}}

-- what a device is powered on with, and the events of each of its steps
pub record Run : Type 0 where
  pub start : Start
  pub events_at : ℕ → List Event

abbrev pub play_to : Run → ℕ → Play
play_to run place = play_of run.events_at place

unfoldable pub logs_at : Run → ℕ → Logs
logs_at run place = logs_after run.start (play_to run place)

-- the record of the step that is made at a place
unfoldable pub step_at : Run → ℕ → BusRecord
step_at run place = next_record run.start (logs_at run place) (run.events_at place)

-- a flag is not what it was
abbrev pub differs : Bool → Bool → Bool
differs true after = not after
differs false after = after

abbrev pub exec_at : Run → ℕ → Bool
exec_at run place = exec_of (logs_at run place)

abbrev pub aux_at : Run → ℕ → Bool
aux_at run place = aux_of run.start (logs_at run place)

-- a place that is neither secret nor past the last
abbrev pub is_shown : ℕ → Bool
is_shown at = if lies_in key_region at || lies_in stack_region at then false else nat_lt at 0x10000

-- the byte that a read would give
abbrev pub shown_at : Run → ℕ → ℕ → Option ℕ
shown_at run place at =
    if is_shown at then Some (number_read run.start (logs_at run place) at Byte % 256) else None

unfoldable pub step_sight : Run → ℕ → StepSight
step_sight run place =
    record {
      kind = (step_at run place).kind;
      refused = (step_at run place).reset;
      hits = hits_of (seen_accesses (step_at run place)
          (differs (exec_at run place) (exec_at run (suc place)))
          (differs (aux_at run place) (aux_at run (suc place))));
      lines = lines_of_step run.start (run.events_at place) (play_to run place);
      trace_line = trace_line place (next_line run.start (logs_at run place) (run.events_at place));
    }

-- no step is made behind the last place
abbrev pub no_step : StepSight
no_step =
    record {
      kind = Idle;
      refused = None;
      hits = λ watches. [];
      lines = [];
      trace_line = [];
    }

abbrev pub next_sight : Run → ℕ → StepSight
next_sight run place = if nat_lt place most_steps then step_sight run place else no_step

unfoldable pub sight_at : Run → ℕ → Sight
sight_at run place =
    record {
      boundary = stands_at_boundary (logs_at run place).progress;
      registers = last_registers (logs_at run place).progress;
      level = (logs_at run place).level;
      exec = exec_at run place;
      aux = aux_at run place;
      byte_at = shown_at run place;
      end_line = end_line place (next_pc_of (logs_at run place).progress) (exec_at run place);
      next = next_sight run place;
    }

-- a debugger goes to no place behind so many steps
abbrev pub view_of : Run → View
view_of run place = sight_at run (min place most_steps)
