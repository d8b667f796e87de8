-- Which lists of trace lines, the newest first, are clean: the rule of each is the first that its
-- step breaks, and its EXEC is the flag after it.
use Rattle.std.specs.Prelude.{◌≡◌, ◌&&◌, Bool, List, [], ◌∷◌, map, Option}
use Rattle.device_types.specs.{declared.{bus_record.BusRecord.BusRecord, rule.Rule.Rule, signals.Signals.Signals}, Kind.is_cpu, ExecFlag.{SeenRecord, exec, fetches_at, last_pc}}
use Rattle.part_definitions.specs.FirstRule.{first_rule}
use Rattle.trace_files.specs.declared.trace_line.TraceLine.{TraceLine}

-- what the step of a line was about to do: a fetch of the processor at its own `pc` is an opcode's
abbrev pub signals_in : TraceLine → Signals
signals_in line =
    record {
      kind = line.kind;
      pc = line.pc;
      cpu = line.cpu;
      dma = line.dma;
      irq = line.irq;
      word = line.word;
      opcode = is_cpu line.kind && fetches_at line.cpu line.pc;
      script_reset = line.asked;
    }

-- what the step did; a line does not tell the registers
abbrev pub record_in_line : TraceLine → BusRecord
record_in_line line =
    record {
      kind = line.kind;
      pc = line.pc;
      regs = [];
      cpu = line.cpu;
      value = line.value;
      dma = line.dma;
      dma_value = line.dma_value;
      irq = line.irq;
      reset = line.rule;
    }

abbrev pub seen_in : TraceLine → SeenRecord
seen_in line = record { entry = record_in_line line; bounds = line.bounds }

-- the first rule that the step of a line breaks, after these lines
abbrev pub right_rule : List TraceLine → TraceLine → Option Rule
right_rule before line = first_rule (last_pc (map seen_in before)) (signals_in line)

-- the EXEC flag after these lines
abbrev pub right_exec : List TraceLine → Bool
right_exec lines = exec (map seen_in lines)

-- a line, after these lines
pub record IsRight (before : List TraceLine) (line : TraceLine) : Type 0 where
  pub rule : line.rule ≡ right_rule before line
  pub exec : line.exec ≡ right_exec (line ∷ before)

-- each line of these is right
abbrev pub IsClean : List TraceLine → Type 0
IsClean [] = Unit {0}
IsClean (line ∷ before) = IsRight before line × IsClean before
