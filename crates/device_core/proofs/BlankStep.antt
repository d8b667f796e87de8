-- A blanked record is one of the same step.
use Rattle.std.proofs.Common.{◌≡◌, ◌∙◌, Option, Some, None, refl}
use Rattle.device_types.specs.{declared.{access.Access.{Access, TheVariants.{Fetch, Read, Write}}, bus_record.BusRecord.BusRecord, signals.Signals.Signals}, Access.without_number, TraceFlag.IsRecordOf}
use Rattle.device_trace.specs.Blank.{blank_access, blank_record}

number_alone : (access : Option Access)
    → without_number (blank_access access) ≡ without_number access
number_alone None = refl
number_alone (Some (Fetch place)) = refl
number_alone (Some (Read place size)) = refl
number_alone (Some (Write place size number)) = refl

pub blank-step : (now : Signals) (entry : BusRecord)
    → IsRecordOf now entry → IsRecordOf now (blank_record entry)
blank-step now entry is =
    record {
      same_kind = is.same_kind;
      same_pc = is.same_pc;
      same_cpu = number_alone entry.cpu ∙ is.same_cpu;
      same_dma = number_alone entry.dma ∙ is.same_dma;
      same_irq = is.same_irq;
      unrefused = is.unrefused;
    }
