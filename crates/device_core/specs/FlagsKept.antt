-- Steps that leave both flags as they are.
use Rattle.std.specs.Prelude.{◌≡◌, ◌||◌, ◌∷◌, Bool, Option, map, true}
use Rattle.device_types.specs.{declared.{bounds.Bounds.Bounds, bus_record.BusRecord.BusRecord, signals.Signals.Signals}, Address.Address, TraceFlag.{Flag, IsRecordOf, is_quiet}, ExecFlag.{SeenHistory, SeenRecord, exec, last_pc}}
use Rattle.device_trace.specs.{Blank.blank_seen, Logs.{Logs, aux_of, logged_bounds}, Start.Start}
use Rattle.execution_flags.specs.RunFlag.{RunFlagStandsFor}
use Rattle.device_core.specs.declared.monitors.Monitors.{Monitors}

-- one of the flags is set
abbrev pub has_flag : {G : Type 0} → Flag G → SeenHistory → Bool
has_flag flag records = exec records || flag.value (map blank_seen records)

-- a step that is about to do this, after a record with this `pc`, is quiet, unless it is refused
abbrev pub IsQuietStep : Option Address → Signals → Bounds → Type 0
IsQuietStep last now bounds =
    (entry : BusRecord)
    → IsRecordOf now entry
    → is_quiet last (record { entry = entry; bounds = bounds }) ≡ true

-- a record of such a step, behind these
pub record LeavesFlags {G : Type 0} (flag : Flag G) (now : SeenRecord)
    (records : SeenHistory) : Type 0 where
  pub same_exec : exec (now ∷ records) ≡ exec records
  pub same_second : flag.value (blank_seen now ∷ map blank_seen records)
      ≡ flag.value (map blank_seen records)

-- memory shows the second flag as it is, and a step that is about to do this is such a step,
-- unless it is refused
pub record KeepsFlags {G : Type 0} (flag : Flag G) (start : Start) (logs : Logs) (now : Signals)
    : Type 0 where
  pub shown : aux_of start logs ≡ flag.value (map blank_seen logs.records)
  pub leaves : (entry : BusRecord)
      → IsRecordOf now entry
      → LeavesFlags flag (record { entry = entry; bounds = logged_bounds start logs }) logs.records

-- What the monitors stand for.

-- they have seen these records, the newest first
pub record MonitorsStandFor {G : Type 0} (flag : Flag G) (monitors : Monitors G)
    (records : SeenHistory) : Type 0 where
  pub same_last : monitors.last_pc ≡ last_pc records
  pub same_exec : RunFlagStandsFor exec monitors.exec records
  -- the second flag sees them blanked
  pub same_second : flag.has_seen monitors.second (map blank_seen records)
