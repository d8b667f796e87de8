-- Rules that no record names.
use Rattle.std.specs.Prelude.{◌≢◌, Some, ◌≡◌, None, IsTrue}
use Rattle.device_types.specs.declared.{bus_record.BusRecord.BusRecord, rule.Rule.TheVariants.{A1, K3}, kind.Kind.TheVariants.Rom}
use Rattle.part_definitions.specs.MonitorRule.{in_rom}

-- the step was refused neither for leaving the ROM early (A1), nor for a write of the ROM (K3)
pub record NamesNeitherA1NorK3 (entry : BusRecord) : Type 0 where
  pub a1 : entry.reset ≢ Some A1
  pub k3 : entry.reset ≢ Some K3

-- Who runs the ROM's code.

-- a step at a `pc` in the ROM that was made is one of a call
abbrev pub RunsRomInCall : BusRecord → Type 0
RunsRomInCall entry = entry.reset ≡ None → IsTrue (in_rom entry.pc) → entry.kind ≡ Rom
