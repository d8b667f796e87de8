-- A flag over the trace.
use Rattle.std.specs.Prelude.{◌≡◌, ◌∷◌, ◌&&◌, Bool, not, None, Option, is_none}
use Rattle.device_types.specs.{declared.{bus_record.BusRecord.BusRecord, signals.Signals.Signals}, Access.without_number, Address.Address, ExecFlag.{SeenHistory, SeenRecord, clears_both, enters_region}}

pub record Flag (G : Type 0) : Type 1 where
  -- what it is after these records, the newest first
  pub value : SeenHistory → Bool
  -- the records that a value of the code stands for having seen
  pub has_seen : G → SeenHistory → Type 0
  -- a record that leaves it as it is need not be seen
  pub passes : (flag : G) (now : SeenRecord) (before : SeenHistory)
      → has_seen flag before
      → value (now ∷ before) ≡ value before
      → has_seen flag (now ∷ before)

-- the record of a step that was about to do this, and was not refused; the numbers that its writes
-- carry may be others
pub record IsRecordOf (now : Signals) (entry : BusRecord) : Type 0 where
  pub same_kind : entry.kind ≡ now.kind
  pub same_pc : entry.pc ≡ now.pc
  pub same_cpu : without_number entry.cpu ≡ without_number now.cpu
  pub same_dma : without_number entry.dma ≡ without_number now.dma
  pub same_irq : entry.irq ≡ now.irq
  pub unrefused : entry.reset ≡ None

-- a record, after one with this `pc`, in which the DMA has no access, with which ER is not entered,
-- and which clears neither EXEC nor the second flag by a rule that both have
abbrev pub is_quiet : Option Address → SeenRecord → Bool
is_quiet last now =
    is_none now.entry.dma && not (enters_region last now) && not (clears_both last now)
