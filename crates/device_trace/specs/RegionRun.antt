-- A run of the executable region: what the EXEC flag is to prove (APEX), and, with interrupts that
-- are trusted, the second flag (in the manner of ASAP).
use Rattle.std.specs.{Prelude.{◌≡◌, ◌==◌, ◌&&◌, ◌++◌, Bool, false, not, List, [], ◌∷◌, is_none, IsTrue}, List.{list_any, list_all}}
use Rattle.device_types.specs.{Kind.is_irq, Map.{lies_in, some_touches, metadata_region, vector_region}, declared.{bus_record.BusRecord.BusRecord, bounds.Bounds.Bounds}, Bounds.{are_valid, executable_region, output_region}, ExecFlag.{accesses_in, writes_to, fetches_outside, fetches_first}}
use Rattle.part_definitions.specs.TrustedFlag.{enters_elsewhere}

-- which interrupts a run may have: none, or those whose handlers lie in ER
pub data Interrupts : Type 0 where
  NoInterrupts : Interrupts
  TrustedInterrupts : Interrupts

abbrev pub is_inside : Bounds → BusRecord → Bool
is_inside bounds entry = lies_in (executable_region bounds) entry.pc

-- inside ER: no DMA access, no fetch that is not wholly in ER
abbrev pub runs_alone : Bounds → BusRecord → Bool
runs_alone bounds entry =
    is_inside bounds entry && is_none entry.dma
    && not (list_any (fetches_outside (executable_region bounds)) (accesses_in entry))

-- and no interrupt could be accepted, or one that is entered has its handler in ER
abbrev pub runs_with : Interrupts → Bounds → BusRecord → Bool
runs_with NoInterrupts bounds entry = runs_alone bounds entry && not entry.irq
runs_with TrustedInterrupts bounds entry =
    runs_alone bounds entry && not (enters_elsewhere (executable_region bounds) entry)

-- no write and no DMA access touches ER, no write touches the metadata, no rule is broken
abbrev pub keeps_code : Bounds → BusRecord → Bool
keeps_code bounds entry =
    not (list_any (writes_to (executable_region bounds)) (accesses_in entry))
    && not (some_touches entry.dma (executable_region bounds))
    && not (list_any (writes_to metadata_region) (accesses_in entry))
    && is_none entry.reset

-- and no write touches the vectors, where there may be interrupts
abbrev pub keeps_code_with : Interrupts → Bounds → BusRecord → Bool
keeps_code_with NoInterrupts bounds entry = keeps_code bounds entry
keeps_code_with TrustedInterrupts bounds entry =
    keeps_code bounds entry && not (list_any (writes_to vector_region) (accesses_in entry))

-- no write and no DMA access touches OR
abbrev pub keeps_output : Bounds → BusRecord → Bool
keeps_output bounds entry =
    not (list_any (writes_to (output_region bounds)) (accesses_in entry))
    && not (some_touches entry.dma (output_region bounds))

-- the oldest of these records is the opcode fetch at ERmin
abbrev pub begins_run : Bounds → List BusRecord → Bool
begins_run bounds [] = false
begins_run bounds (entry ∷ []) = fetches_first bounds entry
begins_run bounds (entry ∷ older ∷ oldest) = begins_run bounds (older ∷ oldest)

-- the newest is at ERmax, and no interrupt entry
abbrev pub ends_run : Interrupts → Bounds → List BusRecord → Bool
ends_run allowed bounds [] = false
ends_run NoInterrupts bounds (entry ∷ older) = entry.pc == bounds.er_max
ends_run TrustedInterrupts bounds (entry ∷ older) =
    (entry.pc == bounds.er_max) && not (is_irq entry.kind)

-- there are records, and all are outside ER
abbrev pub has_left : Bounds → List BusRecord → Bool
has_left bounds [] = false
has_left bounds (entry ∷ older) = list_all (λ one. not (is_inside bounds one)) (entry ∷ older)

-- a history, newest first, ends with a run of ER, whose bounds are valid, and what came after it
pub record RegionRun (allowed : Interrupts) (bounds : Bounds) (history : List BusRecord)
    : Type 0 where
  pub valid : IsTrue (are_valid bounds)
  pub after : List BusRecord
  pub run : List BusRecord
  pub before : List BusRecord
  pub parts : history ≡ after ++ run ++ before
  pub begins : IsTrue (begins_run bounds run)
  pub ends : IsTrue (ends_run allowed bounds run)
  pub runs : IsTrue (list_all (runs_with allowed bounds) run)
  pub left : IsTrue (has_left bounds after)
  pub code : IsTrue (list_all (keeps_code_with allowed bounds) (after ++ run))
  pub output : IsTrue (list_all (keeps_output bounds) after)

-- a whole run has none, and a trusted run trusted ones
abbrev pub WholeRun : Bounds → List BusRecord → Type 0
WholeRun bounds history = RegionRun NoInterrupts bounds history

abbrev pub TrustedRun : Bounds → List BusRecord → Type 0
TrustedRun bounds history = RegionRun TrustedInterrupts bounds history
