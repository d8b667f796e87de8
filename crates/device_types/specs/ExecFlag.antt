-- The EXEC flag: a proof that the executable region ran from its first instruction on. (APEX.)
use Rattle.std.specs.{Prelude.{◌==◌, ◌&&◌, ◌||◌, ◌++◌, Bool, false, not, List, [], ◌∷◌, Option, Some, None, is_some, option_to_list, if◌then◌else◌}, List.list_any}
use Rattle.device_types.specs.{declared.{access.Access.{Access, TheVariants.Fetch}, region.Region.Region, bounds.Bounds.Bounds, bus_record.BusRecord.BusRecord}, Access.{is_write, some_writes}, Kind.is_cpu, Map.{lies_in, touches, some_touches, is_within, metadata_region}, Bounds.{are_valid, executable_region, output_region}, Address.Address}

-- What a flag over the trace sees.

-- a record, with the bounds as they stood before it
pub record SeenRecord : Type 0 where
  pub entry : BusRecord
  pub bounds : Bounds

-- what a flag saw, the newest record first
abbrev pub SeenHistory : Type 0
SeenHistory = List SeenRecord

-- the flag that is never set
abbrev pub no_flag : SeenHistory → Bool
no_flag records = false

abbrev pub accesses_in : BusRecord → List Access
accesses_in entry = option_to_list entry.cpu ++ option_to_list entry.dma

abbrev pub writes_to : Region → Access → Bool
writes_to region access = is_write access && touches access region

abbrev pub fetches_outside : Region → Access → Bool
fetches_outside region (Fetch place) = not (is_within (Fetch place) region)
fetches_outside region access = false

abbrev pub runs_inside : SeenRecord → Bool
runs_inside now = lies_in (executable_region now.bounds) now.entry.pc

-- the record before it, whose `pc` is given, was in a region, or at a place
abbrev pub ran_inside : Option Address → Region → Bool
ran_inside None region = false
ran_inside (Some pc) region = lies_in region pc

abbrev pub ran_at : Option Address → Address → Bool
ran_at None place = false
ran_at (Some pc) place = pc == place

-- E1: a write touches ER
abbrev pub clears_e1 : SeenRecord → Bool
clears_e1 now = list_any (writes_to (executable_region now.bounds)) (accesses_in now.entry)

-- E2: ER is left from another place than its last instruction
abbrev pub clears_e2 : Option Address → SeenRecord → Bool
clears_e2 last now =
    ran_inside last (executable_region now.bounds) && not (ran_at last now.bounds.er_max)
    && not (runs_inside now)

-- ER is entered: the record is in it, and the one before it was not, or there is none
abbrev pub enters_region : Option Address → SeenRecord → Bool
enters_region last now =
    runs_inside now && not (ran_inside last (executable_region now.bounds))

-- E3: ER is entered at another place than its first instruction
abbrev pub clears_e3 : Option Address → SeenRecord → Bool
clears_e3 last now = enters_region last now && not (now.entry.pc == now.bounds.er_min)

-- E4: an interrupt could be accepted in ER
abbrev pub clears_e4 : SeenRecord → Bool
clears_e4 now = now.entry.irq && runs_inside now

-- E5: from outside ER the processor writes to OR
abbrev pub clears_e5 : SeenRecord → Bool
clears_e5 now =
    some_writes now.entry.cpu && some_touches now.entry.cpu (output_region now.bounds)
    && not (runs_inside now)

-- E6: the DMA touches ER or OR
abbrev pub clears_e6 : SeenRecord → Bool
clears_e6 now =
    some_touches now.entry.dma (executable_region now.bounds)
    || some_touches now.entry.dma (output_region now.bounds)

-- E7: the DMA has an access while ER runs
abbrev pub clears_e7 : SeenRecord → Bool
clears_e7 now = is_some now.entry.dma && runs_inside now

-- E8: ER fetches a word that is not wholly in ER
abbrev pub clears_e8 : SeenRecord → Bool
clears_e8 now =
    runs_inside now
    && list_any (fetches_outside (executable_region now.bounds)) (accesses_in now.entry)

-- E9: a write touches the metadata, or the step is refused
abbrev pub clears_e9 : SeenRecord → Bool
clears_e9 now =
    list_any (writes_to metadata_region) (accesses_in now.entry) || is_some now.entry.reset

-- a record that clears this flag and the second one, after a record with this `pc`
abbrev pub clears_both : Option Address → SeenRecord → Bool
clears_both last now =
    clears_e1 now || clears_e2 last now || clears_e5 now || clears_e6 now || clears_e7 now
    || clears_e8 now || clears_e9 now

-- a record that clears the flag
abbrev pub clears : Option Address → SeenRecord → Bool
clears last now = clears_both last now || clears_e3 last now || clears_e4 now

-- an opcode fetch fetches at its own `pc`
abbrev pub fetches_at : Option Access → Address → Bool
fetches_at None pc = false
fetches_at (Some (Fetch place)) pc = place == pc
fetches_at (Some access) pc = false

abbrev pub is_opcode_fetch : BusRecord → Bool
is_opcode_fetch entry = is_cpu entry.kind && fetches_at entry.cpu entry.pc

-- the opcode fetch at ERmin
abbrev pub fetches_first : Bounds → BusRecord → Bool
fetches_first bounds entry = is_opcode_fetch entry && (entry.pc == bounds.er_min)

-- a record that starts a run: the opcode fetch at ERmin, with valid bounds
abbrev pub starts_run : SeenRecord → Bool
starts_run now = fetches_first now.bounds now.entry && are_valid now.bounds

-- the `pc` of the last record, the newest first
abbrev pub last_pc : SeenHistory → Option Address
last_pc [] = None
last_pc (now ∷ before) = Some now.entry.pc

-- the records since the last one that this test describes, after one with a given `pc`
abbrev pub records_since : (Option Address → SeenRecord → Bool) → SeenHistory → SeenHistory
records_since clears [] = []
records_since clears (now ∷ before) =
    if clears (last_pc before) now then [] else now ∷ records_since clears before

-- a flag of a run is set: a record starts one, and neither it nor a later one clears the flag
abbrev pub is_set : (Option Address → SeenRecord → Bool) → SeenHistory → Bool
is_set clears records = list_any starts_run (records_since clears records)

unfoldable pub exec : SeenHistory → Bool
exec records = is_set clears records
