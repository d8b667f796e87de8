-- The second flag, AUX: as EXEC, but interrupts are allowed whose handlers lie in the executable
-- region. (In the manner of ASAP.)
use Rattle.std.specs.{Prelude.{◌&&◌, ◌||◌, Bool, not, Option}, List.list_any}
use Rattle.device_types.specs.{declared.{region.Region.Region, bus_record.BusRecord.BusRecord}, Access.some_reads, Bounds.executable_region, Kind.is_irq, Map.{lies_in, vector_region}, ExecFlag.{SeenHistory, SeenRecord, accesses_in, writes_to, runs_inside, enters_region, fetches_first, clears_both, is_set}, Address.{Address, even}}

-- an interrupt entry reads its vector
abbrev pub reads_vector : BusRecord → Bool
reads_vector entry = is_irq entry.kind && some_reads entry.cpu

-- the handler that the vector names: its word, with bit 0 cleared
abbrev pub handler_read : BusRecord → Address
handler_read entry = even entry.value

-- an interrupt whose handler is not in a region
abbrev pub enters_elsewhere : Region → BusRecord → Bool
enters_elsewhere region entry = reads_vector entry && not (lies_in region (handler_read entry))

-- F3: ER is entered otherwise than by the opcode fetch at its first instruction
abbrev pub clears_f3 : Option Address → SeenRecord → Bool
clears_f3 last now = enters_region last now && not (fetches_first now.bounds now.entry)

-- F4: ER is interrupted, and the handler is not in ER
abbrev pub clears_f4 : SeenRecord → Bool
clears_f4 now = runs_inside now && enters_elsewhere (executable_region now.bounds) now.entry

-- F10: a write touches the vectors
abbrev pub clears_f10 : SeenRecord → Bool
clears_f10 now = list_any (writes_to vector_region) (accesses_in now.entry)

-- a record that clears the second flag; F1, F2 and F5 to F9 are E1, E2 and E5 to E9
abbrev pub clears_aux : Option Address → SeenRecord → Bool
clears_aux last now =
    clears_both last now || clears_f3 last now || clears_f4 now || clears_f10 now

unfoldable pub aux : SeenHistory → Bool
aux records = is_set clears_aux records
