-- A memory for tests, opened by any name.
use Rattle.std.specs.Prelude.{ℕ, Bool, List, Option}
use Rattle.desk_memory.specs.Entry.{Entry, MemoryInMemory}
use Rattle.desk_database.specs.declared.memory_file_fault.MemoryFileFault.{MemoryFileFault}

-- whether it was opened; its entries, the fault with which it is not opened, how often it was not,
-- and what was closed
pub record FilesInMemory : Type 0 where
  pub is_opened : Bool
  pub entries : List Entry
  pub fault : Option MemoryFileFault
  pub faults : ℕ
  pub closed : Option MemoryInMemory
