-- The causes that the errors of each layer stand for.
use Rattle.std.specs.{Prelude.⊤, IoError.error_kind, declared.io.ErrorKind.ErrorKind}
use Rattle.std.specs.declared.io.ErrorKind.TheVariants as kind
use Rattle.sqlite_std_file.specs.declared.pair.OpenError as path
use Rattle.sqlite_std_file.specs.declared.pair.OpenError.TheVariants as opened
use Rattle.sqlite_wal.specs.declared.error.Error as log
use Rattle.sqlite_wal.specs.declared.error.Error.TheVariants as wal
use Rattle.sqlite_store.specs.declared.error.OpenError.{OpenError}
use Rattle.sqlite_store.specs.declared.error.OpenError.TheVariants as store
use Rattle.desk_database.specs.{declared.{open_fault.OpenFault.OpenFault, memory_file_fault.MemoryFileFault.{MemoryFileFault, TheVariants.{Place, Missing, InUse, HotJournal, Foreign, Disk, Full, OutOfMemory, Unfounded, Founded, OtherLog}}}}
use Rattle.desk_database.specs.declared.open_fault.OpenFault.TheVariants as table

abbrev pub fault_of_probe : log.Error → MemoryFileFault
fault_of_probe (wal.Io e) = Disk
fault_of_probe wal.OutOfMemory = OutOfMemory
fault_of_probe wal.Full = Full
fault_of_probe _ = Foreign

abbrev pub fault_of_store : OpenError → MemoryFileFault
fault_of_store store.OutOfMemory = OutOfMemory
fault_of_store store.Io = Disk
fault_of_store store.Full = Full
fault_of_store store.Refused = Foreign

abbrev pub fault_of_kind : ErrorKind → MemoryFileFault
fault_of_kind kind.OutOfMemory = OutOfMemory
fault_of_kind _ = Place

abbrev pub fault_of_path : path.OpenError → MemoryFileFault
fault_of_path (opened.Io e) = fault_of_kind (error_kind e)
fault_of_path opened.OutOfMemory = OutOfMemory
fault_of_path opened.Busy = InUse
fault_of_path opened.HotJournal = HotJournal

abbrev pub fault_of_table : OpenFault → MemoryFileFault
fault_of_table table.Memory = OutOfMemory
fault_of_table table.Failed = Disk
fault_of_table table.Foreign = Foreign
fault_of_table table.Unfounded = Unfounded
fault_of_table table.Founded = Founded

-- a fault with which no file was opened
abbrev pub IsOfPath : MemoryFileFault → Type 0
IsOfPath Disk = ⊥
IsOfPath Full = ⊥
IsOfPath Foreign = ⊥
IsOfPath Unfounded = ⊥
IsOfPath Founded = ⊥
IsOfPath OtherLog = ⊥
IsOfPath Place = ⊤
IsOfPath Missing = ⊤
IsOfPath InUse = ⊤
IsOfPath HotJournal = ⊤
IsOfPath OutOfMemory = ⊤
