-- What a run answers to each end of its parts.
use Rattle.desk_memory.specs.declared.memory_fault.MemoryFault.{MemoryFault}
use Rattle.desk_memory.specs.declared.memory_fault.MemoryFault.TheVariants as kept
use Rattle.desk_database.specs.declared.memory_file_fault.MemoryFileFault.{MemoryFileFault}
use Rattle.desk_database.specs.declared.memory_file_fault.MemoryFileFault.TheVariants as opened
use Rattle.source_server.specs.declared.served.Served.{Served}
use Rattle.source_server.specs.declared.served.Served.TheVariants as served
use Rattle.verifier_desk.specs.{declared.answer_fault.AnswerFault.{AnswerFault, TheVariants.{Memory, Unkept}}}
use Rattle.input_files.specs.declared.status.Status.{Status}
use Rattle.input_files.specs.declared.status.Status.TheVariants as status
use Rattle.input_files.specs.declared.unfit.Unfit.TheVariants as unfit

-- where a memory was not opened or made
abbrev pub status_of_unopened : MemoryFileFault → Status
status_of_unopened opened.Missing = status.BadMemory unfit.Missing
status_of_unopened opened.Place = status.Unwritten
status_of_unopened opened.InUse = status.InUse
status_of_unopened opened.HotJournal = status.BadMemory unfit.Foreign
status_of_unopened opened.Unfounded = status.BadMemory unfit.Unfounded
status_of_unopened opened.Founded = status.BadMemory unfit.Founded
status_of_unopened opened.OtherLog = status.BadMemory unfit.OtherLog
status_of_unopened opened.Foreign = status.BadMemory unfit.Foreign
status_of_unopened opened.Disk = status.Unwritten
status_of_unopened opened.Full = status.Unwritten
status_of_unopened opened.OutOfMemory = status.Memory

-- where it failed later
abbrev pub status_of_unkept : MemoryFault → Status
status_of_unkept kept.Memory = status.Memory
status_of_unkept kept.Failed = status.Unwritten

-- once a desk was opened
abbrev pub status_of_served : Served AnswerFault → Status
status_of_served served.Done = status.Done
status_of_served served.Spent = status.Spent
status_of_served served.ReadFault = status.ReadFault
status_of_served served.WriteFault = status.WriteFault
status_of_served (served.Own Memory) = status.Memory
status_of_served (served.Own (Unkept fault)) = status_of_unkept fault
