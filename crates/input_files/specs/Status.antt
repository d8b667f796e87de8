-- How a run can end: its exit status, and what it answers to files that have no values.
use Rattle.std.specs.Prelude.{◌≡◌, ℕ}
use Rattle.input_files.specs.{declared.{bad_file.BadFile.BadFile, refusal.Refusal.Refusal, status.Status.{Status, TheVariants.{Done, Rejected, Words, Absent, ReadFault, WriteFault, Memory, Bad, Spent, BadMemory, InUse, Unwritten}}}}
use Rattle.input_files.specs.declared.bad_file.BadFile.TheVariants as bad
use Rattle.input_files.specs.declared.refusal.Refusal.TheVariants as refusal

-- the exit status that says which kind of file has a fault
abbrev pub code_of_file : BadFile → ℕ
code_of_file (bad.Key fault) = 7
code_of_file (bad.Image fault) = 8
code_of_file (bad.Script fault) = 9
code_of_file (bad.Policy fault) = 10
code_of_file (bad.Reports fault) = 11
code_of_file (bad.Source fault) = 12
code_of_file (bad.Trace fault) = 13
code_of_file (bad.Keys fault) = 14
code_of_file (bad.States fault) = 19

abbrev pub code_of : Status → ℕ
code_of Done = 0
code_of Rejected = 1
code_of Words = 2
code_of Absent = 3
code_of ReadFault = 4
code_of WriteFault = 5
code_of Memory = 6
code_of (Bad fault) = code_of_file fault
code_of Spent = 15
code_of (BadMemory unfit) = 16
code_of InUse = 17
code_of Unwritten = 18

-- it is the exit code of an answer of which this holds
abbrev pub EndsAs : ℕ → (Status → Type 0) → Type 0
EndsAs code holds = (status : Status) × (code ≡ code_of status) × holds status

-- the answer to files that have no values
abbrev pub status_of_refusal : Refusal → Status
status_of_refusal refusal.Absent = Absent
status_of_refusal refusal.ReadFault = ReadFault
status_of_refusal refusal.Memory = Memory
status_of_refusal (refusal.Bad fault) = Bad fault
