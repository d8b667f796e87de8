-- A row: the files that are read, one after the other, and what they lead to.
use Rattle.std.specs.Prelude.{ℕ, List, length, Result, Ok, Err, if◌then◌else◌, nat_lt}
use Rattle.text_scan.specs.{declared.{fault_at.FaultAt.FaultAt, fault_kind.FaultKind.TheVariants.TooLong}}
use Rattle.input_files.specs.declared.bad_file.BadFile.{BadFile}

-- a row ends with an outcome or a file's first fault, or reads a file and goes on with its bytes
pub data RowOf (Outcome : Type 0) : Type 0 where
  Ends : Result Outcome BadFile → RowOf Outcome
  Reads : List ℕ → (List ℕ → RowOf Outcome) → RowOf Outcome

-- a kind of file: its longest length, its value or first fault, and the answer that names a fault
pub record FileKind (Value : Type 0) : Type 0 where
  pub limit : ℕ
  pub grammar : List ℕ → Result Value FaultAt
  pub refusal : FaultAt → BadFile

-- the value of a file, or its first fault: past the limit it is at line 0
abbrev pub file_value : {Value : Type 0} → FileKind Value → List ℕ → Result Value FaultAt
file_value kind bytes =
    if nat_lt kind.limit (length bytes) then Err (record { line = 0; kind = TooLong })
    else kind.grammar bytes

-- a row that goes on with a value, where there is one
abbrev pub go_on : {Value Outcome : Type 0} → FileKind Value → (Value → RowOf Outcome)
    → Result Value FaultAt → RowOf Outcome
go_on kind onward (Ok value) = onward value
go_on kind onward (Err fault) = Ends (Err (kind.refusal fault))

-- a row that reads the file of this kind and name, and goes on with its value
abbrev pub read_file :
    {Value Outcome : Type 0} → FileKind Value → List ℕ → (Value → RowOf Outcome) → RowOf Outcome
read_file kind name onward = Reads name (λ bytes. go_on kind onward (file_value kind bytes))
