-- What the reading of a row's files gives.
use Rattle.std.specs.Prelude.{◌≡◌, ◌⊎◌, ℕ, List, Option, Some, None, IfSome, Result, Ok, Err, IfOk, IfErr, option_map, unwrap_or}
use Rattle.outside_edge.specs.{Calls.Rose, File.{file_of, Finds}, Shelf.KeepsFiles, declared.{file_fault.FileFault.FileFault, shelf.Shelf.Ghosts as ShelfGhosts}}
use Rattle.outside_edge.specs.declared.file_fault.FileFault.TheVariants as file
use Rattle.text_scan.specs.{declared.{fault_at.FaultAt.FaultAt, fault_kind.FaultKind.TheVariants.TooLong}}
use Rattle.input_files.specs.{declared.{bad_file.BadFile.BadFile, refusal.Refusal.Refusal, status.Status.{Status, TheVariants.{Absent, ReadFault, Memory, Bad}}}, Row.{FileKind, RowOf, Ends, Reads as Reading}, Status.status_of_refusal}
use Rattle.input_files.specs.declared.refusal.Refusal.TheVariants as refusal

-- files by their names, where a shelf tells them
abbrev pub Files : Type 0
Files = Option (List (List ℕ × List ℕ))

-- a row comes to this end, where its files have the bytes that are found of them
abbrev pub Reaches : {Outcome : Type 0} → Files → RowOf Outcome → Result Outcome BadFile → Type 0
Reaches files (Ends reached) end = reached ≡ end
Reaches files (Reading name onward) end =
    (bytes : List ℕ) × Finds files name (Some bytes) × Reaches files (onward bytes) end

-- the answer is the first fault of the first file that has one
abbrev pub NamesFirstFault : {Outcome : Type 0} → Files → RowOf Outcome → Status → Type 0
NamesFirstFault files row status =
    (fault : BadFile) × (status ≡ Bad fault) × Reaches files row (Err fault)

-- why nothing was put: there was a miss or a read fault, memory ran out, or a file has its fault
abbrev pub IsRefusal :
    {Outcome : Type 0} → Files → Type 0 → Type 0 → RowOf Outcome → Status → Type 0
IsRefusal files missed failed row status =
    ((status ≡ Absent) × missed)
    ⊎ ((status ≡ ReadFault) × failed)
    ⊎ (status ≡ Memory)
    ⊎ NamesFirstFault files row status

-- the answer to the first file that is not held or has a fault
abbrev pub first_refusal :
    {Outcome : Type 0} → RowOf Outcome → List (List ℕ × List ℕ) → Option Status
first_refusal (Ends (Ok outcome)) contents = None
first_refusal (Ends (Err fault)) contents = Some (Bad fault)
first_refusal (Reading name onward) contents =
    unwrap_or (option_map (λ bytes. first_refusal (onward bytes) contents) (file_of contents name))
    (Some Absent)

abbrev pub IsFailure : Status → Type 0
IsFailure status = (status ≡ ReadFault) ⊎ (status ≡ Memory)

-- files that are told were refused: with their refusal where they have one, else by a failure
abbrev pub Refuses : Option Status → Status → Type 0
Refuses (Some refusal) status = (status ≡ refusal) ⊎ IsFailure status
Refuses None status = IsFailure status

-- the files of a row were refused, for a cause
pub record IsUnread {S Outcome : Type 0} (s : ShelfGhosts S) (old new : S)
    (row : RowOf Outcome) (status : Status) : Type 0 where
  pub cause : IsRefusal (s.files old) (Rose (s.misses old) (s.misses new))
      (Rose (s.faults old) (s.faults new)) row status
  pub order : IfSome (s.files old) (λ contents. Refuses (first_refusal row contents) status)

-- the files that come first in a row were read without fault, and these are left of it
pub record Leaves {Outcome : Type 0} (files : Files) (row rest : RowOf Outcome)
    : Type 0 where
  pub reaches : (end : Result Outcome BadFile) → Reaches files rest end → Reaches files row end
  pub same_refusal : IfSome files (λ contents.
      first_refusal row contents ≡ first_refusal rest contents)

-- files of a row were read, and what is left of it follows from their values; or there is a cause
-- why they have none
pub record Reads {S V Outcome : Type 0} (files : S → Files) (faults misses : S → ℕ)
    (old new : S) (row : RowOf Outcome) (rest : V → RowOf Outcome) (result : Result V Refusal)
    : Type 0 where
  pub values : IfOk result (λ values. Leaves (files old) row (rest values))
  pub refusal : IfErr result (λ refusal.
      IsRefusal (files old) (Rose (misses old) (misses new)) (Rose (faults old) (faults new)) row
      (status_of_refusal refusal))
  pub order : IfErr result (λ refusal. IfSome (files old) (λ contents.
      Refuses (first_refusal row contents) (status_of_refusal refusal)))
  pub kept : KeepsFiles files faults misses old new

-- the refusal where a whole file can't be had; past its limit a file has its fault at line 0
abbrev pub refusal_of : {M : Type 0} → FileKind M → FileFault → Refusal
refusal_of kind file.Absent = refusal.Absent
refusal_of kind file.Failed = refusal.ReadFault
refusal_of kind file.TooLong =
    refusal.Bad (kind.refusal (record { line = 0; kind = TooLong }))
refusal_of kind (file.Memory error) = refusal.Memory

-- the value of bytes, or the refusal that names their first fault; or memory ran out
abbrev pub ParsesAs : {V M : Type 0} → FileKind M → (V → M) → List ℕ → Result V Refusal → Type 0
ParsesAs kind meaning bytes (Ok value) = kind.grammar bytes ≡ Ok (meaning value)
ParsesAs kind meaning bytes (Err refused) =
    (refused ≡ refusal.Memory)
    ⊎ ((fault : FaultAt) × (kind.grammar bytes ≡ Err fault)
    × (refused ≡ refusal.Bad (kind.refusal fault)))
