-- What is said of an assembly on its way.
use Rattle.std.specs.Prelude.{◌≡◌, ◌<◌, ℕ, List, length, reverse, take, slice_index, Option, Some, None, Result, Ok, Err}
use Rattle.text_scan.specs.{declared.{fault_at.FaultAt.FaultAt, text_fault.TextFault.{TextFault, TheVariants.{At, Memory}}}}
use Rattle.asm_text.specs.declared.statement.Statement.{Statement}
use Rattle.msp_asm.specs.{Value.value_in, declared.assembly.Layout.Layout, FirstPass.scope_after}

-- the names of all statements, and the place before each
pub record LayoutStandsFor (layout : Layout) (statements : List Statement) : Type 0 where
  pub names : value_in layout.names ≡ (scope_after (reverse statements)).names
  pub count : length layout.places.items ≡ length statements
  pub places : (i : ℕ) → i < length statements
      → slice_index layout.places.items i ≡ (scope_after (reverse (take i statements))).here

-- the fault; out of memory says nothing
abbrev pub IsFault : TextFault → Option FaultAt → Type 0
IsFault (At at) fault = fault ≡ Some at
IsFault (Memory _) fault = Unit {0}

-- no fault, or the fault
abbrev pub AnswersAt : {Value : Type 0} → Result Value TextFault → Option FaultAt → Type 0
AnswersAt (Ok _) fault = fault ≡ None
AnswersAt (Err error) fault = IsFault error fault

abbrev pub IsMemory : TextFault → Type 0
IsMemory (At at) = ⊥
IsMemory (Memory error) = Unit {0}
