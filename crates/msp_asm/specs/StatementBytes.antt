-- What is said of bytes on their way.
use Rattle.std.specs.{Prelude.{◌≡◌, ◌++◌, ℕ, ℤ, List, Result, Ok, Err}, Global.Vec}
use Rattle.text_scan.specs.{declared.{fault_kind.FaultKind.FaultKind, word_fault.WordFault.{WordFault, TheVariants.{Kind, Memory}}}}

-- bytes were added, or the fault was answered
abbrev pub AddsBytes : Result Unit WordFault → List ℕ → List ℕ → Result (List ℕ) FaultKind → Type 0
AddsBytes (Ok _) old new (Ok bytes) = new ≡ old ++ bytes
AddsBytes (Ok _) old new (Err kind) = ⊥
AddsBytes (Err (Kind kind)) old new answer = answer ≡ Err kind
AddsBytes (Err (Memory _)) old new answer = Unit {0}

-- a vector has these values, or the fault was answered
abbrev pub GivesValues : Result (Vec ℤ) WordFault → Result (List ℤ) FaultKind → Type 0
GivesValues (Ok values) answer = answer ≡ Ok values.items
GivesValues (Err (Kind kind)) answer = answer ≡ Err kind
GivesValues (Err (Memory _)) answer = Unit {0}
