-- What is said of the first pass on its way.
use Rattle.std.specs.Prelude.{◌≡◌, ℕ, Bool, Option, Some, None, is_some, Result, Ok, Err}
use Rattle.text_scan.specs.{declared.{fault_kind.FaultKind.FaultKind, word_fault.WordFault.{WordFault, TheVariants.{Kind, Memory}}}}
use Rattle.mem_map.specs.{declared.image.Image.Image, Image.byte_in}

-- an image has a byte there
abbrev pub occupies : Image → ℕ → Bool
occupies image place = is_some (byte_in image place)

-- no fault, or the fault; out of memory says nothing
abbrev pub AnswersFault : Result Unit WordFault → Option FaultKind → Type 0
AnswersFault (Ok _) fault = fault ≡ None
AnswersFault (Err (Kind kind)) fault = fault ≡ Some kind
AnswersFault (Err (Memory _)) fault = Unit {0}
