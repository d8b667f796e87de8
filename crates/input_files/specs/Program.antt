-- What a program answers to its command line.
use Rattle.std.specs.{Prelude.{◌≡◌, ◌⊎◌, ℕ, List, [], ◌∷◌, Option, Some, None, Ok, Err, bytes_eq, codes, if◌then◌else◌}, IoError.error_kind}
use Rattle.outside_edge.specs.Sink.{Takes, TakesPrefix}
use Rattle.input_files.specs.{CommandLine.{CommandLine, arguments_in, refused_words}, declared.status.Status.{Status, TheVariants.{Done, WriteFault, Memory}}}

-- what it prints of itself: its help or its version, where that word stands alone
abbrev pub own_text_of : List ℕ → List ℕ → List (List ℕ) → Option (List ℕ)
own_text_of help version (only ∷ []) =
    if bytes_eq only (codes "--help") then Some help
    else if bytes_eq only (codes "--version") then Some version
    else None
own_text_of help version arguments = None

-- all of a text was put, or a prefix of it
abbrev pub IsPrinted : {S : Type 0} → (S → List ℕ → Type 0) → S → S → List ℕ → Status → Type 0
IsPrinted stands old new text status =
    ((status ≡ Done) × Takes stands old new text)
    ⊎ ((status ≡ WriteFault) × TakesPrefix stands old new text)

-- it prints a text of its own, or else this is an answer that it may give
abbrev pub PrintsOr : {S : Type 0} → (S → List ℕ → Type 0) → S → S → Option (List ℕ) → Type 0
    → Status → Type 0
PrintsOr stands old new (Some text) may_answer status = IsPrinted stands old new text status
PrintsOr stands old new None may_answer status = may_answer

-- an answer to a command line: the program's own to its arguments, or why there are none
abbrev pub IsAnswer : {S : Type 0} → (S → List ℕ → Type 0) → S → S → List ℕ → List ℕ
    → (List (List ℕ) → Status → Type 0) → CommandLine → Status → Type 0
IsAnswer stands old new help version may_answer (Ok words) status =
    (status ≡ Memory)
    ⊎ PrintsOr stands old new (own_text_of help version (arguments_in words))
    (may_answer (arguments_in words) status) status
IsAnswer stands old new help version may_answer (Err error) status =
    status ≡ refused_words (error_kind error)
