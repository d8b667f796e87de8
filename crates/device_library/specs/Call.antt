-- What a call of the library is given, and what it gives back.
use Rattle.std.specs.Prelude.{◌≡◌, ◌⊎◌, ℕ, true, false, List, [], ◌∷◌, codes, Option, Some, None}
use Rattle.input_files.specs.{Reading.first_refusal, declared.status.Status.{Status, TheVariants.{Done, Rejected, Words, WriteFault, Memory}}}
use Rattle.device_cli.specs.{Answer.HasOutcome, Row.Row}
use Rattle.device_library.specs.Shown.{Shows, ShowsFirst}

-- the files of a call, each under the name that the words have for it
abbrev pub files_named : List ℕ → List ℕ → List ℕ → List ℕ → List (List ℕ × List ℕ)
files_named image script key other =
    (codes "image", image)
    ∷ (codes "script", script)
    ∷ (codes "key", key)
    ∷ (codes "other", other)
    ∷ []

-- an answer to the command of a row: the piece has the text; where it is of a play, that obeys the
-- laws of the device
abbrev pub IsAnswer : List (List ℕ × List ℕ) → Row → List ℕ → ℕ → Status → Type 0
IsAnswer files row piece count Done =
    HasOutcome (Some files) row (λ outcome.
    (outcome.is_accepted ≡ true) × Shows outcome.text piece count)
IsAnswer files row piece count Rejected =
    HasOutcome (Some files) row (λ outcome.
    (outcome.is_accepted ≡ false) × Shows outcome.text piece count)
IsAnswer files row piece count WriteFault =
    HasOutcome (Some files) row (λ outcome. ShowsFirst outcome.text piece count)
-- memory ran out; or of the files the first that is absent or has a fault
IsAnswer files row piece count Memory = Unit {0}
IsAnswer files row piece count status = first_refusal row files ≡ Some status

-- an answer to words that may spell a row
abbrev pub IsCall :
    List (List ℕ × List ℕ) → Option Row → List ℕ → ℕ → Status → Type 0
IsCall files None piece count status = (status ≡ Words) ⊎ (status ≡ Memory)
IsCall files (Some row) piece count status = IsAnswer files row piece count status
