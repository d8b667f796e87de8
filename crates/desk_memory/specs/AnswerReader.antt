-- An answer that is read from words.
use Rattle.std.specs.{Prelude.{ℕ, List, Result, Ok, Err, codes, if◌then◌else◌, [], ◌∷◌}, Str.bytes_eq, Fmt.decimal, List.join_with_byte}
use Rattle.text_scan.specs.{declared.fault_kind.FaultKind.{FaultKind, TheVariants.Word}, FaultName.{fault_names, fault_name}, Reader.◌>>=◌, Word.next_word, WordValue.{number_of, value_of}}
use Rattle.report_verifier.specs.Verdict.{verdict_names, verdict_name}
use Rattle.desk_memory.specs.declared.answer.Answer.{Answer, TheVariants.{Stale, Bad, Spent, Requested, Judged}}

-- the greatest counter of a request
abbrev pub most_number : ℕ
most_number = 4294967295

-- the verb of an answer, and what it says
unfoldable pub answer_with : List ℕ → List (List ℕ) → Result (Answer × List (List ℕ)) FaultKind
answer_with verb words =
    if bytes_eq verb (codes "stale") then Ok (Stale, words)
    else if bytes_eq verb (codes "spent") then Ok (Spent, words)
    else if bytes_eq verb (codes "bad") then (do
      kind ← value_of fault_names words
      Ok (Bad kind.0, kind.1))
    else if bytes_eq verb (codes "verdict") then (do
      verdict ← value_of verdict_names words
      Ok (Judged verdict.0, verdict.1))
    else if bytes_eq verb (codes "request") then (do
      count ← number_of 0 most_number words
      Ok (Requested count.0, count.1))
    else Err Word

unfoldable pub answer_of : List (List ℕ) → Result (Answer × List (List ℕ)) FaultKind
answer_of words = do
  verb ← next_word words
  answer_with verb.0 verb.1

-- An answer in words, without the device's name and the number of its line: as a memory keeps it.

abbrev pub answer_words : Answer → List (List ℕ)
answer_words Stale = codes "stale" ∷ []
answer_words (Bad kind) = codes "bad" ∷ fault_name kind ∷ []
answer_words Spent = codes "spent" ∷ []
answer_words (Requested count) = codes "request" ∷ decimal count ∷ []
answer_words (Judged verdict) = codes "verdict" ∷ verdict_name verdict ∷ []

-- with a blank (32) between them
abbrev pub answer_text : Answer → List ℕ
answer_text answer = join_with_byte 32 (answer_words answer)
