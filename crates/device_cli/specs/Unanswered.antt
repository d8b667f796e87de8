-- What the word `--all` asks for: that each request of the policy has a report that is accepted.
use Rattle.std.specs.{Prelude.{◌+◌, ◌++◌, ◌&&◌, ℕ, Bool, true, false, List, [], ◌∷◌, Option, None, bytes_eq, codes, not, length, if◌then◌else◌}, Fmt.decimal, List.{find, range_with_len, slice_get}, Option.{is_none, option_map_or}}
use Rattle.device_types.specs.Address.{Bytes}
use Rattle.printed_lines.specs.Line.{line_of}
use Rattle.device_trace.specs.Text.{some_line}
use Rattle.report_verifier.specs.{declared.{asked.Asked.Asked, verdict.Verdict.Verdict}}
use Rattle.device_cli.specs.{Row.{Outcome, Row}, Verdicts.is_accept}

-- report i, from 0, is there and accepted
abbrev pub is_answered : List Verdict → ℕ → Bool
is_answered decisions i = option_map_or is_accept (slice_get decisions i) false

-- the first of the requests that is not answered, from 0
abbrev pub first_unanswered : List Asked → List Verdict → Option ℕ
first_unanswered requests decisions =
    find (λ i. not (is_answered decisions i)) (range_with_len 0 (length requests))

-- where all have to be answered
abbrev pub unanswered_if : Bool → List Asked → List Verdict → Option ℕ
unanswered_if all requests decisions =
    if all then first_unanswered requests decisions else None

-- its line has its number from 1
abbrev pub unanswered_line : ℕ → Bytes
unanswered_line i = line_of (codes "unanswered") (decimal (i + 1) ∷ [])

-- what is put of verdicts, where this request is not answered, if there is one: its line is last
abbrev pub with_unanswered : Outcome → Option ℕ → Outcome
with_unanswered outcome unanswered =
    record outcome {
      text = outcome.text ++ some_line unanswered_line unanswered;
      is_accepted = is_none unanswered && outcome.is_accepted;
    }

-- the row that arguments spell, where the word may stand in front of them
abbrev pub behind_all : (Bool → List (List ℕ) → Option Row) → List (List ℕ) → Option Row
behind_all row_with [] = row_with false []
behind_all row_with (first ∷ arguments) =
    if bytes_eq first (codes "--all") then row_with true arguments
    else row_with false (first ∷ arguments)
