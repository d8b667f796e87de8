-- What a desk answers to one device, from that device's lines alone.
use Rattle.std.specs.Prelude.{ℕ, ◌==◌, ◌&&◌, ◌+◌, Bool, List, [], ◌∷◌, if◌then◌else◌, Option, option_map, Result, Ok, Err}
use Rattle.device_types.specs.Report.{ReportFields}
use Rattle.part_definitions.specs.Hmac.{hmac}
use Rattle.text_scan.specs.{declared.fault_kind.FaultKind.{FaultKind, TheVariants.Extra}}
use Rattle.report_text.specs.ReportFile.{report2_of}
use Rattle.report_verifier.specs.{declared.asked.Asked.Asked, Expectation.count_bytes, Judge.Judge, Policy.expectation, Verdict.verdict}
use Rattle.desk_memory.specs.{declared.{answer.Answer.{Answer, TheVariants.{Bad, Spent, Requested, Judged}}, device_state.DeviceState.DeviceState}, DeviceState.{by_number, is_new, with_answer}}
use Rattle.verifier_desk.specs.DeskLine.{DeviceLine}

-- the greatest counter of a request
abbrev pub LAST_COUNT : ℕ
LAST_COUNT = 4294967295

-- the challenge of a device's request with this counter, and its message
abbrev pub challenge_message : ℕ → List ℕ
challenge_message count = 2 ∷ count_bytes count

abbrev pub desk_challenge : (List ℕ → List ℕ) → List ℕ → ℕ → List ℕ
desk_challenge digest key count = hmac digest key (challenge_message count)

abbrev pub request_with : (List ℕ → List ℕ) → List ℕ → ℕ → Asked
request_with digest key count =
    record { chal = desk_challenge digest key count; count = count }

-- to a line that asks: a request, unless the counter is spent
abbrev pub answer_to_ask : ℕ → List (List ℕ) → Answer
answer_to_ask count [] = if count == LAST_COUNT then Spent else Requested (count + 1)
answer_to_ask count (word ∷ words) = Bad Extra

-- to a line that gives a report: the verdict, with the request that is outstanding
abbrev pub answer_to_give : Judge → Option ℕ → Result ReportFields FaultKind → Answer
answer_to_give judge outstanding (Err kind) = Bad kind
answer_to_give judge outstanding (Ok report) =
    Judged (verdict judge.digest judge.key judge.image (expectation judge.policy
    (option_map (request_with judge.digest judge.key) outstanding)) report)

-- to a line with a new number
abbrev pub new_answer : Judge → DeviceState → DeviceLine → Answer
new_answer judge state line =
    if line.is_give then answer_to_give judge state.outstanding (report2_of line.words)
    else answer_to_ask state.count line.words

-- a line gives a report and has a new number: memory is taken for no other
abbrev pub is_new_give : Option (ℕ × Answer) → DeviceLine → Bool
is_new_give last line = line.is_give && is_new line.number last

-- the last number has its answer, a smaller one is stale, and all others are new
abbrev pub answer_after : Judge → DeviceState → DeviceLine → Answer
answer_after judge state line = by_number line.number state.last (new_answer judge state line)

-- the answer to a new number is kept
abbrev pub state_after : Judge → DeviceState → DeviceLine → DeviceState
state_after judge state line =
    if is_new line.number state.last
    then with_answer state line.number (new_answer judge state line)
    else state

-- after a device's lines, newest first
abbrev pub state_from : Judge → DeviceState → List DeviceLine → DeviceState
state_from judge state [] = state
state_from judge state (line ∷ earlier) = state_after judge (state_from judge state earlier) line
