-- What a desk replies to lines.
use Rattle.std.specs.{Prelude.{ℕ, ◌++◌, Bool, false, List, [], ◌∷◌, if◌then◌else◌, Option, codes}, Fmt.decimal, Str.bytes_eq}
use Rattle.part_definitions.specs.Request.{request_token}
use Rattle.printed_lines.specs.Line.{line_of}
use Rattle.report_text.specs.RequestLine.{request_pieces}
use Rattle.report_verifier.specs.{Verdict.verdict_name, Expectation.count_bytes, Judge.Judge, Policy.PolicyFields}
use Rattle.desk_memory.specs.{declared.{answer.Answer.{Answer, TheVariants.{Stale, Bad, Spent, Requested, Judged}}, device_state.DeviceState.DeviceState}, Entry.{Entry, last_in, state_under}, KeyMark.key_mark}
use Rattle.text_scan.specs.FaultName.{fault_name}
use Rattle.verifier_desk.specs.{DeskLine.{DeskLine, TooLong, Silent, Foreign, Own, desk_line_of, DeviceLine}, DeviceKey.DeviceKey, DeviceReply.{answer_after, desk_challenge, is_new_give, state_from}}

-- whom a desk serves, what it judges reports by, and what its memory has as it starts
pub record DeskFields : Type 0 where
  pub digest : List ℕ → List ℕ
  pub devices : List DeviceKey
  pub image : ℕ → Option ℕ
  pub policy : PolicyFields
  pub entries : List Entry

abbrev pub judge_at : DeskFields → DeviceKey → Judge
judge_at desk device =
    record { digest = desk.digest; key = device.key; image = desk.image; policy = desk.policy }

-- the mark of a device's key
abbrev pub mark_at : DeskFields → DeviceKey → List ℕ
mark_at desk device = key_mark desk.digest device.key

-- the state of a device after these lines of it, newest first: as it starts, that of its last entry
-- under its key
abbrev pub state_at : DeskFields → DeviceKey → List DeviceLine → DeviceState
state_at desk device lines =
    state_from (judge_at desk device)
    (state_under (mark_at desk device) (last_in desk.entries device.name)) lines

-- a request with the desk's challenge of this counter
abbrev pub requested_pieces : (List ℕ → List ℕ) → List ℕ → ℕ → List (List ℕ)
requested_pieces digest key count =
    let chal = desk_challenge digest key count in
    request_pieces chal count (request_token digest key chal (count_bytes count))

abbrev pub answer_verb : Answer → List ℕ
answer_verb Stale = codes "stale"
answer_verb (Bad kind) = codes "bad"
answer_verb Spent = codes "spent"
answer_verb (Requested count) = codes "request"
answer_verb (Judged decision) = codes "verdict"

abbrev pub answer_pieces : (List ℕ → List ℕ) → List ℕ → Answer → List (List ℕ)
answer_pieces digest key (Bad kind) = fault_name kind ∷ []
answer_pieces digest key (Requested count) = requested_pieces digest key count
answer_pieces digest key (Judged decision) = verdict_name decision ∷ []
answer_pieces digest key answer = []

-- the line of an answer: its verb, the device's name, the number of its line, and what it says
abbrev pub answer_line : (List ℕ → List ℕ) → DeviceKey → ℕ → Answer → List ℕ
answer_line digest device number answer =
    line_of (answer_verb answer)
    (device.name ∷ decimal number ∷ answer_pieces digest device.key answer)

-- the lines of the device of this name, among lines that are newest first
abbrev pub own_line : List ℕ → DeskLine → List DeviceLine
own_line name (Own device line) = if bytes_eq device.name name then line ∷ [] else []
own_line name line = []

abbrev pub own_lines : List DeviceKey → List ℕ → List (List ℕ) → List DeviceLine
own_lines devices name [] = []
own_lines devices name (line ∷ earlier) =
    own_line name (desk_line_of devices line) ++ own_lines devices name earlier

-- the lines of each device among these
abbrev pub lines_said : DeskFields → List (List ℕ) → List ℕ → List DeviceLine
lines_said desk lines name = own_lines desk.devices name lines

-- the answer to a line of a device, where these were its earlier ones
abbrev pub own_answer : DeskFields → List DeviceLine → DeviceKey → DeviceLine → Answer
own_answer desk earlier device line =
    answer_after (judge_at desk device) (state_at desk device earlier) line

-- the reply to what a line says, where these were the earlier lines of the device of each name
abbrev pub reply_to : DeskFields → (List ℕ → List DeviceLine) → DeskLine → List ℕ
reply_to desk earlier TooLong = codes "too-long\n"
reply_to desk earlier Silent = []
reply_to desk earlier Foreign = codes "refused\n"
reply_to desk earlier (Own device line) =
    answer_line desk.digest device line.number (own_answer desk (earlier device.name) device line)

-- whether what a line says is a new report of a device
abbrev pub gives_report : DeskFields → (List ℕ → List DeviceLine) → DeskLine → Bool
gives_report desk earlier (Own device line) =
    is_new_give (state_at desk device (earlier device.name)).last line
gives_report desk earlier said = false

-- the reply to a line after earlier ones
abbrev pub reply : DeskFields → List (List ℕ) → List ℕ → List ℕ
reply desk earlier line = reply_to desk (lines_said desk earlier) (desk_line_of desk.devices line)

-- the replies to lines, the newest first, in the order of the lines
abbrev pub replies : DeskFields → List (List ℕ) → List ℕ
replies desk [] = []
replies desk (line ∷ earlier) = replies desk earlier ++ reply desk earlier line
