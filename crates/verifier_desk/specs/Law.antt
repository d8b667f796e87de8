-- What the replies of a desk keep.
use Rattle.std.specs.{Prelude.{◌≡◌, ◌<◌, ◌≤◌, ℕ, Bool, true, false, List, [], ◌∷◌, ◌++◌, if◌then◌else◌, map, Option, Some, None, Result, Ok, Err, Contains, IfSome, All}, List.filter, Str.bytes_eq}
use Rattle.device_types.specs.Report.{ReportFields}
use Rattle.text_scan.specs.declared.fault_kind.FaultKind.{FaultKind}
use Rattle.report_text.specs.ReportFile.{report2_of}
use Rattle.report_verifier.specs.{declared.verdict.Verdict.TheVariants.Accept, Judge.Judge}
use Rattle.desk_memory.specs.{declared.{answer.Answer.{Answer, TheVariants.{Stale, Requested, Judged}}, device_state.DeviceState.DeviceState}, DeviceState.is_new, Entry.{Entry, last_in}}
use Rattle.verifier_desk.specs.{DeskLine.{DeskLine, Own, desk_line_of, DeviceLine}, DeviceKey.{DeviceKey, key_named}, DeviceReply.{answer_after, desk_challenge}, Judged.{JudgedLine, answer_to, entry_after, entry_through, is_new_to, judged_by, mark_of}, Noted.entries_after, Replies.{DeskFields, judge_at, own_lines, replies, reply}}

-- a desk that serves one device alone
abbrev pub alone : DeskFields → DeviceKey → DeskFields
alone desk device = record desk { devices = device ∷ [] }

-- whether a line is of the device of this name
abbrev pub is_named : List ℕ → DeskLine → Bool
is_named name (Own device line) = bytes_eq device.name name
is_named name line = false

abbrev pub is_of : DeskFields → List ℕ → List ℕ → Bool
is_of desk name line = is_named name (desk_line_of desk.devices line)

-- the lines of one device, and the replies to them
abbrev pub lines_of_device : DeskFields → List ℕ → List (List ℕ) → List (List ℕ)
lines_of_device desk name lines = filter (is_of desk name) lines

abbrev pub replies_to_device : DeskFields → List ℕ → List (List ℕ) → List ℕ
replies_to_device desk name [] = []
replies_to_device desk name (line ∷ earlier) =
    replies_to_device desk name earlier
    ++ (if is_of desk name line then reply desk earlier line else [])

-- the replies to a device are those at a desk whose devices and lines are that device's alone
abbrev pub IsServedAlone : Type 0
IsServedAlone =
    (desk : DeskFields) (device : DeviceKey) (lines : List (List ℕ))
    → key_named device.name desk.devices ≡ Some device.key
    → replies_to_device desk device.name lines
    ≡ replies (alone desk device) (lines_of_device desk device.name lines)

-- the counter of a request that a new line was answered with
abbrev pub counter_of : Answer → List ℕ
counter_of (Requested count) = count ∷ []
counter_of answer = []

-- and of a report that was accepted
abbrev pub counter_in : Result ReportFields FaultKind → List ℕ
counter_in (Ok report) = report.count ∷ []
counter_in (Err kind) = []

abbrev pub accepted_counter : Answer → Result ReportFields FaultKind → List ℕ
accepted_counter (Judged Accept) report = counter_in report
accepted_counter answer report = []

-- a counter, and the mark of the key under which it was requested or accepted
pub record KeyCounter : Type 0 where
  pub mark : List ℕ
  pub counter : ℕ

abbrev pub under_mark : List ℕ → List ℕ → List KeyCounter
under_mark mark counters = map (λ counter. record { mark = mark; counter = counter }) counters

abbrev pub counters_in : List KeyCounter → List ℕ
counters_in told = map (λ (one : KeyCounter). one.counter) told

-- the counter that a line with this answer requests, and the one that it accepts
abbrev pub line_request : JudgedLine → Answer → List ℕ
line_request now answer = counter_of answer

abbrev pub line_accept : JudgedLine → Answer → List ℕ
line_accept now answer = accepted_counter answer (report2_of now.line.words)

-- such counters of the lines with new numbers, newest first, from a last entry at the start
abbrev pub line_counters : (JudgedLine → Answer → List ℕ) → List ℕ → Option Entry
    → List JudgedLine → List KeyCounter
line_counters counters name start [] = []
line_counters counters name start (now ∷ earlier) =
    let entry = entry_through name start earlier in
    (if is_new_to entry now then under_mark (mark_of now) (counters now (answer_to entry now))
    else [])
    ++ line_counters counters name start earlier

abbrev pub requested_counters : List ℕ → Option Entry → List JudgedLine → List KeyCounter
requested_counters name start lines = line_counters line_request name start lines

abbrev pub accepted_counters : List ℕ → Option Entry → List JudgedLine → List KeyCounter
accepted_counters name start lines = line_counters line_accept name start lines

-- what is outstanding at the start, which was requested before
abbrev pub counter_in_state : Option ℕ → List ℕ
counter_in_state None = []
counter_in_state (Some count) = count ∷ []

abbrev pub outstanding_in : Option Entry → List KeyCounter
outstanding_in None = []
outstanding_in (Some entry) = under_mark entry.mark (counter_in_state entry.state.outstanding)

abbrev pub count_in : Option Entry → ℕ
count_in None = 0
count_in (Some entry) = entry.state.count

-- the outstanding request is one of those that were counted
abbrev pub IsSound : DeviceState → Type 0
IsSound state = IfSome state.outstanding (λ n. n ≤ state.count)

abbrev pub StartsSound : Option Entry → Type 0
StartsSound entry = IfSome entry (λ (one : Entry). IsSound one.state)

-- each number is greater than all that follow: none comes twice
abbrev pub Descends : List ℕ → Type 0
Descends [] = Unit {0}
Descends (n ∷ ns) = All (λ m. m < n) ns × Descends ns

-- from any sound entry on, whatever each line is judged by: no counter is requested twice or
-- accepted twice, none is requested that the start has counted, and what is accepted was requested
-- under the key that it is accepted under, or was outstanding so at the start
abbrev pub IsAcceptedOnce : Type 0
IsAcceptedOnce =
    (name : List ℕ) (start : Option Entry) (lines : List JudgedLine) → StartsSound start
    → Descends (counters_in (requested_counters name start lines))
    × Descends (counters_in (accepted_counters name start lines))
    × All (λ one. count_in start < one.counter) (requested_counters name start lines)
    × All (λ one. Contains (requested_counters name start lines ++ outstanding_in start) one)
    (accepted_counters name start lines)

-- the same number again gets the same answer under the same key, and is stale under another one;
-- either changes nothing
abbrev pub IsRepeated : Type 0
IsRepeated =
    (name : List ℕ) (entry : Option Entry) (now again : JudgedLine)
    → again.line.number ≡ now.line.number
    → (answer_to entry now ≡ Stale → ⊥)
    → (answer_to (entry_after name entry now) again
    ≡ (if bytes_eq (mark_of now) (mark_of again) then answer_to entry now else Stale))
    × (entry_after name (entry_after name entry now) again ≡ entry_after name entry now)

-- a report that is accepted answers the outstanding request: its counter and its challenge
abbrev pub AnswersRequest : Judge → Option ℕ → Result ReportFields FaultKind → Type 0
AnswersRequest judge outstanding (Ok report) =
    (outstanding ≡ Some report.count)
    × (report.chal ≡ desk_challenge judge.digest judge.key report.count)
AnswersRequest judge outstanding (Err kind) = ⊥

abbrev pub IsAnswered : Type 0
IsAnswered =
    (judge : Judge) (state : DeviceState) (line : DeviceLine)
    → is_new line.number state.last ≡ true
    → answer_after judge state line ≡ Judged Accept
    → AnswersRequest judge state.outstanding (report2_of line.words)

-- the lines of the device of a name at a desk that has its key, and what they were judged by
abbrev pub judged_at : DeskFields → List ℕ → Option (List ℕ) → List DeviceLine → List JudgedLine
judged_at desk name None lines = []
judged_at desk name (Some key) lines =
    judged_by (judge_at desk (record { name = name; key = key })) lines

abbrev pub judged_lines : DeskFields → List ℕ → List (List ℕ) → List JudgedLine
judged_lines desk name lines =
    judged_at desk name (key_named name desk.devices) (own_lines desk.devices name lines)

-- a desk that is started with what the memory of another had after these lines
abbrev pub started_after : DeskFields → List (List ℕ) → DeskFields
started_after desk lines = record desk { entries = entries_after desk lines }

-- the memory has the last entry of each device after its lines, and of other names what it had
abbrev pub IsRemembered : Type 0
IsRemembered =
    (desk : DeskFields) (lines : List (List ℕ)) (name : List ℕ)
    → last_in (entries_after desk lines) name
    ≡ entry_through name (last_in desk.entries name) (judged_lines desk name lines)

-- so a desk that is started anew goes on as if it had not been stopped, and so does its memory
abbrev pub IsGoneOn : Type 0
IsGoneOn =
    (desk : DeskFields) (earlier later : List (List ℕ))
    → (replies desk (later ++ earlier)
    ≡ replies desk earlier ++ replies (started_after desk earlier) later)
    × (entries_after desk (later ++ earlier)
    ≡ entries_after (started_after desk earlier) later)
