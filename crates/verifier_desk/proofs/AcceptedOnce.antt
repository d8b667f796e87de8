-- No counter is requested twice or accepted twice, and what is accepted was requested.
use Rattle.std.{proofs.{Common.{◌≡◌, ◌<◌, ◌≤◌, ◌+◌, ℕ, Bool, true, false, List, [], ◌∷◌, ◌++◌, Option, Some, None, Result, Ok, Err, refl, arith, sym, ⊎_elim, inl, inr}, lemmas.{Bool.{cases_Bool, eqb-true, Decides.nat_tests}, List.Elements.{All-nil, All-cons, Contains-append_right}, Slice.Eq.bytes_eq-Decides}}, specs.{Prelude.{if◌then◌else◌, nat_eq, not, IfSome}, List.{All, Contains}, Str.bytes_eq}}
use Rattle.device_types.specs.Report.{ReportFields}
use Rattle.text_scan.specs.declared.fault_kind.FaultKind.{FaultKind}
use Rattle.report_text.specs.ReportFile.{report2_of}
use Rattle.report_verifier.specs.{declared.{verdict.Verdict.{Verdict, TheVariants.{Accept, NoChallenge, VersionDiffers, ChalDiffers, CountDiffers, BoundsDiffer, ExecZero, AuxZero, MacDiffers}}, expect.Expect.Expect}, Judge.Judge, Verdict.{verdict_on, same_version}}
use Rattle.desk_memory.specs.{declared.{answer.Answer.{Answer, TheVariants.Judged}, device_state.DeviceState.DeviceState}, DeviceState.{by_number, count_after, is_new, outstanding_after, with_answer}, Entry.{Entry, entry_at, home_of, state_under}}
use Rattle.verifier_desk.specs.{DeskLine.DeviceLine, DeviceReply.{LAST_COUNT, answer_to_ask, answer_to_give, new_answer}, Judged.{JudgedLine, answer_to, entry_after, entry_through, is_new_to, mark_of, state_before}, Law.{Descends, IsAcceptedOnce, KeyCounter, StartsSound, accepted_counters, accepted_counter, count_in, counter_in_state, counter_of, counters_in, outstanding_in, requested_counters, under_mark}}

-- an accepted report has the counter that is expected
counts_agree : (version chal count : Bool) (later : Verdict)
    → (if not version then VersionDiffers
    else if not chal then ChalDiffers
    else if not count then CountDiffers
    else later)
    ≡ Accept
    → count ≡ true
counts_agree true true true later accepts = refl
counts_agree true true false later accepts = absurd (cc accepts)
counts_agree true false count later accepts = absurd (cc accepts)
counts_agree false chal count later accepts = absurd (cc accepts)

pub accepted_count : (judge : Judge) (expect : Expect) (report : ReportFields)
    → verdict_on judge.digest judge.key judge.image expect report ≡ Accept
    → expect.count ≡ report.count
accepted_count judge expect report accepts =
    eqb-true expect.count report.count
    (counts_agree (same_version expect.version report.version) (bytes_eq expect.chal report.chal)
    (nat_eq expect.count report.count) _ accepts)

-- The counters so far, newest first: those that were requested, those whose report was accepted,
-- and the one that was outstanding at the start, which had counted to `base`. In this state, under
-- the key of this mark.
record IsCounted (old : List KeyCounter) (base : ℕ) (mark : List ℕ) (count : ℕ)
    (outstanding : Option ℕ) (requests accepts : List KeyCounter) : Type 0 where
  pub more : base ≤ count
  pub above : All (λ (one : KeyCounter). base < one.counter) requests
  pub within : All (λ n. n ≤ count) (counters_in requests)
  pub requests_descend : Descends (counters_in requests)
  pub last : IfSome outstanding (λ n. (n ≤ count)
      × Contains (requests ++ old) (record { mark = mark; counter = n }))
  pub before : All (λ m. m ≤ count) (counters_in accepts)
  pub others : IfSome outstanding (λ n. All (λ m. m < n) (counters_in accepts))
  pub accepts_descend : Descends (counters_in accepts)
  pub known : All (λ (one : KeyCounter). Contains (requests ++ old) one) accepts

-- one more request
request_counted : (old : List KeyCounter) (base : ℕ) (mark : List ℕ) (count : ℕ)
    (outstanding : Option ℕ) (requests accepts : List KeyCounter)
    → IsCounted old base mark count outstanding requests accepts
    → IsCounted old base mark (count + 1) (Some (count + 1))
    (record { mark = mark; counter = count + 1 } ∷ requests) accepts
request_counted old base mark count outstanding requests accepts so =
    let new : KeyCounter = record { mark = mark; counter = count + 1 } in
    record {
      more = omega (arith, so.more);
      above = All-cons (λ (one : KeyCounter). base < one.counter) new requests
          (omega (arith, so.more)) so.above;
      within = All-cons (λ n. n ≤ count + 1) (count + 1) (counters_in requests) (omega arith)
          (λ k d h. omega (arith, so.within k d h));
      requests_descend = (λ k d h. omega (arith, so.within k d h), so.requests_descend);
      last = (omega arith, (0, omega arith, refl));
      before = λ k d h. omega (arith, so.before k d h);
      others = λ k d h. omega (arith, so.before k d h);
      accepts_descend = so.accepts_descend;
      known = λ k d h. Contains-append_right (new ∷ []) (requests ++ old) _ (so.known k d h);
    }

-- the report of the outstanding request is accepted
accept_counted : (old : List KeyCounter) (base : ℕ) (mark : List ℕ) (count n : ℕ)
    (requests accepts : List KeyCounter)
    → IsCounted old base mark count (Some n) requests accepts
    → IsCounted old base mark count None requests (record { mark = mark; counter = n } ∷ accepts)
accept_counted old base mark count n requests accepts so =
    record {
      more = so.more;
      above = so.above;
      within = so.within;
      requests_descend = so.requests_descend;
      last = tt;
      before = All-cons (λ m. m ≤ count) n (counters_in accepts) so.last.0 so.before;
      others = tt;
      accepts_descend = (so.others, so.accepts_descend);
      known = All-cons (λ (one : KeyCounter). Contains (requests ++ old) one)
          (record { mark = mark; counter = n }) accepts so.last.1 so.known;
    }

-- under another key nothing is outstanding
renewed_counted : (old : List KeyCounter) (base : ℕ) (mark other : List ℕ) (count : ℕ)
    (outstanding : Option ℕ) (requests accepts : List KeyCounter)
    → IsCounted old base mark count outstanding requests accepts
    → IsCounted old base other count None requests accepts
renewed_counted old base mark other count outstanding requests accepts so =
    record {
      more = so.more;
      above = so.above;
      within = so.within;
      requests_descend = so.requests_descend;
      last = tt;
      before = so.before;
      others = tt;
      accepts_descend = so.accepts_descend;
      known = so.known;
    }

-- what a new answer does to the counters
abbrev Counts : List KeyCounter → ℕ → List ℕ → ℕ → Option ℕ → List KeyCounter → List KeyCounter
    → Result ReportFields FaultKind → Answer → Type 0
Counts old base mark count outstanding requests accepts report answer =
    IsCounted old base mark (count_after count answer) (outstanding_after outstanding answer)
    (under_mark mark (counter_of answer) ++ requests)
    (under_mark mark (accepted_counter answer report) ++ accepts)

ask_counts : (old : List KeyCounter) (base : ℕ) (mark : List ℕ) (count : ℕ)
    (outstanding : Option ℕ) (requests accepts : List KeyCounter)
    (report : Result ReportFields FaultKind) (words : List (List ℕ))
    → IsCounted old base mark count outstanding requests accepts
    → Counts old base mark count outstanding requests accepts report (answer_to_ask count words)
ask_counts old base mark count outstanding requests accepts report [] so =
    ⊎_elim
    (λ end. rw end so)
    (λ more. rw more (request_counted old base mark count outstanding requests accepts so))
    (cases_Bool (nat_eq count LAST_COUNT))
ask_counts old base mark count outstanding requests accepts report (word ∷ words) so = so

judged_counts : (old : List KeyCounter) (base : ℕ) (mark : List ℕ) (count n : ℕ)
    (requests accepts : List KeyCounter) (report : ReportFields) (decision : Verdict)
    → IsCounted old base mark count (Some n) requests accepts
    → (decision ≡ Accept → n ≡ report.count)
    → Counts old base mark count (Some n) requests accepts (Ok report) (Judged decision)
judged_counts old base mark count n requests accepts report Accept so agree =
    rw (sym (agree refl)) (accept_counted old base mark count n requests accepts so)
judged_counts old base mark count n requests accepts report NoChallenge so agree = so
judged_counts old base mark count n requests accepts report VersionDiffers so agree = so
judged_counts old base mark count n requests accepts report ChalDiffers so agree = so
judged_counts old base mark count n requests accepts report CountDiffers so agree = so
judged_counts old base mark count n requests accepts report BoundsDiffer so agree = so
judged_counts old base mark count n requests accepts report ExecZero so agree = so
judged_counts old base mark count n requests accepts report AuxZero so agree = so
judged_counts old base mark count n requests accepts report MacDiffers so agree = so

give_counts : (old : List KeyCounter) (base : ℕ) (mark : List ℕ) (judge : Judge) (count : ℕ)
    (outstanding : Option ℕ) (requests accepts : List KeyCounter)
    (report : Result ReportFields FaultKind)
    → IsCounted old base mark count outstanding requests accepts
    → Counts old base mark count outstanding requests accepts report
    (answer_to_give judge outstanding report)
give_counts old base mark judge count outstanding requests accepts (Err kind) so = so
give_counts old base mark judge count None requests accepts (Ok report) so = so
give_counts old base mark judge count (Some n) requests accepts (Ok report) so =
    judged_counts old base mark count n requests accepts report _ so
    (λ accepts. accepted_count judge _ report accepts)

line_counts : (old : List KeyCounter) (base : ℕ) (mark : List ℕ) (judge : Judge)
    (state : DeviceState) (line : DeviceLine) (requests accepts : List KeyCounter)
    → IsCounted old base mark state.count state.outstanding requests accepts
    → Counts old base mark state.count state.outstanding requests accepts
    (report2_of line.words) (new_answer judge state line)
line_counts old base mark judge state line requests accepts so =
    ⊎_elim
    (λ gives. rw gives (give_counts old base mark judge state.count state.outstanding requests
    accepts (report2_of line.words) so))
    (λ asks. rw asks (ask_counts old base mark state.count state.outstanding requests accepts
    (report2_of line.words) line.words so))
    (cases_Bool line.is_give)

-- a new number is answered anew
pub new_by_number : (number : ℕ) (last : Option (ℕ × Answer)) (answer : Answer)
    → is_new number last ≡ true → by_number number last answer ≡ answer
new_by_number number None answer new = refl
new_by_number number (Some (last, kept)) answer new = grind (arith, nat_tests, new)

-- the counters so far of a device with this last entry, under the key of whichever mark
abbrev AreCounted : List KeyCounter → ℕ → Option Entry → List KeyCounter → List KeyCounter → Type 0
AreCounted old base entry requests accepts =
    (mark : List ℕ) → IsCounted old base mark (state_under mark entry).count
    (state_under mark entry).outstanding requests accepts

entry_counted : (old : List KeyCounter) (base : ℕ) (entry : Entry)
    (requests accepts : List KeyCounter)
    → IsCounted old base entry.mark entry.state.count entry.state.outstanding requests accepts
    → AreCounted old base (Some entry) requests accepts
entry_counted old base entry requests accepts so mark =
    elim (cases_Bool (bytes_eq entry.mark mark)) [
      | inl same ↦ rw (same, sym ((bytes_eq-Decides entry.mark mark).0 same)) so
      | inr other ↦ rw other (renewed_counted old base entry.mark mark entry.state.count
          entry.state.outstanding requests accepts so)
    ]

state_counted : (mark : List ℕ) (count : ℕ) (outstanding : Option ℕ)
    → IfSome outstanding (λ n. n ≤ count)
    → IsCounted (under_mark mark (counter_in_state outstanding)) count mark count outstanding [] []
state_counted mark count None sound = record {
  more = omega arith;
  above = All-nil _;
  within = All-nil _;
  requests_descend = tt;
  last = tt;
  before = All-nil _;
  others = tt;
  accepts_descend = tt;
  known = All-nil _;
}
state_counted mark count (Some n) sound = record {
  more = omega arith;
  above = All-nil _;
  within = All-nil _;
  requests_descend = tt;
  last = (sound, (0, omega arith, refl));
  before = All-nil _;
  others = All-nil _;
  accepts_descend = tt;
  known = All-nil _;
}

start_counted : (start : Option Entry) → StartsSound start
    → AreCounted (outstanding_in start) (count_in start) start [] []
start_counted None sound mark =
    record {
      more = omega arith;
      above = All-nil _;
      within = All-nil _;
      requests_descend = tt;
      last = tt;
      before = All-nil _;
      others = tt;
      accepts_descend = tt;
      known = All-nil _;
    }
start_counted (Some entry) sound mark =
    entry_counted (outstanding_in (Some entry)) entry.state.count entry [] []
    (state_counted entry.mark entry.state.count entry.state.outstanding sound) mark

-- one more line
line_counted : (old : List KeyCounter) (base : ℕ) (name : List ℕ) (entry : Option Entry)
    (now : JudgedLine) (requests accepts : List KeyCounter)
    → AreCounted old base entry requests accepts
    → AreCounted old base (entry_after name entry now)
    ((if is_new_to entry now then under_mark (mark_of now) (counter_of (answer_to entry now))
    else []) ++ requests)
    ((if is_new_to entry now then under_mark (mark_of now)
    (accepted_counter (answer_to entry now) (report2_of now.line.words)) else []) ++ accepts)
line_counted old base name entry now requests accepts so =
    let state : DeviceState = state_before entry now in
    let answer : Answer = new_answer now.judge state now.line in
    elim (cases_Bool (is_new_to entry now)) [
      | inl new ↦
          let is : answer_to entry now ≡ answer =
          new_by_number now.line.number state.last answer new in
          rw (new, is) (entry_counted old base
          (entry_at (home_of entry) (record {
            name = name;
            mark = mark_of now;
            state = with_answer state now.line.number answer;
          }))
          (under_mark (mark_of now) (counter_of answer) ++ requests)
          (under_mark (mark_of now) (accepted_counter answer (report2_of now.line.words))
          ++ accepts)
          (line_counts old base (mark_of now) now.judge state now.line requests accepts
          (so (mark_of now))))
      | inr not ↦ rw not so
    ]

counted : (name : List ℕ) (start : Option Entry) (lines : List JudgedLine) → StartsSound start
    → AreCounted (outstanding_in start) (count_in start) (entry_through name start lines)
    (requested_counters name start lines) (accepted_counters name start lines)
counted name start [] sound = start_counted start sound
counted name start (now ∷ earlier) sound =
    line_counted (outstanding_in start) (count_in start) name (entry_through name start earlier)
    now (requested_counters name start earlier) (accepted_counters name start earlier)
    (counted name start earlier sound)

pub report_is_accepted_once : IsAcceptedOnce
report_is_accepted_once name start lines sound =
    let so = counted name start lines sound [] in
    (so.requests_descend, so.accepts_descend, so.above, so.known)
