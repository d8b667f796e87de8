-- The first request that is not answered, by a tally of the verdicts, and what is put of it.
use Rattle.std.{proofs.{Common.{◌≡◌, ◌<◌, ◌≤◌, ◌+◌, ◌&&◌, ℕ, zero, suc, Bool, true, false, List, Option, Some, None, Result, Ok, Err, length, refl, arith, inl, inr}, lemmas.{Bool.{cases_eq, cases_lt}, List.Sums.{prefix_len-le-length, prefix_len_passes, prefix_len_stops}, Option.{slice_get-get_or, slice_get_cases, slice_get_past, slice_get_within}}}, specs.{Prelude.{not, IsErrAnd}, List.{find, prefix_len, range_with_len, slice_get}, Option.is_none}}
use Rattle.outside_edge.{specs.{Calls.Rose, Sink.{Takes, TakesPrefix}}, proofs.SinkLemmas.{prefix_after, prefix_of_more, takes_both}}
use Rattle.report_verifier.specs.{declared.{asked.Asked.Asked, verdict.Verdict.{Verdict, TheVariants.Accept}, expect.Expect.Expect}, Policy.{PolicyFields, expect_at, expectation}}
use Rattle.device_play.specs.declared.put_fault.PutFault.{PutFault, TheVariants.{Write, Memory}}
use Rattle.device_trace.specs.Text.{some_line}
use Rattle.device_cli.specs.{declared.ending.Ending.Ending, Answer.PutsOutcome, Row.{Outcome, ending_of}, Unanswered.{first_unanswered, is_answered, unanswered_line, with_unanswered}, Verdicts.is_accept}

-- How the putting of a text ends.

-- writing failed
pub fails : {W : Type 0} (stands : W → List ℕ → Type 0) (faults : W → ℕ) (old new : W)
    (outcome : Outcome) (result : Result Ending PutFault)
    → IsErrAnd result (λ error. error ≡ Write)
    → TakesPrefix stands old new outcome.text
    → Rose (faults old) (faults new)
    → PutsOutcome stands faults old new outcome result
fails stands faults old new outcome (Ok ending) is prefix rose = absurd is
fails stands faults old new outcome (Err fault) is prefix rose = rw is (prefix, rose)

-- what passes is found where it is the first that does, and lies in the range
found-none : (p : ℕ → Bool) (k : ℕ) → ((i : ℕ) → i < k → p i ≡ false)
    → (a n : ℕ) → a + n ≤ k → find p (range_with_len a n) ≡ None
found-none p k fails a zero within = refl
found-none p k fails a (suc n) within =
    rw (fails a (omega (arith, within))) (found-none p k fails (a + 1) n (omega (arith, within)))

found-some : (p : ℕ → Bool) (k : ℕ) → ((i : ℕ) → i < k → p i ≡ false) → p k ≡ true
    → (a n : ℕ) → a ≤ k → k < a + n → find p (range_with_len a n) ≡ Some k
found-some p k fails passes a zero from within = absurd (omega (arith, from, within))
found-some p k fails passes a (suc n) from within = elim (cases_eq a k) [
  | inl same ↦ rw (same, passes) refl
  | inr other ↦
      rw (fails a (omega (arith, from, other)))
      (found-some p k fails passes (a + 1) n (omega (arith, from, other))
      (omega (arith, within)))
]

-- a report before the first that is not accepted
leading-answered : (decisions : List Verdict) (i : ℕ) → i < prefix_len is_accept decisions
    → not (is_answered decisions i) ≡ false
leading-answered decisions i leads =
    let within : i < length decisions =
    omega (arith, leads, prefix_len-le-length is_accept decisions) in
    rw (slice_get-get_or decisions i Accept within)
    (rw (prefix_len_passes is_accept decisions i Accept leads) refl)

-- and that one, or the first that is absent
next-unanswered : (decisions : List Verdict)
    → not (is_answered decisions (prefix_len is_accept decisions)) ≡ true
next-unanswered decisions =
    let next : ℕ = prefix_len is_accept decisions in
    elim (cases_lt next (length decisions)) [
      | inl within ↦
          rw (slice_get-get_or decisions next Accept within)
          (rw (prefix_len_stops is_accept decisions Accept within) refl)
      | inr past ↦ rw (slice_get_past decisions next past) refl
    ]

pub unanswered-none : (requests : List Asked) (decisions : List Verdict) (next : ℕ)
    → next ≡ prefix_len is_accept decisions → length requests ≤ next
    → first_unanswered requests decisions ≡ None
unanswered-none requests decisions next is past =
    found-none (λ i. not (is_answered decisions i)) (prefix_len is_accept decisions)
    (leading-answered decisions) 0 (length requests) (omega (arith, is, past))

pub unanswered-some : (requests : List Asked) (decisions : List Verdict) (next : ℕ)
    → next ≡ prefix_len is_accept decisions → next < length requests
    → first_unanswered requests decisions ≡ Some next
unanswered-some requests decisions next is within =
    rw is (found-some (λ i. not (is_answered decisions i)) (prefix_len is_accept decisions)
    (leading-answered decisions) (next-unanswered decisions) 0 (length requests)
    (omega arith) (omega (arith, is, within)))

-- a report is expected where there is a request of its number
expected-none : (policy : PolicyFields) (asked : Option Asked) → expectation policy asked ≡ None
    → asked ≡ None
expected-none policy None is = refl
expected-none policy (Some asked) is = absurd (cc is)

expected-some : (policy : PolicyFields) (asked : Option Asked) (expect : Expect)
    → expectation policy asked ≡ Some expect → (request : Asked) × (asked ≡ Some request)
expected-some policy None expect is = absurd (cc is)
expected-some policy (Some asked) expect is = (asked, refl)

pub unexpected-past : (policy : PolicyFields) (i : ℕ) → expect_at policy i ≡ None
    → length policy.requests ≤ i
unexpected-past policy i is = elim (slice_get_cases policy.requests i).1 [
  | inl found ↦
      absurd (cc (expected-none policy (slice_get policy.requests i) is, found.2))
  | inr past ↦ past.0
]

pub expected-within : (policy : PolicyFields) (i : ℕ) (expect : Expect)
    → expect_at policy i ≡ Some expect → i < length policy.requests
expected-within policy i expect is =
    let request = expected-some policy (slice_get policy.requests i) expect is in
    slice_get_within policy.requests i request.0 request.1

-- what was put of verdicts that memory or a fault cut off
stopped : {S : Type 0} (stands : S → List ℕ → Type 0) (faults : S → ℕ) (old new : S)
    (outcome : Outcome) (unanswered : Option ℕ) (fault : PutFault)
    → PutsOutcome stands faults old new outcome (Err fault)
    → PutsOutcome stands faults old new (with_unanswered outcome unanswered) (Err fault)
stopped stands faults old new outcome unanswered Write puts = (
  prefix_of_more stands old new outcome.text (some_line unanswered_line unanswered) puts.0,
  puts.1,
)
stopped stands faults old new outcome unanswered Memory puts = puts

pub stopped-before : {S : Type 0} (stands : S → List ℕ → Type 0) (faults : S → ℕ) (old new : S)
    (outcome : Outcome) (unanswered : Option ℕ) (fault : PutFault) (result : Result Ending PutFault)
    → IsErrAnd result (λ error. error ≡ fault)
    → PutsOutcome stands faults old new outcome result
    → PutsOutcome stands faults old new (with_unanswered outcome unanswered) result
stopped-before stands faults old new outcome unanswered fault (Ok ending) is puts = absurd is
stopped-before stands faults old new outcome unanswered fault (Err error) is puts =
    stopped stands faults old new outcome unanswered error puts

-- the line behind them was put, or a prefix of it
pub ended : {S : Type 0} (stands : S → List ℕ → Type 0) (faults : S → ℕ) (old mid new : S)
    (outcome : Outcome) (unanswered : Option ℕ) (ending : Ending)
    → ending ≡ ending_of (is_none unanswered && outcome.is_accepted)
    → Takes stands old mid outcome.text
    → Takes stands mid new (some_line unanswered_line unanswered)
    → PutsOutcome stands faults old new (with_unanswered outcome unanswered) (Ok ending)
ended stands faults old mid new outcome unanswered ending is lines line = (
  is,
  takes_both stands old mid new outcome.text (some_line unanswered_line unanswered) lines line,
)

pub end-failed : {S : Type 0} (stands : S → List ℕ → Type 0) (faults : S → ℕ) (old mid new : S)
    (outcome : Outcome) (unanswered : Option ℕ) (result : Result Ending PutFault)
    → IsErrAnd result (λ error. error ≡ Write)
    → Takes stands old mid outcome.text → faults mid ≡ faults old
    → TakesPrefix stands mid new (some_line unanswered_line unanswered)
    → Rose (faults mid) (faults new)
    → PutsOutcome stands faults old new (with_unanswered outcome unanswered) result
end-failed stands faults old mid new outcome unanswered result is lines quiet prefix rose =
    fails stands faults old new (with_unanswered outcome unanswered) result is
    (prefix_after stands old mid new outcome.text (some_line unanswered_line unanswered) lines
    prefix)
    (rw quiet at rose)
