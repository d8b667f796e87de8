-- The counters of many desks are those of one.
use Rattle.std.{proofs.Common.{◌≡◌, ◌∙◌, ◌⊎◌, ◌<◌, ℕ, List, [], ◌∷◌, ◌++◌, Option, refl, sym, subst, subst₂, inl, inr}, specs.List.{All, Contains}}
use Rattle.desk_memory.specs.{declared.answer.Answer.Answer, Entry.{Entry, last_in}}
use Rattle.verifier_desk.{specs.{Judged.JudgedLine, Law.{Descends, KeyCounter, count_in, counters_in, judged_lines, line_accept, line_counters, line_request, outstanding_in}}, proofs.AcceptedOnce.report_is_accepted_once as of_one_desk}
use Rattle.many_desks.{specs.{Act.{Act, Adopts, AreAllowed, Sends, Serves, World}, Counters.{NoneIsAcceptedTwice, counters_among}, Law.{SayAlike, StartsAt, entry_of_one, lines_in}}, proofs.{AsOne.run_begins, Through.{counters-append, counters_alike}}}
use Rattle.many_desks.proofs.law.report_is_accepted_once.Goals as goal

-- of a run that has a line of a device, or has none
counters_as_one : (counters : JudgedLine → Answer → List ℕ) (name : List ℕ)
    (one other : Option Entry) (lines : List JudgedLine)
    → (lines ≡ []) ⊎ SayAlike one other
    → line_counters counters name one lines ≡ line_counters counters name other lines
counters_as_one counters name one other lines (inl none) =
    subst (λ (some : List JudgedLine). line_counters counters name one some
    ≡ line_counters counters name other some)
    (sym none) refl
counters_as_one counters name one other lines (inr same) =
    counters_alike counters name one other lines same

all_counters : (counters : JudgedLine → Answer → List ℕ) (start : World) (acts : List Act)
    (home name : List ℕ)
    → StartsAt start home name → AreAllowed start acts
    → counters_among counters acts name
    ≡ line_counters counters name (last_in (start home) name) (lines_in acts name)
all_counters counters start [] home name so allowed = refl
all_counters counters start (Serves desk run ∷ earlier) home name so allowed =
    let lines : List JudgedLine = judged_lines run.desk name run.lines in
    (λ i. counters_as_one counters name (last_in run.desk.entries name)
    (entry_of_one start earlier home name) lines
    (run_begins start earlier home name desk run so allowed) i
    ++ all_counters counters start earlier home name so allowed.1 i)
    ∙ sym (counters-append counters name (last_in (start home) name) lines (lines_in earlier name))
all_counters counters start (Sends source device target ∷ earlier) home name so allowed =
    all_counters counters start earlier home name so allowed.1
all_counters counters start (Adopts desk lines ∷ earlier) home name so allowed =
    all_counters counters start earlier home name so allowed.1

report_is_accepted_once : NoneIsAcceptedTwice
report_is_accepted_once start acts home name so allowed sound =
    let first : Option Entry = last_in (start home) name in
    subst₂ (λ (requests accepts : List KeyCounter).
    Descends (counters_in requests) × Descends (counters_in accepts)
    × All (λ one. count_in first < one.counter) requests
    × All (λ one. Contains (requests ++ outstanding_in first) one) accepts)
    (sym (all_counters line_request start acts home name so allowed))
    (sym (all_counters line_accept start acts home name so allowed))
    (of_one_desk name first (lines_in acts name) sound)

pub returns : goal.returns
returns c = report_is_accepted_once
