-- Which counters many desks request and accept.
use Rattle.std.specs.Prelude.{◌<◌, ◌++◌, ℕ, List, [], ◌∷◌, All, Contains}
use Rattle.desk_memory.specs.{declared.answer.Answer.Answer, Entry.last_in}
use Rattle.verifier_desk.specs.{Judged.JudgedLine, Law.{Descends, KeyCounter, StartsSound, count_in, counters_in, judged_lines, line_accept, line_counters, line_request, outstanding_in}}
use Rattle.many_desks.specs.{Act.{Act, AreAllowed, Serves, World}, Law.StartsAt}

-- such counters of the lines of the device of a name at all desks, each by the entries that it had
abbrev pub act_counters : (JudgedLine → Answer → List ℕ) → Act → List ℕ → List KeyCounter
act_counters counters (Serves desk run) name =
    line_counters counters name (last_in run.desk.entries name)
    (judged_lines run.desk name run.lines)
act_counters counters act name = []

abbrev pub counters_among : (JudgedLine → Answer → List ℕ) → List Act → List ℕ → List KeyCounter
counters_among counters [] name = []
counters_among counters (act ∷ earlier) name =
    act_counters counters act name ++ counters_among counters earlier name

-- those that were requested, and those that were accepted
abbrev pub requested_in : List Act → List ℕ → List KeyCounter
requested_in acts name = counters_among line_request acts name

abbrev pub accepted_in : List Act → List ℕ → List KeyCounter
accepted_in acts name = counters_among line_accept acts name

-- no counter is requested twice or accepted twice, none is requested that the start has counted,
-- and what is accepted was requested under the key that it is accepted under, or was outstanding so
-- at the start
abbrev pub NoneIsAcceptedTwice : Type 0
NoneIsAcceptedTwice =
    (start : World) (acts : List Act) (home name : List ℕ)
    → StartsAt start home name → AreAllowed start acts → StartsSound (last_in (start home) name)
    → Descends (counters_in (requested_in acts name))
    × Descends (counters_in (accepted_in acts name))
    × All (λ one. count_in (last_in (start home) name) < one.counter) (requested_in acts name)
    × All (λ one. Contains
    (requested_in acts name ++ outstanding_in (last_in (start home) name)) one)
    (accepted_in acts name)
