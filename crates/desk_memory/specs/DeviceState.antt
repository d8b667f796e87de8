-- What a desk knows of a device, and what an answer does to it.
use Rattle.std.specs.{Prelude.{ℕ, ◌==◌, Bool, if◌then◌else◌, nat_lt, Option, Some, None, option_map, unwrap_or}, Option.is_none}
use Rattle.report_verifier.specs.declared.verdict.Verdict.TheVariants.{Accept}
use Rattle.desk_memory.specs.{declared.{answer.Answer.{Answer, TheVariants.{Stale, Requested, Judged}}, device_state.DeviceState.DeviceState}}

-- nothing was asked
abbrev pub new_device : DeviceState
new_device = record { count = 0; outstanding = None; last = None }

-- what was answered before: a smaller number is stale, and the last one has its answer
abbrev pub earlier_answer : ℕ → Option (ℕ × Answer) → Option Answer
earlier_answer number None = None
earlier_answer number (Some last) =
    if nat_lt number last.0 then Some Stale
    else if number == last.0 then Some last.1
    else None

-- all other numbers are new
abbrev pub is_new : ℕ → Option (ℕ × Answer) → Bool
is_new number last = is_none (earlier_answer number last)

abbrev pub by_number : ℕ → Option (ℕ × Answer) → Answer → Answer
by_number number last answer = unwrap_or (earlier_answer number last) answer

-- a request counts and is outstanding, until its report is accepted
abbrev pub count_after : ℕ → Answer → ℕ
count_after count (Requested next) = next
count_after count answer = count

abbrev pub outstanding_after : Option ℕ → Answer → Option ℕ
outstanding_after outstanding (Requested next) = Some next
outstanding_after outstanding (Judged Accept) = None
outstanding_after outstanding answer = outstanding

-- the answer to a new number is kept
abbrev pub with_answer : DeviceState → ℕ → Answer → DeviceState
with_answer state number answer =
    record {
      count = count_after state.count answer;
      outstanding = outstanding_after state.outstanding answer;
      last = Some (number, answer);
    }

-- under another key: the device's count goes on, no request is outstanding, and a line of the last
-- number is stale, as one of a smaller number is
abbrev pub under_new_key : DeviceState → DeviceState
under_new_key state =
    record {
      count = state.count;
      outstanding = None;
      last = option_map (λ (last : ℕ × Answer). (last.0, Stale)) state.last;
    }
