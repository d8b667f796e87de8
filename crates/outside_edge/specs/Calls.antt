-- Calls that are counted, some of which are to fail.
use Rattle.std.specs.Prelude.{ℕ, List, ◌≡◌, ◌<◌, ◌+◌, ◌-◌, ◌^◌, ◌⊎◌, min}

-- Counts of calls, faults and misses: 64-bit numbers that stand still at their end.

-- a count rose: it is greater than before, or stands at its end
abbrev pub Rose : ℕ → ℕ → Type 0
Rose before after = (before < after) ⊎ (after ≡ 2 ^ 64 - 1)

-- the count after one more
abbrev pub one_more : ℕ → ℕ
one_more count = min (count + 1) (2 ^ 64 - 1)

-- Which calls are to fail, counted from 1, and how many calls and faults there were.
pub record CallCounts : Type 0 where
  pub failing : List ℕ
  pub calls : ℕ
  pub faults : ℕ

-- the counts with one more call
abbrev pub with_call : CallCounts → CallCounts
with_call counts = record counts { calls = one_more counts.calls }

-- the counts with one more fault
abbrev pub with_fault : CallCounts → CallCounts
with_fault counts = record counts { faults = one_more counts.faults }
