-- Counts of faults that rose.
use Rattle.std.proofs.Common.{◌≤◌, ℕ, inl, inr, arith}
use Rattle.outside_edge.specs.Calls.{Rose}

-- what rose since a later moment rose since an earlier one
pub rose_since : (first middle last : ℕ) → first ≤ middle → Rose middle last → Rose first last
rose_since first middle last rises (inl more) = inl (omega (arith, rises, more))
rose_since first middle last rises (inr most) = inr most

-- what counts nothing never rises
pub never_rises : Rose 0 0 → ⊥
never_rises (inl more) = omega (arith, more)
never_rises (inr most) = omega (arith, most)
