-- What it says that a place lies between two others.
use Rattle.std.{proofs.{Common.{◌≡◌, ◌≤◌, ℕ, true}, lemmas.Bool.{and_from, and_parts, le-leb, leb-true}}, specs.Prelude.{max, min, nat_le}}
use Rattle.debug_session.specs.Going.{lies_between}

pub between-is : (one other at : ℕ) → lies_between one other at ≡ true
    → (min one other ≤ at) × (at ≤ max one other)
between-is one other at is =
    let both = and_parts (nat_le (min one other) at) (nat_le at (max one other)) is in
    (leb-true (min one other) at both.0, leb-true at (max one other) both.1)

pub is-between : (one other at : ℕ) → min one other ≤ at → at ≤ max one other
    → lies_between one other at ≡ true
is-between one other at from to =
    and_from (nat_le (min one other) at) (nat_le at (max one other))
    (le-leb (min one other) at from) (le-leb at (max one other) to)
