-- What a digest computes, and what a running one has taken.
use Rattle.std.specs.Prelude.{ℕ, List}

pub record Hash (D : Type 0) : Type 1 where
  -- the digest of a list of bytes
  pub digest_of : List ℕ → List ℕ
  -- the lists of bytes that the value stands for having taken
  pub has_taken : D → List ℕ → Type 0
