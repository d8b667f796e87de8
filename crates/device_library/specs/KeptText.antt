-- A sink that keeps all bytes that are put.
use Rattle.std.specs.Prelude.{ℕ, List}

-- what it keeps, and how often it had no memory for more
pub record KeptBytes : Type 0 where
  pub held : List ℕ
  pub faults : ℕ
