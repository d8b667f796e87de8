-- Replies that a desk holds back.
use Rattle.std.specs.Prelude.{ℕ, Bool, false, List, []}

-- Within a serving, what is held back of the replies to the lines so far, and whether something was
-- noted since the memory has settled.
pub record Withheld : Type 0 where
  pub replies : List ℕ
  pub is_noted : Bool

abbrev pub nothing_withheld : Withheld
nothing_withheld = record { replies = []; is_noted = false }
