-- A buffer in front of a sink: what was put into it goes to the sink in pieces.
use Rattle.std.specs.Prelude.{◌≡◌, ℕ, List, ◌∷◌, ◌++◌, length}

-- A buffer as its callers see it: the sink behind it, and the bytes that wait.
pub record Buffer (W : Type 0) : Type 0 where
  pub sink : W
  pub waiting : List ℕ

-- The list says how many bytes the sink had taken before the buffer, which these were, and then
-- the bytes that were put into the buffer: the sink took some of them, and the others wait.
pub record BufferStandsFor {W : Type 0} (stands : W → List ℕ → Type 0) (buffer : Buffer W)
    (list : List ℕ) : Type 0 where
  pub earlier : List ℕ
  pub taken : List ℕ
  pub told : list ≡ length earlier ∷ (earlier ++ (taken ++ buffer.waiting))
  pub stood : stands buffer.sink (earlier ++ taken)
