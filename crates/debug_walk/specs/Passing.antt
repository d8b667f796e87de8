-- Steps in a row in which there is nothing to stop for.
use Rattle.std.specs.Prelude.{◌≡◌, ◌≤◌, ◌<◌, ◌-◌, ◌&&◌, ◌⊎◌, ℕ, suc, Bool, true, false, Option, Some, None, [], length, not}
use Rattle.device_types.specs.{declared.{access.Access.{Access, TheVariants.Fetch}, kind.Kind.TheVariants.Idle}}
use Rattle.debug_session.specs.{Cause.{behind, hits, is_plain}, Place.{Run, sight_at, view_of}, Stops.{Stops, has_breakpoint}, Watched.is_hit}
use Rattle.device_core.specs.Quiet.{Question}

-- an access at no breakpoint, which hits no watch
abbrev pub is_unasked : Stops → Access → Bool
is_unasked stops (Fetch place) = not (has_breakpoint stops place)
is_unasked stops access = not (is_hit stops.watches access)

-- no access, or such a one; where each instruction counts, none
abbrev pub is_passed : Stops → Bool → Option Access → Bool
is_passed stops asleep None = true
is_passed stops asleep (Some access) = not asleep && is_unasked stops access

-- whether a row goes over a step with these accesses of processor or ROM and of the DMA
abbrev pub goes_over : Stops → Bool → Question
goes_over stops asleep cpu dma = is_passed stops asleep cpu && is_passed stops asleep dma

-- a step that nobody is told of
pub record IsSilent (run : Run) (place : ℕ) : Type 0 where
  pub unrefused : (sight_at run place).next.refused ≡ None
  pub lines : (sight_at run place).next.lines ≡ []

-- from one place to before another
abbrev pub AreSilent : Run → ℕ → ℕ → Type 0
AreSilent run from to = (place : ℕ) → from ≤ place → place < to → IsSilent run place

-- the processor sleeps from this boundary to the next, and stays as it is
pub record Sleeps (run : Run) (place : ℕ) : Type 0 where
  pub from : (sight_at run place).boundary ≡ true
  pub idle : (sight_at run place).next.kind ≡ Idle
  pub to : (sight_at run (suc place)).boundary ≡ true
  pub same : (sight_at run (suc place)).registers ≡ (sight_at run place).registers

-- nothing was hit up to a place, there is no breakpoint and the number of steps is not reached;
-- where each instruction counts, the processor slept up to it
pub record IsPassed (stops : Stops) (asleep : Bool) (run : Run) (place : ℕ) : Type 0 where
  pub met : hits stops.watches (behind (view_of run) place) ≡ []
  pub plain : ((sight_at run place).boundary
      && is_plain stops (sight_at run place) (place - length (behind (view_of run) place)) place)
      ≡ false
  pub slept : asleep ≡ true → (before : ℕ) → place ≡ suc before → Sleeps run before

-- all places behind one and before another
abbrev pub ArePassed : Stops → Bool → Run → ℕ → ℕ → Type 0
ArePassed stops asleep run from to =
    (place : ℕ) → from < place → place < to → IsPassed stops asleep run place

-- a row from a place on that ends here does not go past a number of steps
abbrev pub IsCapped : Option ℕ → ℕ → ℕ → Type 0
IsCapped None place end = Unit {0}
IsCapped (Some number) place end = (number ≤ place) ⊎ (end ≤ number)
