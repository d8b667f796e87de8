-- The first place behind another where there is a cause to stop, and the last one before.
use Rattle.std.specs.Prelude.{◌≡◌, ◌<◌, ◌≤◌, ◌⊎◌, ◌+◌, ℕ, Option, Some, None}
use Rattle.debug_session.specs.{Going.Standing, declared.stop.Stop.{Stop, TheVariants.{Begin, End}}}

-- a place between two others that has a cause, which is told
pub record HasStopped (cause : ℕ → Option Stop) (first last : ℕ) (now : Standing) : Type 0 where
  pub from : first ≤ now.place
  pub to : now.place ≤ last
  pub why : cause now.place ≡ Some now.stop

-- one who goes on from a place stops here, or at the last of all, and nothing between has a cause
pub record IsFirstStop (cause : ℕ → Option Stop) (place last : ℕ) (now : Standing) : Type 0 where
  pub none_between : (at : ℕ) → place < at → at < now.place → cause at ≡ None
  pub stands : HasStopped cause (place + 1) last now
      ⊎ ((now ≡ record { place = last; stop = End }) × (place < last → cause last ≡ None))

-- one who goes back from a place stops here, or at place 1, and nothing between has a cause
pub record IsLastStop (cause : ℕ → Option Stop) (place : ℕ) (now : Standing) : Type 0 where
  pub none_between : (at : ℕ) → now.place < at → at < place → cause at ≡ None
  pub stands : ((now.place < place) × HasStopped cause 1 place now)
      ⊎ ((now ≡ record { place = 1; stop = Begin }) × (1 < place → cause 1 ≡ None))
