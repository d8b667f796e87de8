-- What becomes of the lines by which devices move: they are adopted once.
use Rattle.std.specs.Prelude.{◌≡◌, ◌⊎◌, ℕ, false, List, All, Some, None}
use Rattle.desk_memory.specs.{Entry.{Entry, home_of, last_in}, Moving.{with_arrivals, adoption_fault, has_here, has_not_come}}
use Rattle.many_desks.specs.{Act.{Act, AreAllowed, WasMoved, World, world_after}, Law.{SayAlike, StartsAt, entry_of_one}}

-- no desk has a device here
abbrev pub IsAway : World → List ℕ → Type 0
IsAway world name = (desk : List ℕ) → has_here (last_in (world desk) name) ≡ false

-- by lines of which this is the last a device is on its way, and they say what one desk would that
-- had served all of its lines; or it is here by them; or they are refused
abbrev pub AreAdoptedOnce : Type 0
AreAdoptedOnce =
    (start : World) (acts : List Act) (home name desk : List ℕ) (lines : List Entry) (line : Entry)
    → StartsAt start home name → AreAllowed start acts
    → WasMoved start acts name desk lines → last_in lines name ≡ Some line
    → (IsAway (world_after start acts) name
    × SayAlike (Some line) (entry_of_one start acts home name))
    ⊎ ((has_not_come line (last_in (world_after start acts desk) name) ≡ false)
    ⊎ (adoption_fault desk (world_after start acts desk) line ≡ None → ⊥))

-- lines each of which has the home of its device's last
abbrev pub AreAlike : List Entry → Type 0
AreAlike lines = All (λ line. line.home ≡ home_of (last_in lines line.name)) lines

-- the same lines again change nothing
abbrev pub IsAdoptedAgain : Type 0
IsAdoptedAgain =
    (entries lines : List Entry) → AreAlike lines
    → with_arrivals (with_arrivals entries lines) lines ≡ with_arrivals entries lines
