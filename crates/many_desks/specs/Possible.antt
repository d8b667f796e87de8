-- What an operator may do: by this each premise of the laws can be met.
use Rattle.std.specs.Prelude.{◌≡◌, ◌⊎◌, ℕ, List, ◌∷◌, Some, None}
use Rattle.desk_memory.specs.{Entry.{Entry, last_in, owner_in}, Moving.{with_departure, moved_lines}}
use Rattle.verifier_desk.specs.{DeviceKey.{DeviceKey, key_named, first_gone}, KeyOwner.KeysStandApart, Replies.mark_at, Run.Run}
use Rattle.many_desks.specs.{Act.{Act, Adopts, AreAllowed, IsAllowed, MayServe, Sends, WasMoved, World, world_after}, Keys.KeysAreSound, Law.StartsAt}

-- A device and its key that a memory does not know are known to no other memory.
pub record IsIntroduced (world : World) (desk name mark : List ℕ) : Type 0 where
  pub device : (other : List ℕ) → (desk ≡ other → ⊥)
      → last_in (world desk) name ≡ None → last_in (world other) name ≡ None
  pub key : (other : List ℕ) → (desk ≡ other → ⊥)
      → owner_in (world desk) mark ≡ None → owner_in (world other) mark ≡ None

-- a desk that is started over its memory may serve whatever lines, where each of its devices is
-- introduced
abbrev pub MayServeAll : Type 0
MayServeAll =
    (world : World) (desk : List ℕ) (run : Run)
    → run.desk.entries ≡ world desk
    → KeysStandApart run.desk.digest run.desk.devices run.desk.entries
    → first_gone run.desk.entries 0 run.desk.devices ≡ None
    → ((device : DeviceKey) → key_named device.name run.desk.devices ≡ Some device.key
    → IsIntroduced world desk device.name (mark_at run.desk device))
    → MayServe world desk run

-- another desk that a device is sent to may adopt its lines at once
abbrev pub MayFollow : Type 0
MayFollow =
    (start : World) (earlier : List Act) (home name source target : List ℕ)
    → StartsAt start home name → KeysAreSound start
    → AreAllowed start (Sends source name target ∷ earlier) → (source ≡ target → ⊥)
    → IsAllowed start (Sends source name target ∷ earlier)
    (Adopts target
    (moved_lines name (with_departure name target (world_after start earlier source))))

-- what a memory prints again of a device that is gone is what it printed when it went, or what it
-- could print at the start
abbrev pub IsPrintedAgain : Type 0
IsPrintedAgain =
    (start : World) (acts : List Act) (name source target : List ℕ) (last : Entry)
    → AreAllowed start acts
    → last_in (world_after start acts source) name ≡ Some last
    → last.home.gone ≡ Some target
    → WasMoved start acts name target (moved_lines name (world_after start acts source))
    ⊎ (moved_lines name (world_after start acts source) ≡ moved_lines name (start source))
