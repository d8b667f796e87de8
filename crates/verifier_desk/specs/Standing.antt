-- The states of a desk's devices stand for what each device's lines are.
use Rattle.std.specs.Prelude.{◌≡◌, ◌<◌, ◌++◌, ◌∷◌, ℕ, List, length, slice_index_or, slice_set}
use Rattle.desk_memory.specs.declared.device_state.DeviceState.{DeviceState}
use Rattle.verifier_desk.specs.{DeskLine.{DeskLine, Own, DeviceLine}, DeviceKey.DeviceKey, Replies.{DeskFields, own_line, state_at}}

-- no two devices have one name
abbrev pub AreDistinct : List DeviceKey → Type 0
AreDistinct devices =
    (i j : ℕ) (d : DeviceKey) → i < length devices → j < length devices
    → (slice_index_or devices i d).name ≡ (slice_index_or devices j d).name
    → i ≡ j

-- each state is that of its device, whose lines these are
abbrev pub StatesStand :
    DeskFields → List DeviceState → (List ℕ → List DeviceLine) → Type 0
StatesStand desk states lines =
    (i : ℕ) (d : DeviceKey) (s : DeviceState) → i < length desk.devices
    → slice_index_or states i s
    ≡ state_at desk (slice_index_or desk.devices i d) (lines (slice_index_or desk.devices i d).name)

-- the lines of each device after one more line
abbrev pub with_said : DeskLine → (List ℕ → List DeviceLine) → List ℕ → List DeviceLine
with_said said lines name = own_line name said ++ lines name

-- a line of the device at a place changes the state there alone
abbrev pub IsKeptAtItsPlace : Type 0
IsKeptAtItsPlace =
    (desk : DeskFields) (states : List DeviceState) (lines : List ℕ → List DeviceLine)
    (place : ℕ) (device : DeviceKey) (line : DeviceLine) (state : DeviceState)
    → AreDistinct desk.devices
    → length states ≡ length desk.devices
    → place < length desk.devices
    → ((d : DeviceKey) → slice_index_or desk.devices place d ≡ device)
    → state
    ≡ state_at desk device (line ∷ lines device.name)
    → StatesStand desk states lines
    → StatesStand desk (slice_set states place state) (with_said (Own device line) lines)
