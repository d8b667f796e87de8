use Rattle.std.{proofs.Common.{◌≡◌, ◌<◌, ℕ, vec_len}, specs.Prelude.slice_index_or}
use Rattle.desk_memory.specs.{declared.device_state.DeviceState.DeviceState, Entry.{last_in, state_under}, KeyMark.key_mark}
use Rattle.sha2.specs.Sha256.{sha256}
use Rattle.verifier_desk.specs.DeviceKey.{DeviceKey}
use Rattle.verifier_desk.proofs.desk.states_in.Given as goal

abbrev pub invariant-loop-place : goal.invariant-loop-place
invariant-loop-place l =
    (vec_len l.states ≡ l.place)
    × ((i : ℕ) (d : DeviceKey) (s : DeviceState) → i < l.place
    → slice_index_or l.states.items i s
    ≡ state_under (key_mark sha256 (slice_index_or l.keys i d).key)
    (last_in l.entries (slice_index_or l.keys i d).name))
