use Rattle.std.proofs.Common.{◌≡◌, ◌<◌, ℕ, [], vec_len, get_or}
use Rattle.part_definitions.specs.Memory.{no_flags, byte_at}
use Rattle.mem_map.specs.Image.{power_on_of}
use Rattle.mem_map.proofs.memory.Memory.new.Given as goal

-- every place so far has the byte of power-on
abbrev pub invariant-loop-place : goal.invariant-loop-place
invariant-loop-place l =
    (vec_len l.bytes ≡ l.place)
    × ((place : ℕ) → place < l.place → get_or l.bytes.items place 0 ≡ byte_at
    (power_on_of l.key l.image) no_flags [] place)
