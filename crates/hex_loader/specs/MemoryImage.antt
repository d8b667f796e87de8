-- The bytes of a memory as an image.
use Rattle.std.specs.Prelude.{◌≡◌, ℕ, List, Option, Some, None, if◌then◌else◌}
use Rattle.part_definitions.specs.Memory.{PowerOn, ShownFlags, MemoryWrite, is_image_place, byte_at}
use Rattle.mem_map.specs.{declared.memory.Memory.Memory, Memory.MemoryStandsFor}

-- a byte for each place of RAM, program and vectors
abbrev pub image_of : PowerOn → ShownFlags → List MemoryWrite → ℕ → Option ℕ
image_of start flags writes place =
    if is_image_place place then Some (byte_at start flags writes place) else None

-- the memory stands for these bytes
pub record MemoryShows (memory : Memory) (image : ℕ → Option ℕ) : Type 0 where
  pub start : PowerOn
  pub flags : ShownFlags
  pub writes : List MemoryWrite
  pub stands : MemoryStandsFor memory start flags writes
  pub shown : image ≡ image_of start flags writes
