-- What a memory stands for.
use Rattle.std.specs.Prelude.{◌≡◌, ◌<◌, ◌^◌, ℕ, List, slice_index}
use Rattle.part_definitions.specs.Memory.{PowerOn, ShownFlags, MemoryWrite, byte_at}
use Rattle.mem_map.specs.declared.memory.Memory.{Memory}

-- the memory stands for what it was powered on with, the flags that it shows, and the writes since
pub record MemoryStandsFor
    (memory : Memory) (start : PowerOn) (flags : ShownFlags)
    (writes : List MemoryWrite) : Type 0 where
  pub bytes : (place : ℕ) → place < 2 ^ 16
      → slice_index memory.bytes.items place ≡ byte_at start flags writes place

-- what stood for some writes stands for them with these in front
abbrev pub Writes : Memory → (List MemoryWrite → List MemoryWrite) → Memory → Type 0
Writes old with new =
    (start : PowerOn) (flags : ShownFlags) (writes : List MemoryWrite)
    → MemoryStandsFor old start flags writes → MemoryStandsFor new start flags (with writes)

-- the answer is what this function says of the bytes of all places
abbrev pub Tells : {Answer : Type 0} → Memory → ((ℕ → ℕ) → Answer) → Answer → Type 0
Tells memory meaning answer =
    (start : PowerOn) (flags : ShownFlags) (writes : List MemoryWrite)
    → MemoryStandsFor memory start flags writes → answer ≡ meaning (byte_at start flags writes)
