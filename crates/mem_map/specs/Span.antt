-- Ranges of memory that can be lent.
use Rattle.std.specs.Prelude.{◌&&◌, ◌||◌, ℕ, Bool, nat_le}
use Rattle.device_types.specs.Map.{lies_in, ram_region}
use Rattle.part_definitions.specs.Memory.{is_program}

-- the bytes from one place to another lie wholly in RAM, or wholly in program and vectors
abbrev pub is_span : ℕ → ℕ → Bool
is_span first last =
    nat_le first last
    && ((lies_in ram_region first && lies_in ram_region last)
    || (is_program first && is_program last))
