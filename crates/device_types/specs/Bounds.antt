-- The bounds of the executable region ER and the output region OR, and which are valid. (APEX.)
use Rattle.std.specs.Prelude.{◌<◌, ◌+◌, ◌==◌, ◌&&◌, ◌||◌, ◌%◌, ◌^◌, Bool, nat_le, nat_lt}
use Rattle.device_types.specs.{declared.{region.Region.Region, bounds.Bounds.Bounds}, Map.{ram_region, program_region, mac_region, metadata_region, version_one_metadata}, Address.Address}

-- the places are words
pub record AreWords (bounds : Bounds) : Type 0 where
  pub er_min : bounds.er_min < 2 ^ 16
  pub er_max : bounds.er_max < 2 ^ 16
  pub or_min : bounds.or_min < 2 ^ 16
  pub or_max : bounds.or_max < 2 ^ 16

-- ER from its first to its last word, and OR
abbrev pub bounds_with : Address → Address → Address → Address → Bounds
bounds_with er_min er_max or_min or_max =
    record { er_min = er_min; er_max = er_max; or_min = or_min; or_max = or_max }

-- from one word to another, the second byte of the last among them; an end past FFFF wraps
abbrev pub words_region : Address → Address → Region
words_region first last = record { first = first; last = (last + 1) % 2 ^ 16 }

abbrev pub executable_region : Bounds → Region
executable_region bounds = words_region bounds.er_min bounds.er_max

abbrev pub output_region : Bounds → Region
output_region bounds = words_region bounds.or_min bounds.or_max

abbrev pub is_part_of : Region → Region → Bool
is_part_of inner outer = nat_le outer.first inner.first && nat_le inner.last outer.last

abbrev pub is_disjoint : Region → Region → Bool
is_disjoint left right = nat_lt left.last right.first || nat_lt right.last left.first

-- a region in RAM or in the program that has no byte of the MAC and none of these metadata
abbrev pub is_free_region : Region → Region → Bool
is_free_region metadata region =
    (is_part_of region ram_region || is_part_of region program_region)
    && is_disjoint region mac_region
    && is_disjoint region metadata

-- the same without a wrap, as validity sees it
abbrev pub unwrapped_region : Address → Address → Region
unwrapped_region first last = record { first = first; last = last + 1 }

-- two even places in order, of such a region
abbrev pub is_valid_region : Region → Address → Address → Bool
is_valid_region metadata first last =
    (first % 2 == 0) && (last % 2 == 0) && nat_le first last
    && is_free_region metadata (unwrapped_region first last)

-- both regions are valid beside these metadata, and disjoint
abbrev pub are_valid_beside : Region → Bounds → Bool
are_valid_beside metadata bounds =
    is_valid_region metadata bounds.er_min bounds.er_max
    && is_valid_region metadata bounds.or_min bounds.or_max
    && is_disjoint (unwrapped_region bounds.er_min bounds.er_max)
    (unwrapped_region bounds.or_min bounds.or_max)

abbrev pub are_valid : Bounds → Bool
are_valid bounds = are_valid_beside metadata_region bounds

-- as version 1 has it
abbrev pub are_valid_one : Bounds → Bool
are_valid_one bounds = are_valid_beside version_one_metadata bounds
