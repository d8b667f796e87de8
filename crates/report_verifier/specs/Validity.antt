-- Which metadata a version has, and which bounds are valid beside them.
use Rattle.std.specs.Prelude.{◌+◌, ◌-◌, ℕ, Bool}
use Rattle.device_types.specs.{declared.{bounds.Bounds.Bounds, region.Region.Region, version.Version.{Version, TheVariants.{One, Two}}}, Bounds.are_valid_beside, Map.{metadata_region, version_one_metadata}}

-- where they lie
abbrev pub metadata_of : Version → Region
metadata_of One = version_one_metadata
metadata_of Two = metadata_region

-- how many bytes they are
abbrev pub metadata_len : Version → ℕ
metadata_len version = (metadata_of version).last + 1 - (metadata_of version).first

abbrev pub are_valid_for : Version → Bounds → Bool
are_valid_for version bounds = are_valid_beside (metadata_of version) bounds
