-- Bounds that are valid are even and in order.
use Rattle.std.proofs.Common.{◌≡◌, ◌≤◌, ◌%◌, true}
use Rattle.device_types.{specs.{declared.bounds.Bounds.Bounds, Bounds.are_valid, Map.metadata_region}, proofs.ValidRange.are_valid-ranges}

pub executable_ordered :
    (bounds : Bounds) → are_valid bounds ≡ true → bounds.er_min ≤ bounds.er_max
executable_ordered bounds valid = (are_valid-ranges metadata_region bounds valid).executable.ordered

pub output_ordered : (bounds : Bounds) → are_valid bounds ≡ true → bounds.or_min ≤ bounds.or_max
output_ordered bounds valid = (are_valid-ranges metadata_region bounds valid).output.ordered

pub output_even : (bounds : Bounds) → are_valid bounds ≡ true → bounds.or_min % 2 ≡ 0
output_even bounds valid = (are_valid-ranges metadata_region bounds valid).output.first_even

pub ruleset valid_bounds = (executable_ordered, output_ordered, output_even)
