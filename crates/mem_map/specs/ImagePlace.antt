-- Which maps from places to bytes are images.
use Rattle.std.specs.Prelude.{◌≡◌, ◌<◌, ℕ, Option, Some, IsTrue}
use Rattle.part_definitions.specs.Memory.{is_image_place}

-- bytes, each at a place that an image may hold
abbrev pub IsImage : (ℕ → Option ℕ) → Type 0
IsImage image =
    (place byte : ℕ) → image place ≡ Some byte → IsTrue (is_image_place place) × (byte < 256)
