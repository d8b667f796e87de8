-- An image as a finite map.
use Rattle.std.specs.Prelude.{ℕ, Option, None, List, slice_index, slice_index_or, unwrap_or, ◌+◌, ◌==◌, [], ◌∷◌, if◌then◌else◌, Some}
use Rattle.part_definitions.specs.Memory.{PowerOn}
use Rattle.mem_map.specs.declared.image.Image.{Image}

-- the byte at a place, or nothing
abbrev pub byte_in : Image → ℕ → Option ℕ
byte_in image place = slice_index_or image.bytes.items place None

-- what a device is powered on with: the byte at a place, 0 where an image has none
abbrev pub image_byte : (ℕ → Option ℕ) → ℕ → ℕ
image_byte image place = unwrap_or (image place) 0

-- powered on with a key and an image
abbrev pub power_on_with : List ℕ → (ℕ → Option ℕ) → PowerOn
power_on_with key image = record { key = λ i. slice_index key i; image = image_byte image }

abbrev pub power_on_of : List ℕ → Image → PowerOn
power_on_of key image = power_on_with key (byte_in image)

-- Bytes that are placed one after the other.

-- which of these bytes, from the first place upwards, is at a place
abbrev pub byte_among : ℕ → List ℕ → ℕ → Option ℕ
byte_among first [] place = None
byte_among first (byte ∷ bytes) place =
    if place == first then Some byte else byte_among (first + 1) bytes place
