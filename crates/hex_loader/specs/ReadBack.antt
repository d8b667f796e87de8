-- What is written is read again.
use Rattle.std.specs.Prelude.{◌≡◌, ℕ, Option, None}
use Rattle.mem_map.specs.ImagePlace.{IsImage}
use Rattle.hex_loader.specs.{HexImage.{hex_fault, hex_byte}, HexText.hex_text}

-- the text of an image has no fault, and its image is that image
abbrev pub ReadsBack : (ℕ → Option ℕ) → Type 0
ReadsBack image =
    (hex_fault (hex_text image) ≡ None)
    × ((place : ℕ) → hex_byte (hex_text image) place ≡ image place)

abbrev pub IsReadBack : Type 0
IsReadBack = (image : ℕ → Option ℕ) → IsImage image → ReadsBack image
