-- The Intel HEX text of an image, which is given as a function from places to bytes.
use Rattle.std.specs.Prelude.{◌+◌, ◌-◌, ◌/◌, ◌%◌, ◌==◌, ◌&&◌, ◌||◌, ℕ, zero, suc, Bool, List, [], ◌∷◌, ◌++◌, length, sum, codes, if◌then◌else◌, Option, Some, None, is_some, is_none}
use Rattle.hex.specs.Hex.{encode_upper}

-- the byte that makes the sum of a record 0 modulo 256
abbrev pub check_of : List ℕ → ℕ
check_of bytes = (256 - sum bytes % 256) % 256

-- count, address, type 00 and data of a record
abbrev pub data_record : ℕ → List ℕ → List ℕ
data_record address bytes = length bytes ∷ address / 256 ∷ address % 256 ∷ 0 ∷ bytes

-- the line of a record, ended by LF
abbrev pub data_line : ℕ → List ℕ → List ℕ
data_line address bytes =
    let bytes_before = data_record address bytes in
    codes ":" ++ encode_upper (bytes_before ++ check_of bytes_before ∷ []) ++ 10 ∷ []

-- a record begins at a byte that has no byte before it, and at each multiple of 16
abbrev pub is_record_start : (ℕ → Option ℕ) → ℕ → Bool
is_record_start image place =
    is_some (image place) && ((place % 16 == 0) || is_none (image (place - 1)))

abbrev pub run_after : Option ℕ → List ℕ → List ℕ
run_after (Some byte) bytes = byte ∷ bytes
run_after None bytes = []

-- the bytes from a place on that follow each other, at most so many
abbrev pub byte_run : (ℕ → Option ℕ) → ℕ → ℕ → List ℕ
byte_run image place zero = []
byte_run image place (suc most) = run_after (image place) (byte_run image (place + 1) most)

-- a record goes on to the last consecutive byte before the next multiple of 16
abbrev pub record_bytes : (ℕ → Option ℕ) → ℕ → List ℕ
record_bytes image place = byte_run image place (16 - place % 16)

-- the line of the record that begins at a place, where one does
abbrev pub line_at : (ℕ → Option ℕ) → ℕ → List ℕ
line_at image place =
    if is_record_start image place then data_line place (record_bytes image place) else []

-- the lines of the records that begin below a place, in ascending order
unfoldable pub lines_below : (ℕ → Option ℕ) → ℕ → List ℕ
lines_below image zero = []
lines_below image (suc place) = lines_below image place ++ line_at image place

-- the end record, and LF
abbrev pub end_line : List ℕ
end_line = codes ":00000001FF" ++ 10 ∷ []

-- the text of an image
abbrev pub hex_text : (ℕ → Option ℕ) → List ℕ
hex_text image = lines_below image 65536 ++ end_line
