-- What stands in an image are bytes.
use Rattle.std.{proofs.Common.{◌≡◌, ◌<◌, ◌+◌, ◌*◌, ◌/◌, ◌%◌, ◌||◌, ◌==◌, ℕ, Bool, true, false, reverse, sum, zero, suc, List, [], ◌∷◌, length, take, drop, slice_index, Option, Some, None, unwrap_or, Result, Ok, Err, refl, arith, if◌then◌else◌, IfSome}, specs.{Option.option_or, Result.result_unwrap_or, Str.Lines.lines}}
use Rattle.hex.specs.Hex.{IsBytes}
use Rattle.text_scan.{specs.{declared.{fault_at.FaultAt.FaultAt, fault_kind.FaultKind.FaultKind}, Hexadecimal.hex_bytes_of, Reader.value_or_fault}, proofs.HexBytes.hex_bytes_of-ok}
use Rattle.mem_map.specs.Image.{byte_among}
use Rattle.hex_loader.specs.{HexImage.{byte_placed, last_byte_placed, base_after, hex_byte, hex_fault, image_of}, HexRecord.{Meaning, Places, EndOfFile, SetsBase, Starts, with_count, record_of_type, record_of_bytes, record_or_fault, record_in, big_endian}}

no_bytes : IsBytes []
no_bytes i = omega arith

IsBytes-take : (count : ℕ) (bytes : List ℕ) → IsBytes bytes → IsBytes (take count bytes)
IsBytes-take zero bytes are i = omega arith
IsBytes-take (suc count) [] are i = omega arith
IsBytes-take (suc count) (byte ∷ bytes) are zero = are zero
IsBytes-take (suc count) (byte ∷ bytes) are (suc i) =
    IsBytes-take count bytes (λ j. are (suc j)) i

IsBytes-drop : (count : ℕ) (bytes : List ℕ) → IsBytes bytes → IsBytes (drop count bytes)
IsBytes-drop zero bytes are i = are i
IsBytes-drop (suc count) [] are i = omega arith
IsBytes-drop (suc count) (byte ∷ bytes) are i = IsBytes-drop count bytes (λ j. are (suc j)) i

-- the bytes that a record places
abbrev bytes_placed : Result Meaning FaultKind → List ℕ
bytes_placed (Ok (Places address bytes)) = bytes
bytes_placed _ = []

abbrev PlacesBytes : Result Meaning FaultKind → Type 0
PlacesBytes answer = IsBytes (bytes_placed answer)

either : (first : Bool) (left right : Result Meaning FaultKind)
    → PlacesBytes left → PlacesBytes right → PlacesBytes (if first then left else right)
either true left right is_left is_right = is_left
either false left right is_left is_right = is_right

of_type : (kind address : ℕ) (bytes : List ℕ) → IsBytes bytes
    → PlacesBytes (record_of_type kind address bytes)
of_type kind address bytes are =
    either (kind == 0) (Ok (Places address bytes)) _ are
    (either (kind == 1) (with_count 0 bytes EndOfFile) _
    (either (length bytes == 0) (Ok EndOfFile) _ no_bytes no_bytes)
    (either (kind == 2) (with_count 2 bytes (SetsBase (big_endian bytes * 16))) _
    (either (length bytes == 2) (Ok (SetsBase (big_endian bytes * 16))) _ no_bytes no_bytes)
    (either ((kind == 3) || (kind == 5)) (with_count 4 bytes Starts) _
    (either (length bytes == 4) (Ok Starts) _ no_bytes no_bytes)
    (either (kind == 4) (with_count 2 bytes (SetsBase (big_endian bytes * 65536))) _
    (either (length bytes == 2) (Ok (SetsBase (big_endian bytes * 65536))) _ no_bytes no_bytes)
    no_bytes))))

of_bytes : (bytes : List ℕ) → IsBytes bytes → PlacesBytes (record_of_bytes bytes)
of_bytes bytes are =
    either (length bytes == slice_index bytes 0 + 5) _ _
    (either (sum bytes % 256 == 0) _ _
    (of_type (slice_index bytes 3) (big_endian (drop 1 bytes)) _
    (IsBytes-take (slice_index bytes 0) (drop 4 bytes) (IsBytes-drop 4 bytes are)))
    no_bytes)
    no_bytes

of_digits : (answer : Result (List ℕ) FaultKind)
    → ((bytes : List ℕ) → answer ≡ Ok bytes → IsBytes bytes)
    → PlacesBytes (record_or_fault answer)
of_digits (Ok bytes) are = of_bytes bytes (are bytes refl)
of_digits (Err fault) are = no_bytes

of_line : (line : List ℕ) → PlacesBytes (record_in line)
of_line [] = no_bytes
of_line (first ∷ digits) =
    either (first == 58) _ _
    (of_digits (hex_bytes_of (length digits / 2) digits)
    (λ bytes is. (hex_bytes_of-ok (length digits / 2) digits bytes is).1))
    no_bytes

-- a byte, if there is one
abbrev IsByte : Option ℕ → Type 0
IsByte one = IfSome one (λ byte. byte < 256)

IsByte-if : (first : Bool) (byte : ℕ) (other : Option ℕ) → byte < 256 → IsByte other
    → IsByte (if first then Some byte else other)
IsByte-if true byte other is_byte is_other = is_byte
IsByte-if false byte other is_byte is_other = is_other

IsByte-or : (one other : Option ℕ) → IsByte one → IsByte other → IsByte (option_or one other)
IsByte-or (Some byte) other is_one is_other = is_one
IsByte-or None other is_one is_other = is_other

byte_among-byte : (first : ℕ) (bytes : List ℕ) (place : ℕ) → IsBytes bytes
    → IsByte (byte_among first bytes place)
byte_among-byte first [] place are = tt
byte_among-byte first (byte ∷ bytes) place are =
    IsByte-if (place == first) byte (byte_among (first + 1) bytes place) (are 0)
    (byte_among-byte (first + 1) bytes place (λ i. are (suc i)))

byte_placed-byte : (base : ℕ) (answer : Result Meaning FaultKind) (place : ℕ) → PlacesBytes answer
    → IsByte (byte_placed base answer place)
byte_placed-byte base (Ok (Places address bytes)) place are =
    byte_among-byte (base + address) bytes place are
byte_placed-byte base (Ok EndOfFile) place are = tt
byte_placed-byte base (Ok (SetsBase number)) place are = tt
byte_placed-byte base (Ok Starts) place are = tt
byte_placed-byte base (Err fault) place are = tt

last_byte_placed-byte : (lines : List (List ℕ)) (place : ℕ) → IsByte (last_byte_placed lines place)
last_byte_placed-byte [] place = tt
last_byte_placed-byte (line ∷ earlier) place =
    IsByte-or (byte_placed (base_after earlier) (record_in line) place)
    (last_byte_placed earlier place)
    (byte_placed-byte (base_after earlier) (record_in line) place (of_line line))
    (last_byte_placed-byte earlier place)

unwrap_or-byte : (one : Option ℕ) → IsByte one → unwrap_or one 0 < 256
unwrap_or-byte (Some byte) is_byte = is_byte
unwrap_or-byte None is_byte = omega arith

read_or_empty : (fault : Option FaultAt) (bytes : ℕ → Option ℕ) (place : ℕ)
    → ((at : ℕ) → IsByte (bytes at))
    → unwrap_or (result_unwrap_or (value_or_fault fault bytes) (λ at. None) place) 0 < 256
read_or_empty None bytes place are = unwrap_or-byte (bytes place) (are place)
read_or_empty (Some fault) bytes place are = omega arith

-- of an image that was read, and of the empty one in the place of a fault
pub image_of-bytes : (text : List ℕ) (place : ℕ)
    → unwrap_or (result_unwrap_or (image_of text) (λ at. None) place) 0 < 256
image_of-bytes text place =
    read_or_empty (hex_fault text) (hex_byte text) place
    (last_byte_placed-byte (reverse (lines text)))
