-- The image of an Intel HEX text, or its first fault. Lists of lines have the newest line first.
use Rattle.std.specs.{Prelude.{◌+◌, ◌&&◌, ◌||◌, ℕ, Bool, true, false, List, [], ◌∷◌, length, reverse, if◌then◌else◌, Option, Some, None, option_map, unwrap_or, Result, Ok, Err, ◌≡◌}, Option.option_or, List.list_any, Str.Lines.lines}
use Rattle.text_scan.specs.{declared.{fault_at.FaultAt.FaultAt, fault_kind.FaultKind.{FaultKind, TheVariants.{AfterEnd, NoEnd, Place}}}, Reader.value_or_fault}
use Rattle.part_definitions.specs.Memory.{is_image_place}
use Rattle.mem_map.specs.Image.{byte_among, byte_in}
use Rattle.hex_loader.specs.{HexRecord.{Meaning, Places, EndOfFile, SetsBase, record_in}, declared.reader.Reader.Reader}

abbrev pub base_of : Result Meaning FaultKind → Option ℕ
base_of (Ok (SetsBase base)) = Some base
base_of _ = None

abbrev pub is_end : Result Meaning FaultKind → Bool
is_end (Ok EndOfFile) = true
is_end _ = false

-- the base is what the last record that sets one says, and 0 at first
abbrev pub base_after : List (List ℕ) → ℕ
base_after [] = 0
base_after (line ∷ earlier) = unwrap_or (base_of (record_in line)) (base_after earlier)

abbrev pub has_ended : List (List ℕ) → Bool
has_ended lines = list_any (λ line. is_end (record_in line)) lines

-- all of these bytes, from the first place upwards, are at places that an image may hold
abbrev pub are_image_places : ℕ → List ℕ → Bool
are_image_places first [] = true
are_image_places first (byte ∷ bytes) = is_image_place first && are_image_places (first + 1) bytes

-- the byte that a record places there, over this base
abbrev pub byte_placed : ℕ → Result Meaning FaultKind → ℕ → Option ℕ
byte_placed base (Ok (Places address bytes)) place = byte_among (base + address) bytes place
byte_placed base _ place = None

-- the byte at a place is the one that was last placed there
abbrev pub last_byte_placed : List (List ℕ) → ℕ → Option ℕ
last_byte_placed [] place = None
last_byte_placed (line ∷ earlier) place =
    option_or (byte_placed (base_after earlier) (record_in line) place)
    (last_byte_placed earlier place)

abbrev pub record_fault : ℕ → Result Meaning FaultKind → Option FaultKind
record_fault base (Ok (Places address bytes)) =
    if are_image_places (base + address) bytes then None else Some Place
record_fault base (Ok _) = None
record_fault base (Err kind) = Some kind

-- the fault of a line after these; an empty line has none
abbrev pub line_fault : List (List ℕ) → List ℕ → Option FaultKind
line_fault earlier [] = None
line_fault earlier (first ∷ rest) =
    if has_ended earlier then Some AfterEnd
    else record_fault (base_after earlier) (record_in (first ∷ rest))

abbrev pub first_fault : List (List ℕ) → Option FaultAt
first_fault [] = None
first_fault (line ∷ earlier) =
    option_or (first_fault earlier)
    (option_map (λ kind. record { line = length earlier + 1; kind = kind })
    (line_fault earlier line))

-- where no line has a fault there has to be an end record
abbrev pub end_fault : List (List ℕ) → Option FaultAt
end_fault lines =
    if has_ended lines then None else Some (record { line = length lines; kind = NoEnd })

abbrev pub hex_fault : List ℕ → Option FaultAt
hex_fault text = option_or (first_fault (reverse (lines text))) (end_fault (reverse (lines text)))

abbrev pub hex_byte : List ℕ → ℕ → Option ℕ
hex_byte text = last_byte_placed (reverse (lines text))

-- the bytes of its image by their places, or its first fault
abbrev pub image_of : List ℕ → Result (ℕ → Option ℕ) FaultAt
image_of text = value_or_fault (hex_fault text) (hex_byte text)

-- What a reader in the midst of a text stands for.

-- the reader has read these lines, newest first
pub record ReaderStandsFor (reader : Reader) (lines : List (List ℕ)) : Type 0 where
  pub bytes : (place : ℕ) → byte_in reader.image place ≡ last_byte_placed lines place
  pub base : reader.base ≡ base_after lines
  pub same_end : reader.has_ended ≡ has_ended lines
