-- A record of Intel HEX: a colon and pairs of digits for count, address, type, data and check.
use Rattle.std.specs.Prelude.{◌≡◌, ◌+◌, ◌*◌, ◌/◌, ◌%◌, ◌==◌, ◌||◌, ℕ, List, [], ◌∷◌, length, take, drop, sum, slice_index, if◌then◌else◌, Result, Ok, Err}
use Rattle.text_scan.specs.{declared.fault_kind.FaultKind.{FaultKind, TheVariants.{NoColon, Count, Check, RecordType}}, Hexadecimal.hex_bytes_of}
use Rattle.hex_loader.specs.declared.hex_record.HexRecord.{HexRecord}
use Rattle.hex_loader.specs.declared.hex_record.HexRecord.TheVariants as variants

-- what a record says: bytes from an address on, the end, a base, or a start address, passed over
pub data Meaning : Type 0 where
  Places : ℕ → List ℕ → Meaning
  EndOfFile : Meaning
  SetsBase : ℕ → Meaning
  Starts : Meaning

-- a number of two bytes, the high one first
abbrev pub big_endian : List ℕ → ℕ
big_endian bytes = slice_index bytes 0 * 256 + slice_index bytes 1

-- the meaning, where the record has as many data bytes as its type wants
abbrev pub with_count : ℕ → List ℕ → Meaning → Result Meaning FaultKind
with_count count bytes meaning = if length bytes == count then Ok meaning else Err Count

abbrev pub record_of_type : ℕ → ℕ → List ℕ → Result Meaning FaultKind
record_of_type kind address bytes =
    if kind == 0 then Ok (Places address bytes)
    else if kind == 1 then with_count 0 bytes EndOfFile
    else if kind == 2 then with_count 2 bytes (SetsBase (big_endian bytes * 16))
    else if (kind == 3) || (kind == 5) then with_count 4 bytes Starts
    else if kind == 4 then with_count 2 bytes (SetsBase (big_endian bytes * 65536))
    else Err RecordType

-- the record of these bytes: count, address, type, as many data bytes as the count says, and check
abbrev pub record_of_bytes : List ℕ → Result Meaning FaultKind
record_of_bytes bytes =
    if length bytes == slice_index bytes 0 + 5
    then (if sum bytes % 256 == 0
    then record_of_type (slice_index bytes 3) (big_endian (drop 1 bytes))
    (take (slice_index bytes 0) (drop 4 bytes))
    else Err Check)
    else Err Count

-- what the bytes are, or why there are none
abbrev pub record_or_fault : Result (List ℕ) FaultKind → Result Meaning FaultKind
record_or_fault (Ok bytes) = record_of_bytes bytes
record_or_fault (Err kind) = Err kind

-- the record of a line: a colon (58), and the digits of its bytes
abbrev pub record_in : List ℕ → Result Meaning FaultKind
record_in [] = Err NoColon
record_in (first ∷ digits) =
    if first == 58 then record_or_fault (hex_bytes_of (length digits / 2) digits) else Err NoColon

-- a record of the program, seen as what it says
abbrev pub meaning : HexRecord → Meaning
meaning (variants.Data address bytes) = Places address bytes.now
meaning variants.End = EndOfFile
meaning (variants.Base base) = SetsBase base
meaning variants.Start = Starts

-- what was read is this record, or this fault
abbrev pub GivesRecord : Result HexRecord FaultKind → Result Meaning FaultKind → Type 0
GivesRecord (Ok entry) answer = answer ≡ Ok (meaning entry)
GivesRecord (Err kind) answer = answer ≡ Err kind
