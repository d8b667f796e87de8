-- What has no word: the faults of an instruction, in the order in which they are tried.
use Rattle.std.specs.Prelude.{◌&&◌, Bool, false, not, if◌then◌else◌, Option, Some, None}
use Rattle.msp_decode.specs.{declared.{head.Head.{Head, TheVariants.{Two, One, Reti, Jump}}, encode_fault.EncodeFault.{EncodeFault, TheVariants.{NoByteForm, NotWritable, NoSuchForm, OffsetRange}}}, Spelling.{has_size, has_form, has_range, takes_result, writes_operand}}

-- SWPB, SXT or CALL of a byte
abbrev pub lacks_byte_form : Head → Bool
lacks_byte_form (Two op size source dest) = false
lacks_byte_form (One op size source) = not (has_size op size)
lacks_byte_form Reti = false
lacks_byte_form (Jump cond offset) = false

-- RRC, SWPB, RRA or SXT of an immediate or a constant
abbrev pub writes_to_value : Head → Bool
writes_to_value (Two op size source dest) = false
writes_to_value (One op size source) = writes_operand op && not (takes_result source)
writes_to_value Reti = false
writes_to_value (Jump cond offset) = false

-- a source that is written in no mode: R3, or R2 or R0 where the mode means a constant or an
-- immediate
abbrev pub lacks_source_form : Head → Bool
lacks_source_form (Two op size source dest) = not (has_form source)
lacks_source_form (One op size source) = not (has_form source)
lacks_source_form Reti = false
lacks_source_form (Jump cond offset) = false

-- a jump outside -512 to 511
abbrev pub lacks_range : Head → Bool
lacks_range (Two op size source dest) = false
lacks_range (One op size source) = false
lacks_range Reti = false
lacks_range (Jump cond offset) = not (has_range offset)

-- the first fault
abbrev pub first_fault : Head → Option EncodeFault
first_fault head =
    if lacks_byte_form head then Some NoByteForm
    else if writes_to_value head then Some NotWritable
    else if lacks_source_form head then Some NoSuchForm
    else if lacks_range head then Some OffsetRange
    else None
