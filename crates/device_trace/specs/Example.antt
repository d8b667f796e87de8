-- Images and plays that the definitions are tried against.
use Rattle.std.specs.Prelude.{◌&&◌, ◌++◌, ◌+◌, ◌-◌, ◌*◌, ℕ, zero, suc, List, [], ◌∷◌, length, map, if◌then◌else◌, nat_le, nat_lt, slice_index}
use Rattle.word_arith.specs.Number.{Word16}
use Rattle.device_types.specs.{declared.event.Event.{Event, TheVariants.Rx}, Map.COUNTER, ExecFlag.no_flag, Address.{Contents, Bytes, Address}}
use Rattle.part_definitions.specs.Attestation.{bytes_of_words}
use Rattle.device_trace.specs.{Start.{Start, with_key}, Trace.Play}

-- numbers from one upwards, so many
abbrev pub upwards : ℕ → ℕ → Bytes
upwards first zero = []
upwards first (suc count) = first ∷ upwards (first + 1) count

-- a digest that can be computed here: always the bytes 01 to 20
abbrev pub counting_digest : Bytes → Bytes
counting_digest bytes = upwards 1 32

-- a device with the key 00 to 3F and no second flag
abbrev pub start_with : Contents → Start
start_with image = with_key no_flag counting_digest (upwards 0 64) image

-- an image of words, from a place upwards each; 0 elsewhere
abbrev pub image_of : List (Address × List Word16) → Contents
image_of [] place = 0
image_of (part ∷ parts) place =
    if nat_le part.0 place && nat_lt place (part.0 + 2 * length part.1)
    then slice_index (bytes_of_words part.1) (place - part.0)
    else image_of parts place

abbrev pub no_image : Contents
no_image place = 0

-- so many steps with no event, after a play
abbrev pub quiet_steps : ℕ → Play → Play
quiet_steps zero play = play
quiet_steps (suc steps) play = [] ∷ quiet_steps steps play

-- an event in one step, after a play
abbrev pub event_after : Event → Play → Play
event_after event play = (event ∷ []) ∷ play

-- bytes that arrive in one step
abbrev pub arrivals : Bytes → List Event
arrivals bytes = map (λ byte. Rx byte) bytes

-- a program at C000, where the reset vector points, and further words
abbrev pub program_of : List Word16 → List (Address × List Word16) → Contents
program_of words parts = image_of ((0xC000, words) ∷ (0xFFFE, 0xC000 ∷ []) ∷ parts)

-- the four bounds as words of the metadata
abbrev pub bounds_part : List Word16 → Address × List Word16
bounds_part words = (0x0260, words)

-- the words of the bytes 01 to 20
abbrev pub counting_words : List Word16
counting_words =
    0x0201 ∷ 0x0403 ∷ 0x0605 ∷ 0x0807 ∷ 0x0A09 ∷ 0x0C0B ∷ 0x0E0D ∷ 0x100F ∷
    0x1211 ∷ 0x1413 ∷ 0x1615 ∷ 0x1817 ∷ 0x1A19 ∷ 0x1C1B ∷ 0x1E1D ∷ 0x201F ∷ []

-- a request with this counter and the right token, as words of the metadata
abbrev pub request_part : ℕ → Address × List Word16
request_part count = (COUNTER, count ∷ 0 ∷ counting_words)

-- ER from C020 to C022, OR of one word at 0300
abbrev pub two_word_bounds : List Word16
two_word_bounds = 0xC020 ∷ 0xC022 ∷ 0x0300 ∷ 0x0300 ∷ []

-- NOP; RET
abbrev pub two_word_region : List Word16
two_word_region = 0x4303 ∷ 0x4130 ∷ []

-- MOV #0041,&0076 and a jump to itself
abbrev pub letter_a : Contents
letter_a = program_of (0x40B2 ∷ 0x0041 ∷ 0x0076 ∷ 0x3FFF ∷ []) []

-- MOV &6A00,R5
abbrev pub key_reader : Contents
key_reader = program_of (0x4215 ∷ 0x6A00 ∷ 0x3FFF ∷ []) []

-- BR #6A00
abbrev pub key_runner : Contents
key_runner = program_of (0x4030 ∷ 0x6A00 ∷ []) []

-- MOV #2200,SP; DINT; CALL #A000; a jump to itself; bounds C000 to C00A and 0300; with these parts
-- of a request
abbrev pub attestation_of : List (Address × List Word16) → Contents
attestation_of request =
    program_of (0x4031 ∷ 0x2200 ∷ 0xC232 ∷ 0x12B0 ∷ 0xA000 ∷ 0x3FFF ∷ [])
    (bounds_part (0xC000 ∷ 0xC00A ∷ 0x0300 ∷ 0x0300 ∷ []) ∷ request)

abbrev pub attestation : Contents
attestation = attestation_of (request_part 1 ∷ [])

-- MOV #6A00,SP; BR #A000
abbrev pub return_through_key : Contents
return_through_key = program_of (0x4031 ∷ 0x6A00 ∷ 0x4030 ∷ 0xA000 ∷ []) []

-- MOV #2200,SP; PUSH #A002; BR #A000
abbrev pub return_into_rom : Contents
return_into_rom =
    program_of (0x4031 ∷ 0x2200 ∷ 0x1230 ∷ 0xA002 ∷ 0x4030 ∷ 0xA000 ∷ []) []

-- MOV #2200,SP; MOV #50,&TCMP; MOV #3,&TCTL; EINT; CALL #A000
abbrev pub interrupted_call : Contents
interrupted_call =
    program_of
    (0x4031 ∷ 0x2200 ∷ 0x40B2 ∷ 0x0050 ∷ 0x0164 ∷ 0x40B2 ∷ 0x0003 ∷ 0x0160 ∷ 0xD232 ∷ 0x12B0 ∷
    0xA000 ∷ 0x3FFF ∷ [])
    []

-- receives the metadata, calls the region at C040, which copies the pins to 0300, and attests
abbrev pub ordinary_run : Contents
ordinary_run =
    program_of
    (0x4031 ∷ 0x2200 ∷ 0xC232 ∷ 0x4035 ∷ 0x0240 ∷ 0xB392 ∷ 0x0072 ∷ 0x27FD ∷ 0x42D5 ∷ 0x0074 ∷
    0x0000 ∷ 0x5315 ∷ 0x9035 ∷ 0x0290 ∷ 0x23F6 ∷ 0x12B0 ∷ 0xC040 ∷ 0x12B0 ∷ 0xA000 ∷ 0x3FFF ∷ [])
    ((0xC040, 0x4292 ∷ 0x0020 ∷ 0x0300 ∷ 0x4130 ∷ []) ∷ [])

-- the metadata of a request for it: the challenge 00 to 1F, the bounds, the flags, the counter 1,
-- and the right token
abbrev pub ordinary_request : List Word16
ordinary_request =
    upwards 0 32
    ++ bytes_of_words (0xC040 ∷ 0xC046 ∷ 0x0300 ∷ 0x0300 ∷ 0 ∷ 0 ∷ 1 ∷ 0 ∷ counting_words)

-- MOV #2200,SP; MOV #1,&SCTL; EINT; CALL #C020; CALL #A000: enables the serial interrupt, calls the
-- region at C020 and attests on a request; the handler at C030 reads the byte; with these bounds
-- and this region
abbrev pub guarded_program : List Word16 → List Word16 → Contents
guarded_program bounds region =
    program_of
    (0x4031 ∷ 0x2200 ∷ 0x4392 ∷ 0x0070 ∷ 0xD232 ∷ 0x12B0 ∷ 0xC020 ∷ 0x12B0 ∷ 0xA000 ∷ 0x3FFF ∷ [])
    (bounds_part bounds ∷ request_part 1 ∷ (0xC020, region) ∷
    (0xC030, 0x4256 ∷ 0x0074 ∷ 0x1300 ∷ []) ∷
    (0xFFF4, 0xC030 ∷ []) ∷ [])

abbrev pub guarded_region : Contents
guarded_region = guarded_program two_word_bounds two_word_region

-- NOP and BR #C00E, whose second word is past the region
abbrev pub reach_outside : Contents
reach_outside = guarded_program two_word_bounds (0x4303 ∷ 0x4030 ∷ 0xC00E ∷ [])

-- ER over the MAC
abbrev pub region_over_mac : Contents
region_over_mac = guarded_program (0x0200 ∷ 0x0202 ∷ 0x0300 ∷ 0x0300 ∷ []) two_word_region

-- MOV #2200,SP; CALL #C020; MOV #4303,&C020; CALL #A000, on a request
abbrev pub overwrite : Contents
overwrite =
    program_of
    (0x4031 ∷ 0x2200 ∷ 0x12B0 ∷ 0xC020 ∷ 0x40B2 ∷ 0x4303 ∷ 0xC020 ∷ 0x12B0 ∷ 0xA000 ∷ 0x3FFF ∷ [])
    (bounds_part two_word_bounds ∷ request_part 1 ∷ (0xC020, two_word_region) ∷ [])

-- MOV #2200,SP; CALL #C020; CALL #C022; CALL #A000
abbrev pub inner_entry : Contents
inner_entry =
    program_of
    (0x4031 ∷ 0x2200 ∷ 0x12B0 ∷ 0xC020 ∷ 0x12B0 ∷ 0xC022 ∷ 0x12B0 ∷ 0xA000 ∷ 0x3FFF ∷ [])
    (bounds_part two_word_bounds ∷ request_part 1 ∷ (0xC020, two_word_region) ∷ [])

-- MOV #2200,SP; CALL #C020; CALL #A000, with the output region at the end of the region
abbrev pub region_overlap : Contents
region_overlap =
    program_of (0x4031 ∷ 0x2200 ∷ 0x12B0 ∷ 0xC020 ∷ 0x12B0 ∷ 0xA000 ∷ 0x3FFF ∷ [])
    (bounds_part (0xC020 ∷ 0xC022 ∷ 0xC022 ∷ 0xC022 ∷ []) ∷ request_part 1 ∷
    (0xC020, two_word_region) ∷ [])

-- sleeps; the handler at C030 sends the byte that arrived back
abbrev pub echo : Contents
echo =
    program_of (0x4031 ∷ 0x2200 ∷ 0x4392 ∷ 0x0070 ∷ 0xD032 ∷ 0x0018 ∷ 0x3FFF ∷ [])
    ((0xC030, 0x42D2 ∷ 0x0074 ∷ 0x0076 ∷ 0x1300 ∷ []) ∷ (0xFFF4, 0xC030 ∷ []) ∷ [])

-- a timer of ten steps; its handler at C030 sends the letter T
abbrev pub ticker : Contents
ticker =
    program_of
    (0x4031 ∷ 0x2200 ∷ 0x40B2 ∷ 0x0009 ∷ 0x0164 ∷ 0x40B2 ∷ 0x0003 ∷ 0x0160 ∷ 0xD232 ∷ 0x3FFF ∷ [])
    ((0xC030, 0x40F2 ∷ 0x0054 ∷ 0x0076 ∷ 0x1300 ∷ []) ∷ (0xFFF2, 0xC030 ∷ []) ∷ [])

-- the letter, and two jumps to themselves
abbrev pub rewritten_program : Contents
rewritten_program = program_of (0x40B2 ∷ 0x0041 ∷ 0x0076 ∷ 0x3FFF ∷ 0x3FFC ∷ []) []

-- MOV #0041,&0300; MOV &0300,&0076; a jump to itself
abbrev pub store : Contents
store = program_of (0x40B2 ∷ 0x0041 ∷ 0x0300 ∷ 0x4292 ∷ 0x0300 ∷ 0x0076 ∷ 0x3FFF ∷ []) []

-- MOV &0300,&0076; MOV #0041,&0300; a jump to itself; the word at 0300 is 0042
abbrev pub kept_word : Contents
kept_word =
    program_of
    (0x4292 ∷ 0x0300 ∷ 0x0076 ∷ 0x40B2 ∷ 0x0041 ∷ 0x0300 ∷ 0x3FFF ∷ [])
    ((0x0300, 0x0042 ∷ []) ∷ [])

-- BR #A002
abbrev pub jump_into_rom : Contents
jump_into_rom = program_of (0x4030 ∷ 0xA002 ∷ []) []
