-- Plays at which both flags are computed, and what another program says of them.
use Rattle.std.specs.Prelude.{◌≡◌, ◌==◌, ℕ, Bool, true, false, List, [], ◌∷◌, map, if◌then◌else◌}
use Rattle.word_arith.specs.Number.{Word16}
use Rattle.device_types.specs.{declared.event.Event.{Event, TheVariants.{Rx, Dma}}, Address.{Contents, Address}}
use Rattle.device_trace.specs.{Example.{counting_digest, upwards, program_of, bounds_part}, Logs.{Logs, exec_of, aux_of}, Start.{Start, with_key}, Trace.{logs_after, play_of}}
use Rattle.part_definitions.specs.TrustedFlag.{aux}

-- an image, the events of some steps, the number of steps, and AUX and EXEC after the last
pub record FlagCase : Type 0 where
  pub image : Contents
  pub script : List (ℕ × List Event)
  pub steps : ℕ
  pub flags : Bool × Bool

abbrev pub row : Contents → List (ℕ × List Event) → ℕ → Bool × Bool → FlagCase
row image script steps flags =
    record { image = image; script = script; steps = steps; flags = flags }

abbrev pub events_in : List (ℕ × List Event) → ℕ → List Event
events_in [] step = []
events_in (one ∷ more) step = if one.0 == step then one.1 else events_in more step

-- AUX and EXEC by the definitions
abbrev pub both_flags : FlagCase → Bool × Bool
both_flags case =
    let start : Start = with_key aux counting_digest (upwards 0 64) case.image in
    let logs : Logs = logs_after start (play_of (events_in case.script) case.steps) in
    (aux_of start logs, exec_of logs)

-- what the definitions compute of each is its flags
abbrev pub HaveTheirFlags : List FlagCase → Type 0
HaveTheirFlags rows = map both_flags rows ≡ map (λ one. one.flags) rows

-- a byte arrives in this step
abbrev pub arrival : ℕ → ℕ × List Event
arrival step = (step, Rx 0x55 ∷ [])

-- in this step the DMA reads a word 0, which it writes to the serial port's vector in the next
abbrev pub vector_write : ℕ → ℕ × List Event
vector_write step = (step, Dma 0x0500 0xFFF4 1 ∷ [])

-- ER from C020 to C02A: NOP; a jump to C02A; at C024 a handler, MOV.B &SRXD,R6 and RETI; at C02A
-- RET. With OR at 0300, a program at C000, a vector of the serial port, and further words
abbrev pub region_with : List Word16 → Address → List (Address × List Word16) → Contents
region_with program vector parts =
    program_of program
    (bounds_part (0xC020 ∷ 0xC02A ∷ 0x0300 ∷ 0x0300 ∷ []) ∷
    (0xC020, 0x4303 ∷ 0x3C03 ∷ 0x4256 ∷ 0x0074 ∷ 0x1300 ∷ 0x4130 ∷ []) ∷
    (0xFFF4, vector ∷ []) ∷ parts)

-- MOV #2200,SP; MOV #1,&SCTL; EINT; CALL #C020; MOV.B &AUX,&STXD; a jump to itself. A byte that
-- arrives interrupts. Where none does, the region runs in steps 10 to 13, ERmax in the last two
abbrev pub called_region : Address → List (Address × List Word16) → Contents
called_region vector parts =
    region_with
    (0x4031 ∷ 0x2200 ∷ 0x4392 ∷ 0x0070 ∷ 0xD232 ∷ 0x12B0 ∷ 0xC020 ∷ 0x42D2 ∷ 0x026A ∷ 0x0076 ∷
    0x3FFF ∷ [])
    vector parts

-- one region, interrupted and entered in several ways
abbrev pub runs_of_one_region : List FlagCase
runs_of_one_region =
    -- nothing interrupts the run
    row (called_region 0xC024 []) [] 19 (true, true) ∷
    -- a trusted interrupt, after the first instruction: its handler lies in the region. E4 clears
    -- EXEC, and nothing clears AUX
    row (called_region 0xC024 []) (arrival 11 ∷ []) 28 (true, false) ∷
    -- an interrupt at ERmax, from where the region may be left. Its handler at C030, which is
    -- MOV.B &AUX,&STXD and a jump to itself, lies outside: F4 alone clears AUX
    row (called_region 0xC030 ((0xC030, 0x42D2 ∷ 0x026A ∷ 0x0076 ∷ 0x3FFF ∷ []) ∷ []))
    (arrival 12 ∷ []) 20 (false, false) ∷
    -- the vector is written before the run, and the interrupt in it has its handler at 0000: F4
    -- clears AUX, and the illegal word there resets the device
    row (called_region 0xC024 []) (vector_write 6 ∷ arrival 11 ∷ []) 20 (false, false) ∷
    -- the vector is written in the run, in the step after the interrupt's entry read it: F7 and
    -- F10 clear AUX
    row (called_region 0xC024 []) (arrival 11 ∷ vector_write 13 ∷ []) 28 (false, false) ∷
    -- the vector is written after the run: F10 alone clears AUX, and nothing clears EXEC
    row (called_region 0xC024 []) (vector_write 14 ∷ []) 19 (false, true) ∷
    -- an interrupt at ERmin, before the first instruction: while the handler in the region runs,
    -- no run has begun
    row (called_region 0xC024 []) (arrival 8 ∷ []) 19 (false, false) ∷
    -- MOV #2200,SP; CALL #C020; CALL #C022; a jump to itself: after a run the region is entered
    -- elsewhere. E3 alone clears EXEC, and F3 AUX
    row (region_with (0x4031 ∷ 0x2200 ∷ 0x12B0 ∷ 0xC020 ∷ 0x12B0 ∷ 0xC022 ∷ 0x3FFF ∷ []) 0xC024 [])
    [] 17 (false, false) ∷
    -- MOV #2200,SP; CALL #C020; MOV #0310,SP; RETI, with SR 0010 and PC C020 at 0310: after a run
    -- the processor sleeps at ERmin. F3 alone clears AUX, and nothing clears EXEC
    row
    (region_with (0x4031 ∷ 0x2200 ∷ 0x12B0 ∷ 0xC020 ∷ 0x4031 ∷ 0x0310 ∷ 0x1300 ∷ []) 0xC024
    ((0x0310, 0x0010 ∷ 0xC020 ∷ []) ∷ []))
    [] 18 (false, true) ∷ []

-- regions that sleep, handle interrupts from their start on, or write a vector
abbrev pub runs_of_other_regions : List FlagCase
runs_of_other_regions =
    -- MOV #1000,SP; MOV #1,&SCTL; EINT. The handler is at ERmin, D000, and is EINT: it begins a
    -- run, and the byte that still waits interrupts it, again and again
    row
    (program_of (0x4031 ∷ 0x1000 ∷ 0x4392 ∷ 0x0070 ∷ 0xD232 ∷ [])
    (bounds_part (0xD000 ∷ 0xD020 ∷ 0x0400 ∷ 0x0400 ∷ []) ∷ (0xD000, 0xD232 ∷ []) ∷
    (0xFFF4, 0xD000 ∷ []) ∷ []))
    ((4, Rx 0x3D ∷ []) ∷ []) 28 (true, false) ∷
    -- MOV #2200,SP; CALL #D000. The region is EINT; MOV &P1IN,&2100; BIS #18,SR: it sleeps, and
    -- the bytes that arrive do not interrupt
    row
    (program_of (0x4031 ∷ 0x2200 ∷ 0x12B0 ∷ 0xD000 ∷ [])
    (bounds_part (0xD000 ∷ 0xD028 ∷ 0x2100 ∷ 0x2102 ∷ []) ∷
    (0xD000, 0xD232 ∷ 0x4292 ∷ 0x0020 ∷ 0x2100 ∷ 0xD032 ∷ 0x0018 ∷ []) ∷ []))
    ((5, Rx 0xA5 ∷ []) ∷ (8, Rx 0x99 ∷ []) ∷ (13, Rx 0xEE ∷ Rx 0x18 ∷ []) ∷ []) 22 (true, true) ∷
    -- MOV #2200,SP; MOV #5,&TCMP; MOV #3,&TCTL; CALL #D000. The region is EINT; BIS #18,SR: it
    -- sleeps, and the timer interrupts it. The handler in it, at D01C, is RETI, to sleep again
    row
    (program_of
    (0x4031 ∷ 0x2200 ∷ 0x40B2 ∷ 0x0005 ∷ 0x0164 ∷ 0x40B2 ∷ 0x0003 ∷ 0x0160 ∷ 0x12B0 ∷ 0xD000 ∷ [])
    (bounds_part (0xD000 ∷ 0xD020 ∷ 0x0290 ∷ 0x0290 ∷ []) ∷
    (0xD000, 0xD232 ∷ 0xD032 ∷ 0x0018 ∷ []) ∷ (0xD01C, 0x1300 ∷ []) ∷ (0xFFF2, 0xD01C ∷ []) ∷ []))
    ((13, Rx 0x69 ∷ []) ∷ []) 28 (true, false) ∷
    -- MOV #2200,SP; MOV #1,&SCTL; CALL #0300. The region is MOV #0302,&FFF4; BIS #18,SR: it writes
    -- a vector itself, and sleeps. F10 alone clears AUX, and nothing clears EXEC
    row
    (program_of (0x4031 ∷ 0x2200 ∷ 0x4392 ∷ 0x0070 ∷ 0x12B0 ∷ 0x0300 ∷ [])
    (bounds_part (0x0300 ∷ 0x0312 ∷ 0x0290 ∷ 0x0292 ∷ []) ∷
    (0x0300, 0x40B2 ∷ 0x0302 ∷ 0xFFF4 ∷ 0xD032 ∷ 0x0018 ∷ []) ∷ []))
    [] 28 (false, true) ∷
    -- MOV #2200,SP; MOV #1,&SCTL; CALL #D000; a jump to C040; there DINT; MOV &P1IN,&0290;
    -- CALL #A000. The region is NOP; MOV &P1IN,&0290; DINT; DINT; a jump to D014; there RET. After
    -- the run its output is written from outside, and a call begins: E5 clears both flags
    row
    (program_of (0x4031 ∷ 0x2200 ∷ 0x4392 ∷ 0x0070 ∷ 0x12B0 ∷ 0xD000 ∷ 0x3C19 ∷ [])
    (bounds_part (0xD000 ∷ 0xD014 ∷ 0x0290 ∷ 0x0292 ∷ []) ∷
    (0xC040, 0xC232 ∷ 0x4292 ∷ 0x0020 ∷ 0x0290 ∷ 0x12B0 ∷ 0xA000 ∷ []) ∷
    (0xD000, 0x4303 ∷ 0x4292 ∷ 0x0020 ∷ 0x0290 ∷ 0xC232 ∷ 0xC232 ∷ 0x3C03 ∷ []) ∷
    (0xD014, 0x4130 ∷ []) ∷ []))
    ((20, Rx 0x07 ∷ []) ∷ (23, Rx 0x3C ∷ []) ∷ (24, Rx 0xE5 ∷ []) ∷ []) 40 (false, false) ∷ []
