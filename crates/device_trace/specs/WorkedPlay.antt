-- Worked plays: what each image prints.
use Rattle.std.specs.Prelude.{◌≡◌, ◌++◌, List, [], ◌∷◌, map, replicate, take, drop, codes}
use Rattle.hex.specs.Hex.{encode_lower}
use Rattle.device_types.specs.{declared.event.Event.TheVariants.{Rx, Pins, Dma, Reset}, Address.{Contents, Bytes}}
use Rattle.device_trace.specs.{Example.{start_with, quiet_steps, event_after, arrivals, upwards, letter_a, no_image, key_reader, key_runner, attestation, attestation_of, request_part, return_through_key, return_into_rom, interrupted_call, ordinary_run, ordinary_request, guarded_region, reach_outside, overwrite, inner_entry, region_overlap, region_over_mac, echo, ticker, rewritten_program, store, kept_word, jump_into_rom}, Text.play_text, Trace.Play}

-- an image, its play, and what is printed
pub record WorkedPlay : Type 0 where
  pub image : Contents
  pub play : Play
  pub text : Bytes

abbrev pub row : Contents → Play → Bytes → WorkedPlay
row image play text = record { image = image; play = play; text = text }

-- what the definitions print of each is its text
abbrev pub PrintTheirTexts : List WorkedPlay → Type 0
PrintTheirTexts rows =
    map (λ one. play_text (start_with one.image) one.play) rows ≡ map (λ one. one.text) rows

-- a report on the first request: step and EXEC, the challenge, bounds and output
abbrev pub report : Bytes → Bytes → Bytes → Bytes
report step challenge region =
    codes "report2 " ++ step ++ codes " aux 0 count 1 chal " ++ encode_lower challenge
    ++ codes " er " ++ region ++ codes " mac " ++ encode_lower (upwards 1 32) ++ codes "\n"

-- a report of the challenge 0
abbrev pub plain_report : Bytes → Bytes → Bytes
plain_report step region = report step (replicate 32 0) region

-- programs that send, sleep, are interrupted, and are reset by the script
abbrev pub program_plays : List WorkedPlay
program_plays =
    -- the letter A is sent, and then the program jumps to itself
    row letter_a (quiet_steps 5 []) (codes "tx 4 41\nend 5 pc c006 exec 0\n") ∷
    -- in the empty image the word 0000 is illegal, so each fetch after a boot resets the device
    row no_image (quiet_steps 4 []) (codes "reset 1 I1\nreset 3 I1\nend 4 pc 0000 exec 0\n") ∷
    -- a reset by the script, and the letter afterwards
    row letter_a (quiet_steps 5 (event_after Reset (quiet_steps 2 [])))
    (codes "reset 2 X0\ntx 7 41\nend 8 pc c006 exec 0\n") ∷
    -- a write that a reset refuses is not made
    row kept_word (quiet_steps 6 (event_after Reset (quiet_steps 9 [])))
    (codes "tx 5 42\nreset 9 X0\ntx 15 42\nend 16 pc c006 exec 0\n") ∷
    -- the processor sleeps until a byte arrives, and sends it back
    row echo (quiet_steps 11 (event_after (Rx 0x5A) (quiet_steps 10 [])))
    (codes "tx 17 5a\nend 22 pc c00c exec 0\n") ∷
    -- the timer interrupts twice
    row ticker (quiet_steps 38 []) (codes "tx 27 54\ntx 37 54\nend 38 pc c036 exec 0\n") ∷
    []

-- the DMA engine beside the processor
abbrev pub dma_plays : List WorkedPlay
dma_plays =
    -- a DMA write comes after the fetch of the same step, and is seen by the next
    row rewritten_program (quiet_steps 6 (event_after (Dma 0xC008 0xC006 1) (quiet_steps 6 [])))
    (codes "tx 4 41\ntx 12 41\nend 13 pc c006 exec 0\n") ∷
    -- the DMA and the processor write to one place in one step: the word of the DMA stays
    row store (quiet_steps 10 (event_after (Dma 0xC000 0x0300 1) (quiet_steps 3 [])))
    (codes "tx 9 b2\nend 14 pc c00c exec 0\n") ∷
    -- a reset stops a DMA between its read and its write
    row rewritten_program
    (quiet_steps 6 (event_after Reset (event_after (Dma 0xC008 0xC006 1) (quiet_steps 6 []))))
    (codes "tx 4 41\nreset 7 X0\ntx 12 41\nend 14 pc c006 exec 0\n") ∷
    []

-- what the monitors refuse: the rule is named, and the device resets
abbrev pub refused_plays : List WorkedPlay
refused_plays =
    -- a program that reads the key
    row key_reader (quiet_steps 6 []) (codes "reset 3 K1\nend 6 pc c000 exec 0\n") ∷
    -- a branch into the key, at its fetch
    row key_runner (quiet_steps 4 []) (codes "reset 3 K1\nend 4 pc 0000 exec 0\n") ∷
    -- a DMA that reads the key
    row letter_a (quiet_steps 2 (event_after (Dma 0x6A3E 0x0300 2) (quiet_steps 5 [])))
    (codes "tx 4 41\nreset 5 K4\nend 8 pc c000 exec 0\n") ∷
    -- a fetch inside the ROM, and a DMA read of the key in the same step: the entry is named
    row jump_into_rom (event_after (Dma 0x6A00 0x0302 1) (quiet_steps 3 []))
    (codes "reset 3 A2\nend 4 pc 0000 exec 0\n") ∷
    -- a DMA access in a call
    row attestation (quiet_steps 1 (event_after (Dma 0x0300 0x0302 1) (quiet_steps 10 [])))
    (codes "reset 10 K6\nend 12 pc c000 exec 0\n") ∷
    -- a call whose stack pointer names the key, at its return read
    row return_through_key (quiet_steps 83 []) (codes "reset 82 A4\nend 83 pc 0000 exec 0\n")
    ∷
    -- the timer interrupts a call
    row interrupted_call (quiet_steps 93 []) (codes "reset 92 A3\nend 93 pc 0000 exec 0\n") ∷
    []

-- attestations, their reports and denials
abbrev pub attested_plays : List WorkedPlay
attested_plays =
    -- a whole attestation of a region that holds the running program
    row attestation (quiet_steps 141 [])
    (plain_report (codes "139 exec 0") (codes "c000 c00a or 0300 0300 data 0000") ++
    codes "end 141 pc c00a exec 0\n") ∷
    -- without a token there is no attestation
    row (attestation_of []) (quiet_steps 117 [])
    (codes "denied 84 3\nend 117 pc c00a exec 0\n") ∷
    -- nor with the right token and a counter that is not new
    row (attestation_of (request_part 0 ∷ [])) (quiet_steps 117 [])
    (codes "denied 84 2\nend 117 pc c00a exec 0\n") ∷
    -- a call that returns into the middle of the ROM is finished, and then resets the device
    row return_into_rom (quiet_steps 87 [])
    (codes "denied 85 3\nreset 86 A2\nend 87 pc 0000 exec 0\n") ∷
    -- bounds that meet the MAC are invalid: the metadata alone is attested
    row region_over_mac (quiet_steps 143 [])
    (plain_report (codes "141 exec 0") (codes "0200 0202 or 0300 0300 data -") ++
    codes "end 143 pc c012 exec 0\n") ∷
    -- a request arrives, the region runs, and the attestation proves that it did
    row ordinary_run
    (quiet_steps 791 (arrivals (drop 64 ordinary_request) ∷
    (quiet_steps 399 ((Pins 0x1234 ∷ arrivals (take 64 ordinary_request)) ∷ []))))
    (report (codes "1189 exec 1") (upwards 0 32) (codes "c040 c046 or 0300 0300 data 3412") ++
    codes "end 1192 pc c026 exec 1\n") ∷
    []

-- the region C020 to C022 with the output at 0300, reported with this step and EXEC
abbrev pub two_word_report : Bytes → Bytes
two_word_report step = plain_report step (codes "c020 c022 or 0300 0300 data 0000")

-- runs of the executable region: only one that is undisturbed sets the EXEC flag
abbrev pub flag_plays : List WorkedPlay
flag_plays =
    -- the executable region runs, and then it is attested
    row guarded_region (quiet_steps 146 [])
    (two_word_report (codes "144 exec 1") ++ codes "end 146 pc c012 exec 1\n") ∷
    -- an interrupt in the region
    row guarded_region (quiet_steps 143 (event_after (Rx 0x55) (quiet_steps 11 [])))
    (two_word_report (codes "153 exec 0") ++ codes "end 155 pc c012 exec 0\n") ∷
    -- the last instruction of the region has a word outside it
    row reach_outside (quiet_steps 146 [])
    (two_word_report (codes "144 exec 0") ++ codes "end 146 pc c012 exec 0\n") ∷
    -- a write to the region after its run
    row overwrite (quiet_steps 154 [])
    (two_word_report (codes "144 exec 0") ++ codes "end 154 pc c012 exec 0\n") ∷
    -- a call into the middle of the region
    row inner_entry (quiet_steps 164 [])
    (two_word_report (codes "145 exec 0") ++ codes "end 164 pc c010 exec 0\n") ∷
    -- a run of a region that the output region meets
    row region_overlap (quiet_steps 144 [])
    (plain_report (codes "137 exec 0") (codes "c020 c022 or c022 c022 data -") ++
    codes "end 144 pc c00c exec 0\n") ∷
    []
