-- Closed plays at which the laws are computed.
use Rattle.std.specs.Prelude.{slice_get, ℕ, [], ◌∷◌, Option, length}
use Rattle.word_arith.specs.Number.{Word16}
use Rattle.device_types.specs.{declared.event.Event.TheVariants.{Dma, Reset}, Map.COUNTER, Address.Contents}
use Rattle.device_trace.specs.{Example.{counting_words, event_after, program_of, quiet_steps, start_with}, Trace.{trace, Play}}
use Rattle.mac_coverage.specs.Coverage.{last_call, mac_written}
use Rattle.request_freshness.specs.Freshness.{kept_counter}

-- MOV #2200,SP; DINT; CALL #A000; a jump to the call: attests again and again; the counter of the
-- request is FFFF, its token is right for every counter, and the words of the counter 10000 stand
-- at 0300
abbrev pub attesting_loop : Contents
attesting_loop =
    program_of (0x4031 ∷ 0x2200 ∷ 0xC232 ∷ 0x12B0 ∷ 0xA000 ∷ 0x3FFD ∷ [])
    ((COUNTER, 0xFFFF ∷ 0 ∷ counting_words) ∷ (0x0300, 0 ∷ 1 ∷ []) ∷ [])

-- the first call begins after 7 steps and has 126, and 4 steps lead to the next; in them a DMA
-- transfer of two words puts the other counter into the request
abbrev pub first_call : Play
first_call = quiet_steps 133 []

abbrev pub next_request : Play
next_request = event_after (Dma 0x0300 COUNTER 2) first_call

-- the second call on the next request, up to the high word of the kept counter, and to the low word
abbrev pub high_word_written : Play
high_word_written = quiet_steps 78 next_request

abbrev pub low_word_written : Play
low_word_written = quiet_steps 1 high_word_written

-- a reset between the two
abbrev pub call_broken_between : Play
call_broken_between = event_after Reset high_word_written

-- the second call on the old request, up to its decision
abbrev pub replay : Play
replay = quiet_steps 81 first_call

abbrev pub kept_then : Play → ℕ
kept_then play = kept_counter (start_with attesting_loop) play

abbrev pub decision_then : Play → Option Word16
decision_then play =
    slice_get (mac_written (last_call (trace (start_with attesting_loop) play))) 0

abbrev pub steps_then : Play → ℕ
steps_then play = length (last_call (trace (start_with attesting_loop) play))
