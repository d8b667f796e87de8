-- Closed plays at which the law is computed.
use Rattle.std.specs.Prelude.{ℕ, List, [], ◌∷◌, length, take}
use Rattle.word_arith.specs.Number.{Word16}
use Rattle.device_types.specs.{declared.event.Event.TheVariants.Reset, Map.EXEC_WORD, Address.{Contents, Bytes}}
use Rattle.device_trace.specs.{Example.{counting_words, event_after, quiet_steps, start_with}, Trace.{trace, byte_after, Play}}
use Rattle.mac_coverage.specs.Coverage.{last_call, mac_written, attested_after, kept_after}

-- the call of `attestation` begins after 7 steps; in its step 124 it is broken off by a reset
abbrev pub broken_call : Play
broken_call = event_after Reset (quiet_steps 130 [])

-- the words of the bytes 01 to 20, behind the decision to attest, and the first seven of them
abbrev pub all_words : List Word16
all_words = 1 ∷ counting_words

abbrev pub first_words : List Word16
first_words = 1 ∷ take 7 counting_words

-- how many steps the last call of a play made, and what it wrote to the MAC
abbrev pub steps_made : Contents → Play → ℕ
steps_made image play = length (last_call (trace (start_with image) play))

abbrev pub words_written : Contents → Play → List Word16
words_written image play = mac_written (last_call (trace (start_with image) play))

-- the bytes of ER and OR that stand in memory after so many steps with no event, and the kept
-- counter
abbrev pub rest_standing : Contents → ℕ → Bytes
rest_standing image steps = (attested_after (start_with image) (quiet_steps steps [])).rest

abbrev pub kept_standing : Contents → ℕ → Bytes
kept_standing image steps = kept_after (start_with image) (quiet_steps steps [])

-- the EXEC word then
abbrev pub exec_standing : Contents → ℕ → ℕ
exec_standing image steps = byte_after (start_with image) (quiet_steps steps []) EXEC_WORD

-- the program C000 to C00A, and the word 0 of the output
abbrev pub program_and_output : Bytes
program_and_output =
    0x31 ∷ 0x40 ∷ 0x00 ∷ 0x22 ∷ 0x32 ∷ 0xC2 ∷ 0xB0 ∷ 0x12 ∷ 0x00 ∷ 0xA0 ∷ 0xFF ∷ 0x3F ∷
    0x00 ∷ 0x00 ∷ []
