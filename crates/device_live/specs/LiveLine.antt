-- What a line says to a device that lives.
use Rattle.std.specs.{Prelude.{◌-◌, ℕ, List, Result, Ok, Err, codes, if◌then◌else◌}, Str.bytes_eq}
use Rattle.device_types.specs.declared.event.Event.{Event}
use Rattle.play_script.specs.Grammar.{happening_of}
use Rattle.text_scan.specs.{declared.fault_kind.FaultKind.{FaultKind, TheVariants.Word}, Decimal.{decimal_of, long_decimal_of}, Hexadecimal.hex_word_of, Reader.◌>>=◌, Word.{end_of, next_word}}

pub data LiveLine : Type 0 where
  -- these events come in this step
  Happens : ℕ → List Event → LiveLine
  -- go on until so many steps were made
  Run : ℕ → LiveLine
  -- show the registers, or so many bytes from an address on
  Registers : LiveLine
  Memory : ℕ → ℕ → LiveLine

-- a device makes so many steps at most, 2 to the 48th, and shows so many bytes at once
abbrev pub MOST_STEPS : ℕ
MOST_STEPS = 0x1000000000000

abbrev pub MOST_SHOWN : ℕ
MOST_SHOWN = 2048

-- `at N ..`: what happens in step N, as a line of a script says it
unfoldable pub happens_of : List (List ℕ) → Result (LiveLine × List (List ℕ)) FaultKind
happens_of words = do
  number ← next_word words
  step ← long_decimal_of 0 (MOST_STEPS - 1) number.0
  events ← happening_of number.1
  Ok (Happens step events.0, events.1)

-- `run N`
unfoldable pub run_of : List (List ℕ) → Result (LiveLine × List (List ℕ)) FaultKind
run_of words = do
  number ← next_word words
  steps ← long_decimal_of 0 MOST_STEPS number.0
  Ok (Run steps, number.1)

-- `memory H4 N`
unfoldable pub memory_of : List (List ℕ) → Result (LiveLine × List (List ℕ)) FaultKind
memory_of words = do
  first ← next_word words
  place ← hex_word_of first.0
  second ← next_word first.1
  count ← decimal_of 1 MOST_SHOWN second.0
  Ok (Memory place count, second.1)

abbrev pub line_by_keyword :
    List ℕ → List (List ℕ) → Result (LiveLine × List (List ℕ)) FaultKind
line_by_keyword keyword words =
    if bytes_eq keyword (codes "at") then happens_of words
    else if bytes_eq keyword (codes "run") then run_of words
    else if bytes_eq keyword (codes "registers") then Ok (Registers, words)
    else if bytes_eq keyword (codes "memory") then memory_of words
    else Err Word

-- what a line with these words says, or its fault
unfoldable pub live_line_of : List (List ℕ) → Result LiveLine FaultKind
live_line_of words = do
  keyword ← next_word words
  said ← line_by_keyword keyword.0 keyword.1
  end ← end_of said.1
  Ok said.0
