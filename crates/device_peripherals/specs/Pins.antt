-- Which words the pins stand for.
use Rattle.std.specs.Prelude.{◌≡◌, ℕ, List}
use Rattle.part_definitions.specs.Pins.{pins_word}
use Rattle.device_peripherals.specs.declared.pins.Pins.{Pins}

-- the pins were set to these words, newest first
pub record PinsStandFor (pins : Pins) (words : List ℕ) : Type 0 where
  pub same_word : pins.word ≡ pins_word words
