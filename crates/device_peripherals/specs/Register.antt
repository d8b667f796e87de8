-- Which writes a register stands for.
use Rattle.std.specs.Prelude.{◌≡◌, ℕ, List}
use Rattle.part_definitions.specs.PeripheralRegister.{RegisterWrite, register_word}
use Rattle.device_peripherals.specs.declared.register.Register.{Register}

-- the register at this place holds what these writes, newest first, left in it
pub record HoldsWrites (place : ℕ) (register : Register)
    (writes : List RegisterWrite) : Type 0 where
  pub at_place : register.place ≡ place
  pub last_written : register.word ≡ register_word writes place
