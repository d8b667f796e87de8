-- The flags that a result has.
use Rattle.std.specs.Prelude.{ℕ, Bool, ◌==◌}
use Rattle.word_arith.specs.{declared.{size.Size.Size, flags.Flags.Flags}, Number.is_negative}

-- N is the result's top bit, Z is set where the result is 0; C and V are the operation's own
abbrev pub result_flags : Size → ℕ → Bool → Bool → Flags
result_flags size outcome carry overflow =
    record { c = carry; z = outcome == 0; n = is_negative size outcome; v = overflow }
