-- How long a play may be.
use Rattle.std.specs.Prelude.{ℕ, ◌+◌}
use Rattle.play_script.specs.Script.{LAST_STEP}

-- the most steps that one run plays: those that a script can name, from 0 to the last
abbrev pub most_steps : ℕ
most_steps = LAST_STEP + 1
