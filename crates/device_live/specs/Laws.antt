-- What holds of every conversation with a device that lives.
use Rattle.std.specs.Prelude.{◌≡◌, ◌++◌, ℕ, List, Ok}
use Rattle.device_trace.specs.{Start.Start, Text.lines_of}
use Rattle.device_live.specs.{Answer.tells, Conversation.talk_of, Life.{Life, play_lived, with_steps}}

-- what is told of the steps is what `play` prints of the lines that were taken, up to the last step
abbrev pub TellsItsPlay : Type 0
TellsItsPlay =
    (start : Start) (lines : List (List ℕ))
    → (talk_of start lines).told ≡ lines_of start (play_lived (talk_of start lines).life)

-- whoever runs to a step first and then on to a later one is told the same of the steps, and lives
-- on from the same life
abbrev pub IsCutAnywhere : Type 0
IsCutAnywhere =
    (start : Start) (life between later : Life) (steps more : ℕ)
    → with_steps life steps ≡ Ok between
    → with_steps between more ≡ Ok later
    → (with_steps life more ≡ Ok later)
    × ((tells start life later).told
    ≡ (tells start life between).told ++ (tells start between later).told)
