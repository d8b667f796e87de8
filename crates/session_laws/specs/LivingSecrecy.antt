-- Two devices that answer lines alike.
use Rattle.std.specs.Prelude.{◌≡◌, ℕ, List, drop}
use Rattle.device_trace.specs.{Trace.Play, Start.Start}
use Rattle.device_live.specs.{Conversation.{conversation, talk_of}, Life.play_lived}

-- both have put the same, of it the same of the steps, and live on from the same life; and at the
-- end of the input both put the same
pub record IsOneTalk (left right : Start) (lines : List (List ℕ)) : Type 0 where
  pub talk : talk_of left lines ≡ talk_of right lines
  pub whole : conversation left lines ≡ conversation right lines

-- and so behind each line: the newest come first, of which so many may be still to come
abbrev pub AnswersAlike : Start → Start → List (List ℕ) → Type 0
AnswersAlike left right lines = (newest : ℕ) → IsOneTalk left right (drop newest lines)

-- the steps that were made behind all lines
abbrev pub lived_behind : Start → List (List ℕ) → Play
lived_behind start lines = play_lived (talk_of start lines).life
