-- A way that an interrupt ends early.
use Rattle.std.specs.{Prelude.{◌≡◌, ◌≤◌, ◌⊎◌, ◌++◌, ℕ, true, List, [], ◌∷◌, Option, None, codes, map}, List.concat}
use Rattle.debug_link.specs.{Conversation.Answer, declared.connection.Connection.TheVariants.Open, Console.text_body}
use Rattle.debug_session.specs.{Place.{Run, view_of, play_to}, Session.{Session, reply}, declared.stop.Stop.TheVariants.Interrupted}
use Rattle.device_trace.specs.Text.{lines_of}

-- Packets that hold the lines of some steps.

-- these packets' bodies are those of pieces of text, which joined are the lines of the steps from
-- one place to another: the lines of a play up to the later place begin with those up to the
-- earlier one, and end with these
pub record TellsBetween (run : Run) (from to : ℕ) (bodies : List (List ℕ)) : Type 0 where
  pub pieces : List (List ℕ)
  pub bodies_are : bodies ≡ map text_body pieces
  pub lines : lines_of run.start (play_to run to)
      ≡ lines_of run.start (play_to run from) ++ concat pieces

-- a way from one place towards another led to here: ahead, and these packets tell the lines of the
-- steps between; or back, and none is told
abbrev pub LedTo : Run → ℕ → ℕ → ℕ → List (List ℕ) → Type 0
LedTo run from to place told =
    ((from ≤ place) × (place ≤ to) × TellsBetween run from place told)
    ⊎ ((to ≤ place) × (place ≤ from) × (told ≡ []))

-- it ended before or where it would have, at a boundary or where it began; what is told is of these
-- steps alone, and then SIGINT; and nothing else of the session changes
pub record EndsEarly (run : Run) (session : Session) (whole answer : Answer Session)
    : Type 0 where
  pub place : ℕ
  pub told : List (List ℕ)
  pub led : LedTo run session.place whole.session.place place told
  pub settled : ((view_of run place).boundary ≡ true) ⊎ (place ≡ session.place)
  pub answer_is : answer
      ≡ record {
        session = record session { place = place; stop = Interrupted };
        packets = told ++ codes "T02" ∷ [];
        connection = Open;
      }

-- an interrupt ends a way early, or changes nothing of the answer
abbrev pub MayEndEarly : Run → Session → List ℕ → Option ℕ → Type 0
MayEndEarly run session body interrupt =
    let whole : Answer Session = reply (view_of run) None session body in
    let answer : Answer Session = reply (view_of run) interrupt session body in
    (answer ≡ whole) ⊎ EndsEarly run session whole answer
