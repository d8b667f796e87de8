-- A device that lives, and whoever tells it lines: what is put, line by line.
use Rattle.std.specs.{Prelude.{ℕ, ◌++◌, suc, List, [], ◌∷◌, length, codes, Option, Some, None, Result, Ok, Err, if◌then◌else◌, ◌≡◌}, declared.alloc.AllocError.AllocError}
use Rattle.device_types.specs.Address.{Bytes}
use Rattle.text_scan.specs.{declared.fault_kind.FaultKind.{FaultKind, TheVariants.TooLong}, Reader.◌>>=◌, Word.{is_passed_over, words_of}}
use Rattle.source_server.specs.{HeldLine.short_line, LineCut.{all_lines, whole_lines}, Responder.Promise, declared.halt.Halt.{Halt, TheVariants.{Write, Own}}}
use Rattle.device_trace.specs.Start.{Start}
use Rattle.device_live.specs.{Answer.{Answer, answer_of, or_refusal, silent_answer, standing_line}, Life.{Life, at_power_on}, LiveLine.live_line_of}
use Rattle.outside_edge.specs.{Calls.Rose, Sink.{Takes, TakesPrefix}, declared.sink.Sink.Ghosts as SinkGhosts}

-- the life behind lines, what `play` prints of its steps, and all that was put
pub record Talk : Type 0 where
  pub life : Life
  pub told : Bytes
  pub text : Bytes

abbrev pub first_talk : Talk
first_talk = record { life = at_power_on; told = []; text = [] }

-- what words say is answered, or they have a fault
abbrev pub answer_to_words : Start → Life → List (List ℕ) → Result Answer FaultKind
answer_to_words start life words = do
  said ← live_line_of words
  answer_of start life said

-- a line that is not too long; one without words and a comment are passed over, as in a script
abbrev pub answer_to : Start → Life → Option (List ℕ) → Result Answer FaultKind
answer_to start life None = Err TooLong
answer_to start life (Some line) =
    if is_passed_over line then Ok (silent_answer life)
    else answer_to_words start life (words_of line)

abbrev pub with_answer : Talk → Answer → Talk
with_answer talk answer =
    record {
      life = answer.life;
      told = talk.told ++ answer.told;
      text = talk.text ++ (answer.told ++ answer.line);
    }

-- behind one line more, which has this number
abbrev pub talk_with_line : Start → Talk → ℕ → List ℕ → Talk
talk_with_line start talk number line =
    with_answer talk (or_refusal talk.life number (answer_to start talk.life (short_line line)))

-- behind lines, the newest first, which are numbered from 1
abbrev pub talk_of : Start → List (List ℕ) → Talk
talk_of start [] = first_talk
talk_of start (line ∷ earlier) =
    talk_with_line start (talk_of start earlier) (suc (length earlier)) line

-- at the end of the input
abbrev pub conversation : Start → List (List ℕ) → Bytes
conversation start lines =
    let talk = talk_of start lines in
    talk.text ++ standing_line (codes "end") start talk.life

-- What is put into a sink of the lines that a source gives to a device that lives.

-- there was no memory for one of these lines, and what is due to those before it was put
pub record StopsBefore {W : Type 0} (w : SinkGhosts W) (start : Start) (first now : W)
    (lines : List (List ℕ)) : Type 0 where
  pub later : List (List ℕ)
  pub line : List ℕ
  pub earlier : List (List ℕ)
  pub parts : lines ≡ later ++ line ∷ earlier
  pub put : Takes w.stands first now (talk_of start earlier).text

-- the sink failed within the conversation
abbrev pub StopsLife : {W : Type 0} → SinkGhosts W → Start → W → W → List (List ℕ)
    → Halt AllocError → Type 0
StopsLife w start first now lines Write =
    TakesPrefix w.stands first now (conversation start lines)
    × Rose (w.faults first) (w.faults now)
StopsLife w start first now lines (Own error) = StopsBefore w start first now lines

-- What a sink has taken, behind bytes that a source gave: what is due to all lines that are whole;
-- at the end of the input the whole conversation.
abbrev pub life_promise : {W : Type 0} → SinkGhosts W → Start → W → Promise W AllocError
life_promise w start first =
    record {
      answered = λ now bytes. Takes w.stands first now (talk_of start (whole_lines bytes)).text;
      ended = λ now bytes. Takes w.stands first now (conversation start (all_lines bytes));
      stopped = λ now before last why. StopsLife w start first now (all_lines (before ++ last)) why;
    }
