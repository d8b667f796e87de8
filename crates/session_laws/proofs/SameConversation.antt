-- A conversation is the same without the key, and under two keys whose released words agree.
use Rattle.std.{proofs.{Common.{◌≡◌, ◌++◌, ◌∙◌, ℕ, zero, suc, List, [], ◌∷◌, length, drop, refl, ap, sym, subst, ◌≤◌, ◌<◌, ◌+◌, ◌-◌, Option, Some, None, Result, Ok, Err, IfOk, arith, ⊎_elim}, lemmas.Bool.{cases_Bool, Decides.nat_tests}}, specs.Prelude.{codes, nat_lt}}
use Rattle.device_types.specs.Address.{Bytes}
use Rattle.source_server.specs.HeldLine.{short_line}
use Rattle.device_trace.specs.{Trace.{Play, released_words}, Start.Start}
use Rattle.key_isolation.{specs.Keyless.{ReleaseAlike, SameButKey, keyless}, proofs.{Hiding.open_start, TwoKeys.one_keyless}}
use Rattle.session_laws.{proofs.WithoutKey.{Released, released_before, GoesOn, same_without_key, LeadsOn, goes-nowhere, happening-goes, SameRuns, bytes-same}, specs.LivingSecrecy.{AnswersAlike, IsOneTalk, lived_behind}}
use Rattle.device_live.specs.{Answer.{Answer, or_refusal, lived_run, standing_line, answer_of, says, tells, memory_text, registers_text}, Conversation.{Talk, answer_to, talk_of, with_answer, talk_with_line}, Life.{Life, play_lived, lines_since}, LiveLine.{LiveLine, Happens, Run, Registers, Memory, live_line_of}}
use Rattle.printed_lines.specs.Line.{place_line}
use Rattle.text_scan.specs.{Reader.◌>>=◌, Word.{is_passed_over, words_of}, declared.fault_kind.FaultKind.FaultKind}
use Rattle.debug_session.specs.Place.{Run as PlayedRun, logs_at}

-- Two devices in whose steps the same is read: they answer a line alike.

-- so many steps are told alike
since-same : {left right : PlayedRun} {most : ℕ} → SameRuns left right most
    → (made more : ℕ) → more + made ≤ most
    → lines_since left.start left.events_at made more
    ≡ lines_since right.start right.events_at made more
since-same same made zero bound = refl
since-same same made (suc more) bound =
    let below : more + made < _ = omega (arith, bound) in
    let within : more + made ≤ _ = omega (arith, bound) in
    λ i. since-same same made more within i ++ same.lines (more + made) below i

module _ (left right : Start) where
  -- the same is read in all steps of a life
  abbrev pub SameLives : Life → Type 0
  SameLives life = SameRuns (lived_run left life) (lived_run right life) life.steps

  pub standing-same : (keyword : Bytes) (life : Life) → SameLives life
      → standing_line keyword left life ≡ standing_line keyword right life
  unfolding logs_at
  standing-same keyword life same =
      let here = same.places life.steps (omega arith) in
      λ i. place_line keyword life.steps (here.next_pc i) (here.exec i)

  tells-same : (life later : Life) → life.steps ≤ later.steps → SameLives later
      → tells left life later ≡ tells right life later
  tells-same life later after same =
      let bound : (later.steps - life.steps) + life.steps ≤ later.steps = omega (arith, after) in
      λ i. record {
        life = later;
        told = since-same same life.steps (later.steps - life.steps) bound i;
        line = standing-same (codes "at") later same i;
      }

  -- the life that comes next, whatever was answered
  abbrev life_next : Life → Result Answer FaultKind → Life
  life_next life (Ok answer) = answer.life
  life_next life (Err kind) = life

  -- two answers to one line: the life behind it does not depend on the device, and no more does
  -- what is said where the same is read in the steps of that life
  record IsAlike (life : Life) (one other : Result Answer FaultKind) : Type 0 where
    goes_on : LeadsOn life one
    same_life : life_next life one ≡ life_next life other
    same : IfOk one (λ answer. SameLives answer.life) → one ≡ other

  run-alike : (life : Life) (steps : ℕ)
      → IsAlike life (answer_of left life (Run steps)) (answer_of right life (Run steps))
  run-alike life steps =
      ⊎_elim
      (λ late. rw late (record { goes_on = tt; same_life = refl; same = λ _. refl }))
      (λ on. rw on
      (let after : life.steps ≤ steps = grind (arith, nat_tests, on) in
      let later : Life = record life { steps = steps } in
      record {
        goes_on = record { steps = after; play = refl };
        same_life = refl;
        same = λ runs. ap (λ (answer : Answer). Ok answer) (tells-same life later after runs);
      }))
      (cases_Bool (nat_lt steps life.steps))

  answer-alike : (life : Life) (said : LiveLine)
      → IsAlike life (answer_of left life said) (answer_of right life said)
  unfolding logs_at
  answer-alike life (Happens step events) =
      record {
        goes_on = happening-goes life step events;
        same_life = refl;
        same = λ _. refl;
      }
  answer-alike life (Run steps) = run-alike life steps
  answer-alike life Registers =
      record {
        goes_on = goes-nowhere life;
        same_life = refl;
        same = λ runs.
            ap (λ (words : List ℕ). Ok (says life (registers_text words)))
            (runs.places life.steps (omega arith)).registers;
      }
  answer-alike life (Memory place count) =
      record {
        goes_on = goes-nowhere life;
        same_life = refl;
        same = λ runs.
            ap (λ (bytes : Bytes). Ok (says life (memory_text place bytes)))
            (bytes-same (runs.places life.steps (omega arith)) place count);
      }

  read-alike : (life : Life) (read : Result LiveLine FaultKind)
      → IsAlike life (read >>= answer_of left life) (read >>= answer_of right life)
  read-alike life (Ok said) = answer-alike life said
  read-alike life (Err kind) = record { goes_on = tt; same_life = refl; same = λ _. refl }

  line-alike : (life : Life) (line : Option (List ℕ))
      → IsAlike life (answer_to left life line) (answer_to right life line)
  line-alike life None = record { goes_on = tt; same_life = refl; same = λ _. refl }
  line-alike life (Some line) =
      ⊎_elim
      (λ passed. rw passed
      (record { goes_on = goes-nowhere life; same_life = refl; same = λ _. refl }))
      (λ words. rw words (read-alike life (live_line_of (words_of line))))
      (cases_Bool (is_passed_over line))

  -- and so with what is put where a line has a fault
  pub record IsAnsweredAlike (life : Life) (one other : Answer) : Type 0 where
    pub goes_on : GoesOn life one.life
    pub same_life : one.life ≡ other.life
    pub same : SameLives one.life → one ≡ other

  refusal-alike : (life : Life) (number : ℕ) (one other : Result Answer FaultKind)
      → IsAlike life one other
      → IsAnsweredAlike life (or_refusal life number one) (or_refusal life number other)
  refusal-alike life number (Ok answer) (Ok other) alike =
      record {
        goes_on = alike.goes_on;
        same_life = alike.same_life;
        same = λ runs. ap (or_refusal life number) (alike.same runs);
      }
  refusal-alike life number (Ok answer) (Err kind) alike =
      record {
        goes_on = alike.goes_on;
        same_life = alike.same_life;
        same = λ runs. ap (or_refusal life number) (alike.same runs);
      }
  refusal-alike life number (Err kind) other alike =
      let same = ap (or_refusal life number) (alike.same tt) in
      record {
        goes_on = goes-nowhere life;
        same_life = ap (λ (answer : Answer). answer.life) same;
        same = λ runs. same;
      }

  pub answered-alike : (life : Life) (number : ℕ) (line : Option (List ℕ))
      → IsAnsweredAlike life (or_refusal life number (answer_to left life line))
      (or_refusal life number (answer_to right life line))
  answered-alike life number line =
      refusal-alike life number (answer_to left life line) (answer_to right life line)
      (line-alike life line)

-- the life behind lines is that of any device
life-same : (left right : Start) (lines : List (List ℕ))
    → (talk_of left lines).life ≡ (talk_of right lines).life
life-same left right [] = refl
life-same left right (line ∷ earlier) =
    let number : ℕ = suc (length earlier) in
    (answered-alike left right (talk_of left earlier).life number (short_line line)).same_life
    ∙ ap
    (λ (life : Life). (or_refusal life number (answer_to right life (short_line line))).life)
    (life-same left right earlier)

module _ (words : List ℕ) (start : Start) where
  -- these words begin with those that were released in all steps of a life
  abbrev IsReleased : Life → Type 0
  IsReleased life = Released words (lived_run start life) life.steps

  released-earlier : (life later : Life) → GoesOn life later → IsReleased later → IsReleased life
  released-earlier life later goes released =
      subst (λ (play : Play). (more : List ℕ) × (words ≡ released_words start play ++ more))
      goes.play
      (released_before words (lived_run start later) later.steps life.steps goes.steps released)

  abbrev IsReleasedBehind : List (List ℕ) → Type 0
  IsReleasedBehind lines = IsReleased (talk_of start lines).life

  abbrev answered : (line : List ℕ) (earlier : List (List ℕ))
      → IsAnsweredAlike start (open_start words start) (talk_of start earlier).life
      (or_refusal (talk_of start earlier).life (suc (length earlier))
      (answer_to start (talk_of start earlier).life (short_line line)))
      (or_refusal (talk_of start earlier).life (suc (length earlier))
      (answer_to (open_start words start) (talk_of start earlier).life (short_line line)))
  answered line earlier =
      answered-alike start (open_start words start) (talk_of start earlier).life
      (suc (length earlier)) (short_line line)

  released-shorter : (line : List ℕ) (earlier : List (List ℕ)) → IsReleasedBehind (line ∷ earlier)
      → IsReleasedBehind earlier
  released-shorter line earlier released =
      released-earlier (talk_of start earlier).life (talk_of start (line ∷ earlier)).life
      (answered line earlier).goes_on released

  released-behind : (newest : ℕ) (lines : List (List ℕ)) → IsReleasedBehind lines
      → IsReleasedBehind (drop newest lines)
  released-behind zero lines released = released
  released-behind (suc newest) [] released = released
  released-behind (suc newest) (line ∷ earlier) released =
      released-behind newest earlier (released-shorter line earlier released)

  talk-same : (lines : List (List ℕ)) → IsReleasedBehind lines
      → talk_of start lines ≡ talk_of (open_start words start) lines
  talk-same [] released = refl
  talk-same (line ∷ earlier) released =
      let talk : Talk = talk_of start earlier in
      let life : Life = (talk_of start (line ∷ earlier)).life in
      let runs = same_without_key words (lived_run start life) life.steps released in
      ap (λ (answer : Answer). with_answer talk answer) ((answered line earlier).same runs)
      ∙ ap
      (λ (now : Talk).
      talk_with_line (open_start words start) now (suc (length earlier)) line)
      (talk-same earlier (released-shorter line earlier released))

  one_talk : (lines : List (List ℕ)) → IsReleasedBehind lines
      → IsOneTalk start (open_start words start) lines
  one_talk lines released =
      let talk : Talk = talk_of start lines in
      let runs = same_without_key words (lived_run start talk.life) talk.life.steps released in
      let same = talk-same lines released in
      record {
        talk = same;
        whole =
            ap (λ (end : Bytes). talk.text ++ end)
            (standing-same start (open_start words start) (codes "end") talk.life runs)
            ∙ ap
            (λ (now : Talk).
            now.text ++ standing_line (codes "end") (open_start words start) now.life)
            same;
      }

pub answers-keyless : (start : Start) (lines : List (List ℕ)) (more : List ℕ)
    → AnswersAlike start (keyless start (lived_behind start lines) more) lines
answers-keyless start lines more newest =
    let words : List ℕ = released_words start (lived_behind start lines) ++ more in
    one_talk words start (drop newest lines)
    (released-behind words start newest lines (more, refl))

-- two starts have one talk where both have that of a third
both-one : (left right third : Start) (lines : List (List ℕ)) → IsOneTalk left third lines
    → IsOneTalk right third lines → IsOneTalk left right lines
both-one left right third lines of_left of_right =
    record {
      talk = of_left.talk ∙ sym of_right.talk;
      whole = of_left.whole ∙ sym of_right.whole;
    }

pub answers-alike : (left right : Start) (lines : List (List ℕ)) → SameButKey left right
    → ReleaseAlike left right (lived_behind left lines) → AnswersAlike left right lines
answers-alike left right lines same agree newest =
    let play : Play = lived_behind left lines in
    let one = one_keyless left right play same agree in
    let of_right = subst
    (λ (life : Life).
    IsOneTalk right (keyless right (play_lived life) one.after_right) (drop newest lines))
    (life-same right left lines)
    (answers-keyless right lines one.after_right newest) in
    both-one left right (keyless right play one.after_right) (drop newest lines)
    (subst (λ (third : Start). IsOneTalk left third (drop newest lines)) one.same
    (answers-keyless left lines one.after_left newest))
    of_right
