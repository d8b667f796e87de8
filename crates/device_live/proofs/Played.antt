-- A life that is played on, and what is put of its steps.
use Rattle.std.proofs.{Common.{◌≡◌, ◌≤◌, ◌<◌, ◌+◌, ◌-◌, ◌∙◌, ◌++◌, ◌∷◌, [], ℕ, zero, suc, false, List, Result, Ok, Err, IsErr, refl, ap, sym, arith, append-nil}, lemmas.Bool.false≢true}
use Rattle.device_types.specs.{Address.Bytes, TraceFlag.Flag, declared.event.Event.Event}
use Rattle.hmac_core.specs.Hash.{Hash}
use Rattle.outside_edge.{specs.Sink.{Takes, TakesPrefix}, proofs.SinkLemmas.{prefix_after, prefix_of_more, takes_both}}
use Rattle.device_trace.specs.{Start.Start, Text.lines_of_step, Trace.play_of}
use Rattle.play_script.specs.{Playback.events_left, declared.playback.Playback.Playback}
use Rattle.device_core.specs.{Device.{LiveStandsFor, steps_made}, Quiet.Question, declared.live.Live.Live}
use Rattle.device_play.{specs.{Account.IsPassed, Midway.{HasGoneOn, IsMidway}}, proofs.{GoesOn.lines-go_on, WatchedPlay.{gone-passed, length-play_of, at-count}}}
use Rattle.device_live.{specs.{Life.{Life, events_in, lines_since, play_lived}, Living.PlaysOn}, proofs.ToldPlay.since-between}

-- steps that are passed have no lines
passed-lines : (start : Start) (events_at : ℕ → List Event) (made more : ℕ)
    → ((step : ℕ) → made ≤ step → step < more + made
    → IsPassed false start (play_of events_at (suc step)))
    → lines_since start events_at made more ≡ []
passed-lines start events_at made zero passed = refl
passed-lines start events_at made (suc more) passed =
    let earlier = passed-lines start events_at made more
    (λ step after below. passed step after (omega (arith, below))) in
    let play = play_of events_at (more + made) in
    let none = (lines-go_on start (events_at (more + made)) play).no_text
    (passed (more + made) (omega arith) (omega arith)) in
    rw (earlier, none) refl

-- up to a step that is shown, and its line
shown-lines : (start : Start) (events_at : ℕ → List Event) (from made step : ℕ)
    → from ≤ made → made ≤ step
    → ((later : ℕ) → made ≤ later → later < step
    → IsPassed false start (play_of events_at (suc later)))
    → lines_since start events_at from (suc step - from)
    ≡ lines_since start events_at from (made - from)
    ++ lines_of_step start (events_at step) (play_of events_at step)
shown-lines start events_at from made step before after passed =
    let less : suc step - made ≡ suc (step - made) = omega (arith, after) in
    let same : (step - made) + made ≡ step = omega (arith, after) in
    let none = passed-lines start events_at made (step - made)
    (λ later from_made below. passed later from_made (omega (arith, below, same))) in
    since-between start events_at from made (suc step) before (omega (arith, after))
    ∙ ap (λ (text : Bytes). lines_since start events_at from (made - from) ++ text)
    (rw (less, none, same) refl)

-- a device on its way through a life, and a sink that took the lines of the steps that it made
pub record IsOnWay {D G S : Type 0} (hash : Hash D) (flag : Flag G) (stands : S → Bytes → Type 0)
    (old new : S) (live : Live D G) (playback : Playback) (start : Start) (life : Life) (steps : ℕ)
    : Type 0 where
  pub midway : IsMidway hash flag start (events_in life) live playback
  pub from : life.steps ≤ steps_made live
  pub within : steps_made live ≤ steps
  pub took : Takes stands old new
      (lines_since start (events_in life) life.steps (steps_made live - life.steps))

module _ {D G S : Type 0} (hash : Hash D) (flag : Flag G) (stands : S → Bytes → Type 0)
    (start : Start) (life : Life) (steps : ℕ) where
  pub begins : (now : S) (live : Live D G) (playback : Playback)
      → LiveStandsFor hash flag live start (play_lived life)
      → ((step : ℕ) → life.steps ≤ step → events_left playback step ≡ events_in life step)
      → life.steps ≤ steps
      → IsOnWay hash flag stands now now live playback start life steps
  begins now live playback stood left before =
      let made : life.steps ≡ steps_made live =
      sym (stood.same_steps ∙ length-play_of (events_in life) life.steps) in
      let none : steps_made live - life.steps ≡ 0 = omega (arith, made) in
      record {
        midway = record {
          stands = at-count live (events_in life) made stood;
          left = λ later after. left later (omega (arith, made, after));
        };
        from = omega (arith, made);
        within = omega (arith, made, before);
        took = λ earlier holds. rw (none, append-nil earlier) holds;
      }

  module _ {quiet : Question} {old mid : S} {live next : Live D G} {playback left : Playback}
      (step : ℕ)
      (way : IsOnWay hash flag stands old mid live playback start life steps)
      (gone : HasGoneOn hash flag false quiet start (events_in life) (steps_made live) next left)
      (more : steps_made live < steps_made next) (made : suc step ≡ steps_made next)
      (within : steps_made next ≤ steps) where
    -- the step that is shown
    pub shown-device : LiveStandsFor hash flag next start
        (events_in life step ∷ play_of (events_in life) step)
    shown-device = at-count next (events_in life) (sym made) gone.midway.stands

    abbrev line : Bytes
    line = lines_of_step start (events_in life step) (play_of (events_in life) step)

    lines-so_far : lines_since start (events_in life) life.steps (suc step - life.steps)
        ≡ lines_since start (events_in life) life.steps (steps_made live - life.steps) ++ line
    lines-so_far =
        shown-lines start (events_in life) life.steps (steps_made live) step way.from
        (omega (arith, more, made)) (λ later after below. gone-passed gone later after
        (omega (arith, made, below)))

    -- its line was put
    pub goes-on : {new : S} → Takes stands mid new line
        → IsOnWay hash flag stands old new next left start life steps
    goes-on {new} put =
        record {
          midway = gone.midway;
          from = omega (arith, way.from, more);
          within = within;
          took = rw (← made, lines-so_far)
              (takes_both stands old mid new
              (lines_since start (events_in life) life.steps (steps_made live - life.steps)) line
              way.took put);
        }

    -- or a prefix of it
    pub stops : {new : S} → TakesPrefix stands mid new line
        → TakesPrefix stands old new
        (lines_since start (events_in life) life.steps (steps - life.steps))
    stops {new} prefix =
        let told : Bytes =
        lines_since start (events_in life) life.steps (steps_made live - life.steps) in
        rw (
          since-between start (events_in life) life.steps (suc step) steps
              (omega (arith, way.from, more, made)) (omega (arith, made, within)),
          lines-so_far,
        )
        (prefix_of_more stands old new (told ++ line)
        (lines_since start (events_in life) (suc step) (steps - suc step))
        (prefix_after stands old mid new told line way.took prefix))

  -- all steps were made
  pub ends : (E : Type 0) {old new : S} (live : Live D G) (playback : Playback)
      → IsOnWay hash flag stands old new live playback start life steps
      → steps ≤ steps_made live
      → PlaysOn {E = E} hash flag stands old new start life steps (Ok live)
  ends E live playback way all =
      let same : steps_made live ≡ steps = omega (arith, way.within, all) in (
        at-count live (events_in life) same way.midway.stands,
        rw (← same) way.took,
      )

  -- the call that puts a line has failed
  pub fails : {E : Type 0} {old new : S} (result : Result (Live D G) E) → IsErr result
      → TakesPrefix stands old new
      (lines_since start (events_in life) life.steps (steps - life.steps))
      → PlaysOn hash flag stands old new start life steps result
  fails (Ok live) is prefix = absurd (false≢true is)
  fails (Err error) is prefix = prefix
