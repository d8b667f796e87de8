-- The isolation of the key, by induction on the play.
use Rattle.std.proofs.Common.{◌≡◌, ℕ, List, [], ◌∷◌, ◌++◌, refl, ap, sym, ◌∙◌, append_assoc}
use Rattle.device_types.specs.declared.event.Event.{Event}
use Rattle.device_trace.specs.{Trace.{Play, next_logs, logs_after, trace}, Blank.blank, Logs.{Logs, with_events, with_record}, Start.Start, Step.next_record}
use Rattle.trace_facts.proofs.SoundPlay.{logs_after-sound}
use Rattle.key_isolation.proofs.{Hiding.{open_start, hide}, LogsBlank.{step_hides, released_words_after-more}}

pub record PlayHides (start : Start) (free : List ℕ) (play : Play) : Type 0 where
  pub history : blank (trace start play) ≡ trace (open_start free start) play
  pub logs : hide (logs_after start play) ≡ logs_after (open_start free start) play

-- a step only adds to the released words
next_released : (start : Start) (logs : Logs) (events : List Event)
    → (more : List ℕ) × ((next_logs start logs events).released_words ≡ logs.released_words ++ more)
unfolding with_record with_events
next_released start logs events =
    released_words_after-more (next_record start logs events).reset
    (next_record start logs events).kind
    (next_record start logs events).cpu logs.released_words

-- so what is released after the step begins with what was released before it
pub releases_before : (start : Start) (free more : List ℕ) (logs : Logs) (events : List Event)
    → free ≡ (next_logs start logs events).released_words ++ more
    → (rest : List ℕ) × (free ≡ logs.released_words ++ rest)
releases_before start free more logs events split =
    let adds = next_released start logs events in (
      adds.0 ++ more,
      split ∙ (ap (λ (words : List ℕ). words ++ more) adds.1
          ∙ append_assoc logs.released_words adds.0 more),
    )

pub play_hides : (start : Start) (free : List ℕ) (play : Play) (more : List ℕ)
    → free ≡ (logs_after start play).released_words ++ more → PlayHides start free play
unfolding trace logs_after
play_hides start free [] more split = record { history = refl; logs = refl }
play_hides start free (events ∷ play) more split =
    let logs : Logs = logs_after start play in
    let rest = releases_before start free more logs events split in
    let before = play_hides start free play rest.0 rest.1 in
    let step = step_hides start free more logs events (logs_after-sound start play) split in
    let opened : Start = open_start free start in
    record {
      history = λ i.
          (sym step.entry ∙ ap (λ (ls : Logs). next_record opened ls events) before.logs) i
          ∷ before.history i;
      logs = sym step.after ∙ ap (λ (ls : Logs). next_logs opened ls events) before.logs;
    }
