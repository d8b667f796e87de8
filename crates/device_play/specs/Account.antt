-- What a watcher says of plays.
use Rattle.std.specs.Prelude.{◌≡◌, ◌++◌, ◌∷◌, Bool, true, false, List, [], Contains}
use Rattle.device_types.specs.{Address.Bytes, declared.event.Event.Event}
use Rattle.device_trace.specs.{Trace.Play, Start.Start}
use Rattle.device_core.specs.Silence.{is_silent}

pub record Account (Tally : Type 0) : Type 1 where
  -- the tally is of this play
  pub tallies : Start → Play → Tally → Type 0
  -- what is put up to the last step of a play, what of it is of that step, and what comes behind
  pub text : Start → Play → Bytes
  pub step_text : Start → List Event → Play → Bytes
  pub end_text : Start → Play → Bytes
  -- the texts at which the putting may stop where memory runs out
  pub cuts : Start → Play → List Bytes

abbrev pub whole_text : {T : Type 0} → Account T → Start → Play → Bytes
whole_text account start play = account.text start play ++ account.end_text start play

-- a watcher that is not shown every step is not shown the last one of this play
abbrev pub IsPassed : Bool → Start → Play → Type 0
IsPassed every_step start play = (every_step ≡ false) × (is_silent start play ≡ true)

-- what is said of a play with one step more goes on from what is said of the play
pub record GoesOn {T : Type 0} (account : Account T) (every_step : Bool) (start : Start)
    (events : List Event) (play : Play) : Type 0 where
  pub same_text : account.text start (events ∷ play)
      ≡ account.text start play ++ account.step_text start events play
  pub same_cuts : (cut : Bytes)
      → Contains (account.cuts start play) cut
      → Contains (account.cuts start (events ∷ play)) cut
  -- and there is nothing to say of a step that is not shown
  pub no_text : IsPassed every_step start (events ∷ play)
      → account.step_text start events play ≡ []
  pub same_tally : (tally : T)
      → IsPassed every_step start (events ∷ play)
      → account.tallies start play tally
      → account.tallies start (events ∷ play) tally
