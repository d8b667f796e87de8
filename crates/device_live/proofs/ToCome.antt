-- What a device that lives keeps of what is to come.
use Rattle.std.{proofs.Common.{◌≡◌, ◌≤◌, ◌∙◌, ◌++◌, ℕ, true, false, List, Ok, Err, refl, ap, sym, arith}, specs.Prelude.nat_lt}
use Rattle.device_types.specs.{TraceFlag.Flag, declared.event.Event.Event}
use Rattle.hmac_core.specs.Hash.{Hash}
use Rattle.play_script.{specs.{Grammar.{ScriptSoFar, timed_events, with_entry}, Script.{TimedEvent, events_of, from_step}}, proofs.Passing.events_from}
use Rattle.text_scan.specs.{declared.{fault_kind.FaultKind.{FaultKind, TheVariants.Order}, word_fault.WordFault.TheVariants.Kind}}
use Rattle.device_trace.specs.Start.{Start}
use Rattle.device_live.{specs.{Life.Life, Living.{KeepsToCome, LivingStandsFor, TakesHappening}, declared.living.Living.Living}, proofs.{Lives.entry-lived, ToldPlay.events_of-append}}

-- once more steps were made, what comes before them may be let go
pub keeps-later : (kept : List TimedEvent) (life : Life) (steps : ℕ) → life.steps ≤ steps
    → KeepsToCome kept life
    → KeepsToCome (from_step steps kept) (record life { steps = steps })
keeps-later kept life steps before keeps = λ step after.
    events_from kept steps step after ∙ keeps step (omega (arith, before, after))

-- a script with one entry more
abbrev pub with_more : ScriptSoFar → ℕ → List Event → ScriptSoFar
with_more so_far step events =
    record { events = so_far.events ++ timed_events (step, events); greatest = step }

keeps-more : (kept : List TimedEvent) (life : Life) (step : ℕ) (events : List Event)
    → KeepsToCome kept life
    → KeepsToCome (kept ++ timed_events (step, events))
    (record life { script = with_more life.script step events })
keeps-more kept life step events keeps = λ later after.
    events_of-append kept (timed_events (step, events)) later
    ∙ ap (λ (earlier : List Event). earlier ++ events_of (timed_events (step, events)) later)
    (keeps later after)
    ∙ sym (events_of-append life.script.events (timed_events (step, events)) later)

entry-fits : (so_far : ScriptSoFar) (step : ℕ) (events : List Event)
    → nat_lt step so_far.greatest ≡ false
    → with_entry so_far (step, events) ≡ Ok (with_more so_far step events)
entry-fits so_far step events on = rw on refl

entry-late : (so_far : ScriptSoFar) (step : ℕ) (events : List Event)
    → nat_lt step so_far.greatest ≡ true
    → with_entry so_far (step, events) ≡ Err Order
entry-late so_far step events late = rw late refl

module _ {D G : Type 0} (hash : Hash D) (flag : Flag G) (old new : Living D G) (start : Start)
    (life : Life) (step : ℕ) (events : List Event) where
  -- in a step that was made already
  pub made-refused : LivingStandsFor hash flag old start life
      → nat_lt step life.steps ≡ true
      → TakesHappening hash flag old start life step events (Err (Kind Order))
  made-refused stands late = (rw late refl, stands)

  -- or before what an earlier line said
  pub late-refused : LivingStandsFor hash flag old start life
      → nat_lt step life.steps ≡ false
      → nat_lt step life.script.greatest ≡ true
      → TakesHappening hash flag old start life step events (Err (Kind Order))
  late-refused stands on late = (rw (on, entry-late life.script step events late) refl, stands)

  -- an entry of the script that fits
  pub entry-taken : LivingStandsFor hash flag old start life
      → nat_lt step life.steps ≡ false
      → nat_lt step life.script.greatest ≡ false
      → new.live ≡ old.live → new.latest ≡ step
      → with_entry old.to_come (step, events) ≡ Ok new.to_come
      → TakesHappening hash flag new start life step events (Ok tt)
  entry-taken stands on fits same_live latest takes =
      let script : ScriptSoFar = with_more life.script step events in
      let entry : with_entry life.script (step, events) ≡ Ok script =
      entry-fits life.script step events fits in
      let same : new.to_come ≡ with_more old.to_come step events =
      cc (takes, entry-fits old.to_come step events (rw (← stands.greatest) at fits)) in (
        record life { script = script },
        rw (on, entry) refl,
        record {
          live = stands.live;
          there = same_live ∙ stands.there;
          stands = rw (entry-lived life script step events on entry) stands.stands;
          to_come = rw same (keeps-more old.to_come.events life step events stands.to_come);
          latest = latest;
          greatest = rw same refl;
        },
      )

  -- such an entry has no fault
  pub entry-sound : (kind : FaultKind) → LivingStandsFor hash flag old start life
      → nat_lt step life.script.greatest ≡ false
      → with_entry old.to_come (step, events) ≡ Err kind → ⊥
  entry-sound kind stands fits fails =
      cc (fails, entry-fits old.to_come step events (rw (← stands.greatest) at fits))
