-- A play before a watcher: what was said of the steps so far, and what is still to come.
use Rattle.std.{proofs.{Common.{◌≡◌, ◌≤◌, ◌<◌, ◌+◌, ◌-◌, ◌++◌, ◌∙◌, [], ℕ, zero, suc, Bool, List, Result, Ok, Err, refl, sym, ap, subst, arith, append_assoc, append-nil, true, false, ◌∷◌, length, ⊎_elim, Some}, lemmas.Bool.{cases_lt, false_from_ne_true, false≢true}}, specs.Prelude.{Contains, IsErrAnd}}
use Rattle.device_types.specs.{Address.{Bytes, Contents}, declared.{event.Event.Event, bounds.Bounds.Bounds}, TraceFlag.Flag, Report.ReportFields, ExecFlag.SeenHistory}
use Rattle.hmac_core.specs.Hash.{Hash}
use Rattle.outside_edge.{specs.Sink.{Takes, TakesPrefix}, proofs.SinkLemmas.{prefix_after, prefix_of_more, takes_both}}
use Rattle.device_trace.specs.{Trace.{Play, play_of, trace}, Start.{Start, with_key}, RegionRun.{TrustedRun, WholeRun}, Text.last_report}
use Rattle.play_script.specs.declared.playback.Playback.{Playback}
use Rattle.device_core.{specs.{Device.{LiveStandsFor, steps_made}, Quiet.Question, declared.live.Live.Live, Silence.{OfEach, is_silent, with_idle}}, proofs.Outside.keeps-counter}
use Rattle.device_play.specs.{Account.{Account, GoesOn, IsPassed, whole_text}, Cuts.TakesSuch, Midway.{HasGoneOn, IsMidway}, Watching.{HasSeen, IsShown, IsWatched}, declared.put_fault.PutFault.{PutFault, TheVariants.{Write, Memory}}, PlayLaws.{IsLawfulReport, IsLawfulMoment, KeepsKeyHidden, ObeysLaws}}
use Rattle.part_definitions.specs.{Hmac.Digest, Request.ATTESTS}
use Rattle.trace_facts.proofs.{NeverBroken.trace-names_neither, LastReport.last_report-made, SoundPlay.trace-in_call}
use Rattle.key_isolation.proofs.TwoKeys.{looks_keyless}
use Rattle.mac_coverage.{specs.Coverage.{IsDeviceKey, IsOfBytes, MacCoversCall}, proofs.Plays.{last_report-finishes, mac_covers_call, some_same}}
use Rattle.proof_of_execution.proofs.Plays.{decision-whole_run}
use Rattle.request_freshness.proofs.Reports.{report-new}
use Rattle.trusted_execution.proofs.StillTime.{decision-trusted_run}

-- A play obeys the laws of the device.

pub keeps_key_hidden : (start : Start) (play : Play) → KeepsKeyHidden start play
keeps_key_hidden start play = λ later earlier parts. looks_keyless start earlier

lawful_moment : (flag : SeenHistory → Bool) (digest : Digest) (key : Bytes) (image : Contents)
    (play : Play) → IsDeviceKey key → IsOfBytes image
    → IsLawfulMoment digest key (with_key flag digest key image) play
lawful_moment flag digest key image play device_key bytes =
    let start : Start = with_key flag digest key image in
    record {
      call = mac_covers_call flag digest key image play device_key bytes;
      whole_run = decision-whole_run start play;
      trusted_run = λ is_aux. decision-trusted_run start play is_aux;
      counter = keeps-counter flag digest key image play device_key bytes;
    }

-- a report at a lawful moment
pub lawful_report : (digest : Digest) (key : Bytes) (start : Start) (play : Play)
    (report : ReportFields) → IsLawfulMoment digest key start play
    → last_report start play ≡ Some report
    → IsLawfulReport digest key start report play
lawful_report digest key start play report moment is =
    let made = last_report-finishes start play report is in
    let same = (last_report-made start play report is).same in
    let covers : MacCoversCall digest key start play = moment.call made.in_call in
    record {
      contents = covers.contents;
      throughout = λ later earlier parts within.
          covers.throughout later earlier parts within
          (λ refuses. absurd (false≢true (sym made.refused ∙ refuses)));
      tag = λ gives.
          made.mac
          ∙ covers.stored made.finished
          (some_same (sym (covers.told made.finished) ∙ made.attests)) gives;
      whole_run = λ set.
          subst (λ (bounds : Bounds). WholeRun bounds (trace start play))
          (ap (λ (r : ReportFields). r.bounds) same)
          (moment.whole_run ATTESTS made.attests (ap (λ (r : ReportFields). r.exec) same ∙ set));
      trusted_run = λ is_aux set.
          subst (λ (bounds : Bounds). TrustedRun bounds (trace start play))
          (ap (λ (r : ReportFields). r.bounds) same)
          (moment.trusted_run is_aux ATTESTS made.attests
          (ap (λ (r : ReportFields). r.aux) same ∙ set));
    }

pub obeys_laws : (flag : SeenHistory → Bool) (digest : Digest) (key : Bytes) (image : Contents)
    (play : Play) → IsDeviceKey key → IsOfBytes image
    → ObeysLaws digest key (with_key flag digest key image) play
obeys_laws flag digest key image play device_key bytes =
    let start : Start = with_key flag digest key image in
    record {
      moments = λ later earlier parts.
          lawful_moment flag digest key image earlier device_key bytes;
      fresh = λ later earlier parts report.
          report-new flag digest key image earlier report device_key bytes;
      rules = trace-names_neither start play;
      rom = trace-in_call start play;
    }

-- the same of a start that is one of a device with this key
pub obeys_laws_with : (flag : SeenHistory → Bool) (digest : Digest) (start : Start) (play : Play)
    (key : Bytes) (image : Contents) → IsDeviceKey key → IsOfBytes image
    → start ≡ with_key flag digest key image
    → ObeysLaws digest key start play
obeys_laws_with flag digest start play key image device_key bytes same =
    rw same (obeys_laws flag digest key image play device_key bytes)

-- A play whose next steps have no events.

pub length-play_of :
    (events_at : ℕ → List Event) (steps : ℕ) → length (play_of events_at steps) ≡ steps
length-play_of events_at zero = refl
length-play_of events_at (suc steps) = ap suc (length-play_of events_at steps)

pub idle-play :
    (events_at : ℕ → List Event) (from until more : ℕ)
    → until ≡ more + from
    → ((step : ℕ) → from ≤ step → step < until → events_at step ≡ [])
    → with_idle more (play_of events_at from) ≡ play_of events_at until
idle-play events_at from until zero sum none =
    let same : from ≡ until = omega arith in ap (play_of events_at) same
idle-play events_at from until (suc more) sum none =
    let same : until ≡ suc (more + from) = omega arith in
    let earlier = idle-play events_at from (more + from) more refl
    (λ step after below. none step after (omega arith)) in
    let here : events_at (more + from) ≡ [] = none (more + from) (omega arith) (omega arith) in
    rw (same, earlier, here) refl

-- what holds with each of the first so many of such steps
each-at :
    (holds : Play → Type 0) (play : Play) (steps step : ℕ)
    → OfEach holds steps play
    → step < steps
    → holds (with_idle step play)
each-at holds play zero step all below = absurd (omega arith)
each-at holds play (suc steps) step all below = ⊎_elim
    (λ less. each-at holds play steps step all.1 less)
    (λ over.
    let same : steps ≡ step = omega arith in
    subst (λ last. holds (with_idle last play)) same all.0)
    (cases_lt step steps)

-- where they are steps of a play
pub each-in-play :
    (holds : Play → Type 0) (events_at : ℕ → List Event) (from count : ℕ)
    → ((step : ℕ) → from ≤ step → step < count + from → events_at step ≡ [])
    → OfEach holds count (play_of events_at from)
    → (step : ℕ)
    → from ≤ step
    → step < count + from
    → holds (play_of events_at step)
each-in-play holds events_at from count none all step after below =
    subst holds
    (idle-play events_at from step (step - from) (omega arith)
    (λ one before earlier. none one before (omega arith)))
    (each-at holds (play_of events_at from) count (step - from) all (omega arith))

-- a watcher that is not shown every step is shown none of those that came before the last
pub gone-passed :
    {D G : Type 0} {hash : Hash D} {flag : Flag G} {every_step : Bool} {quiet : Question}
    {start : Start} {events_at : ℕ → List Event} {from : ℕ} {live : Live D G} {left : Playback}
    → HasGoneOn hash flag every_step quiet start events_at from live left
    → (step : ℕ)
    → from ≤ step
    → step + 1 < steps_made live
    → IsPassed every_step start (play_of events_at (suc step))
gone-passed {every_step = every_step} {start = start} {events_at = events_at} gone step after
    below =
    let (none, quiet) = gone.quietly step after below in
    let unshown : every_step ≡ false =
    false_from_ne_true every_step (λ shown. omega (arith, after, below, gone.alone shown)) in
    let silent : is_silent start (events_at step ∷ play_of events_at step) ≡ true =
    subst (λ events. is_silent start (events ∷ play_of events_at step) ≡ true) (sym none)
    quiet.silent in
    (unshown, silent)

-- what a watcher says goes on from step to step
abbrev pub AlwaysGoesOn : {T : Type 0} → Account T → Bool → Start → Type 0
AlwaysGoesOn account every_step start =
    (events : List Event) (play : Play) → GoesOn account every_step start events play

-- a tally of the first steps, and a sink that took their text
pub record IsUpTo {S T : Type 0} (stands : S → Bytes → Type 0) (account : Account T)
    (start : Start) (events_at : ℕ → List Event) (old new : S) (tally : T) (step : ℕ)
    : Type 0 where
  pub counted : account.tallies start (play_of events_at step) tally
  pub took : Takes stands old new (account.text start (play_of events_at step))

-- what is said of a play begins with what is said of a shorter one
record Extends {T : Type 0} (account : Account T) (start : Start) (shorter longer : Play)
    : Type 0 where
  rest : Bytes
  same_text : account.text start longer ≡ account.text start shorter ++ rest
  same_cuts : (cut : Bytes)
      → Contains (account.cuts start shorter) cut
      → Contains (account.cuts start longer) cut

extends :
    {T : Type 0} (account : Account T) (every_step : Bool) (start : Start)
    (events_at : ℕ → List Event) (more fewer steps : ℕ)
    → AlwaysGoesOn account every_step start
    → steps ≡ more + fewer
    → Extends account start (play_of events_at fewer) (play_of events_at steps)
extends account every_step start events_at zero fewer steps goes_on sum =
    let same : steps ≡ fewer = omega arith in
    rw same (record {
      rest = [];
      same_text = sym (append-nil (account.text start (play_of events_at fewer)));
      same_cuts = λ cut has. has;
    })
extends account every_step start events_at (suc more) fewer steps goes_on sum =
    let same : steps ≡ suc (more + fewer) = omega arith in
    let before : Play = play_of events_at (more + fewer) in
    let shorter = extends account every_step start events_at more fewer (more + fewer) goes_on refl
    in
    let next = goes_on (events_at (more + fewer)) before in
    let last : Bytes = account.step_text start (events_at (more + fewer)) before in
    rw same (record {
      rest = shorter.rest ++ last;
      same_text = next.same_text
          ∙ ap (λ (text : Bytes). text ++ last) shorter.same_text
          ∙ append_assoc (account.text start (play_of events_at fewer)) shorter.rest last;
      same_cuts = λ cut has. next.same_cuts cut (shorter.same_cuts cut has);
    })

-- after steps that are passed it is as before them
up-to-passed :
    {S T : Type 0} (stands : S → Bytes → Type 0) (account : Account T) (every_step : Bool)
    (start : Start) (events_at : ℕ → List Event) (old new : S) (tally : T) (more step until : ℕ)
    → AlwaysGoesOn account every_step start
    → until ≡ more + step
    → ((later : ℕ) → step ≤ later → later < until
    → IsPassed every_step start (play_of events_at (suc later)))
    → IsUpTo stands account start events_at old new tally step
    → IsUpTo stands account start events_at old new tally until
up-to-passed stands account every_step start events_at old new tally zero step until goes_on sum
    passed is =
    let same : until ≡ step = omega arith in rw same is
up-to-passed stands account every_step start events_at old new tally (suc more) step until goes_on
    sum passed is =
    let same : until ≡ suc (more + step) = omega arith in
    let before = up-to-passed stands account every_step start events_at old new tally more step
    (more + step) goes_on refl (λ later from below. passed later from (omega arith)) is in
    let play : Play = play_of events_at (more + step) in
    let here = passed (more + step) (omega arith) (omega arith) in
    let next = goes_on (events_at (more + step)) play in
    rw same (record {
      counted = next.same_tally tally here before.counted;
      took = rw (next.same_text, next.no_text here, append-nil) before.took;
    })

-- the same number of steps
pub at-count :
    {D G : Type 0} {hash : Hash D} {flag : Flag G} {start : Start} {one other : ℕ} (live : Live D G)
    (events_at : ℕ → List Event)
    → one ≡ other → LiveStandsFor hash flag live start (play_of events_at one)
    → LiveStandsFor hash flag live start (play_of events_at other)
at-count {hash} {flag} {start} live events_at same stands =
    subst (λ play. LiveStandsFor hash flag live start play)
    (ap (play_of events_at) same) stands

-- a device in the middle of a play, and a watcher that is up to it
pub record IsUnderWay {D G S T : Type 0} (hash : Hash D) (flag : Flag G)
    (stands : S → Bytes → Type 0) (account : Account T) (start : Start)
    (events_at : ℕ → List Event) (old new : S) (live : Live D G) (playback : Playback) (tally : T)
    : Type 0 where
  pub midway : IsMidway hash flag start events_at live playback
  pub up_to : IsUpTo stands account start events_at old new tally (steps_made live)

-- a device after a step, and a watcher before that step
pub record IsToSee {D G S T : Type 0} (hash : Hash D) (flag : Flag G)
    (stands : S → Bytes → Type 0) (account : Account T) (start : Start)
    (events_at : ℕ → List Event) (old new : S) (live : Live D G) (tally : T) (step : ℕ)
    : Type 0 where
  pub made : steps_made live ≡ suc step
  pub shown : IsShown hash flag account live tally step start (events_at step)
      (play_of events_at step)
  pub up_to : IsUpTo stands account start events_at old new tally step

-- so it is where the device has gone on from the steps that were seen
pub gone-to-see :
    {D G S T : Type 0} {hash : Hash D} {flag : Flag G} {stands : S → Bytes → Type 0}
    {account : Account T} {every_step : Bool} {quiet : Question} {start : Start}
    {events_at : ℕ → List Event} {old new : S} {before live : Live D G}
    {playback left : Playback} {tally : T} {step : ℕ}
    → AlwaysGoesOn account every_step start
    → steps_made live ≡ suc step → steps_made before ≤ step
    → IsUnderWay hash flag stands account start events_at old new before playback tally
    → HasGoneOn hash flag every_step quiet start events_at (steps_made before) live left
    → IsToSee hash flag stands account start events_at old new live tally step
gone-to-see {stands} {account} {every_step} {start} {events_at} {old} {new} {before} {live} {tally}
    {step} goes_on made within is gone =
    let up_to = up-to-passed stands account every_step start events_at old new tally
    (step - steps_made before) (steps_made before) step goes_on (omega arith)
    (λ later from below. gone-passed gone later from (omega (arith, made))) is.up_to in
    record {
      made = made;
      shown = record {
        device = at-count live events_at made gone.midway.stands;
        number = sym (length-play_of events_at step);
        counted = up_to.counted;
      };
      up_to = up_to;
    }

-- one more step that was seen
pub seen-under_way :
    {D G S T V : Type 0} {hash : Hash D} {flag : Flag G} {stands : S → Bytes → Type 0}
    {account : Account T} {every_step : Bool} {start : Start} {events_at : ℕ → List Event}
    {old mid new : S} {live : Live D G} {playback : Playback} {tally more : T} {step : ℕ}
    {value : V}
    → AlwaysGoesOn account every_step start
    → IsToSee hash flag stands account start events_at old mid live tally step
    → HasSeen stands account mid new more start (events_at step) (play_of events_at step)
    (Ok value)
    → IsMidway hash flag start events_at live playback
    → IsUnderWay hash flag stands account start events_at old new live playback more
seen-under_way {stands} {account} {start} {events_at} {old} {mid} {new} {step} goes_on to seen
    midway =
    let play : Play = play_of events_at step in
    record {
      midway = midway;
      up_to = rw to.made (record {
        counted = seen.counted;
        took = rw (goes_on (events_at step) play).same_text
            (takes_both stands old mid new (account.text start play)
            (account.step_text start (events_at step) play) to.up_to.took seen.puts.all);
      });
    }

-- a play whose watcher stopped
pub watched-failed :
    {D G S T : Type 0} {hash : Hash D} {flag : Flag G} {stands : S → Bytes → Type 0}
    {account : Account T} {old new : S} {start : Start} {play : Play} {fault : PutFault}
    (result : Result (Live D G × T) PutFault)
    → IsErrAnd result (λ error. error ≡ fault)
    → TakesPrefix stands old new (whole_text account start play)
    → (fault ≡ Memory → TakesSuch stands old new (Contains (account.cuts start play)))
    → IsWatched hash flag stands account old new start play result
watched-failed (Ok value) is prefix memory = absurd is
watched-failed {hash} {flag} {start} {play} (Err error) is prefix memory =
    record {
      device = tt;
      counted = tt;
      puts = record { all = tt; prefix = prefix };
      memory = λ here. memory (sym is ∙ here);
      hides_key = keeps_key_hidden start play;
      laws = obeys_laws_with flag.value hash.digest_of start play;
    }

-- and one that was made to its end
pub watched-all :
    {D G S T : Type 0} {hash : Hash D} {flag : Flag G} {stands : S → Bytes → Type 0}
    {account : Account T} {old new : S} {start : Start} {play : Play} {live : Live D G} {tally : T}
    (mid : S)
    → LiveStandsFor hash flag live start play
    → account.tallies start play tally
    → Takes stands old mid (account.text start play)
    → Takes stands mid new (account.end_text start play)
    → IsWatched hash flag stands account old new start play (Ok (live, tally))
watched-all {hash} {flag} {stands} {account} {old} {new} {start} {play} mid device counted took
    end =
    record {
      device = device;
      counted = counted;
      puts = record {
        all = takes_both stands old mid new (account.text start play)
            (account.end_text start play) took end;
        prefix = tt;
      };
      memory = tt;
      hides_key = keeps_key_hidden start play;
      laws = obeys_laws_with flag.value hash.digest_of start play;
    }

-- before its first step
pub begin-failed :
    {D G S T : Type 0} {hash : Hash D} {flag : Flag G} {stands : S → Bytes → Type 0}
    {account : Account T} {every_step : Bool} {old new : S} {start : Start}
    (events_at : ℕ → List Event) (steps : ℕ) (result : Result (Live D G × T) PutFault)
    → AlwaysGoesOn account every_step start
    → IsErrAnd result (λ error. error ≡ Write)
    → TakesPrefix stands old new (account.text start [])
    → IsWatched hash flag stands account old new start (play_of events_at steps) result
begin-failed {stands} {account} {every_step} {old} {new} {start} events_at steps result goes_on is
    prefix =
    let longer = extends account every_step start events_at steps 0 steps goes_on (omega arith) in
    let play : Play = play_of events_at steps in
    watched-failed result is
    (prefix_of_more stands old new (account.text start play) (account.end_text start play)
    (rw longer.same_text
    (prefix_of_more stands old new (account.text start []) longer.rest prefix)))
    (λ memory. absurd (cc memory))

-- at a step
pub see-failed :
    {D G S T V : Type 0} {hash : Hash D} {flag : Flag G} {stands : S → Bytes → Type 0}
    {account : Account T} {every_step : Bool} {old mid new : S} {start : Start}
    {events_at : ℕ → List Event} {tally more : T} {step steps : ℕ} {fault : PutFault}
    (result : Result (Live D G × T) PutFault)
    → AlwaysGoesOn account every_step start
    → IsErrAnd result (λ error. error ≡ fault)
    → step + 1 ≤ steps
    → IsUpTo stands account start events_at old mid tally step
    → HasSeen {V = V} stands account mid new more start (events_at step) (play_of events_at step)
    (Err fault)
    → IsWatched hash flag stands account old new start (play_of events_at steps) result
see-failed {stands} {account} {every_step} {old} {mid} {new} {start} {events_at} {step} {steps}
    result goes_on is within up_to seen =
    let here : Play = play_of events_at step in
    let play : Play = play_of events_at steps in
    let longer = extends account every_step start events_at (steps - suc step) (suc step) steps
    goes_on (omega (arith, within)) in
    let next = goes_on (events_at step) here in
    let last : Bytes = account.step_text start (events_at step) here in
    watched-failed result is
    (prefix_of_more stands old new (account.text start play) (account.end_text start play)
    (rw (longer.same_text, next.same_text)
    (prefix_of_more stands old new (account.text start here ++ last) longer.rest
    (prefix_after stands old mid new (account.text start here) last up_to.took seen.puts.prefix))))
    (λ memory.
    let such = seen.memory memory in (
      account.text start here ++ such.0,
      longer.same_cuts (account.text start here ++ such.0) such.1,
      takes_both stands old mid new (account.text start here) such.0 up_to.took such.2,
    ))

-- after its last step
pub end-failed :
    {D G S T : Type 0} {hash : Hash D} {flag : Flag G} {stands : S → Bytes → Type 0}
    {account : Account T} {old new : S} {start : Start} {play : Play} (mid : S)
    (result : Result (Live D G × T) PutFault)
    → IsErrAnd result (λ error. error ≡ Write)
    → Takes stands old mid (account.text start play)
    → TakesPrefix stands mid new (account.end_text start play)
    → IsWatched hash flag stands account old new start play result
end-failed {stands} {account} {old} {new} {start} {play} mid result is took prefix =
    watched-failed result is
    (prefix_after stands old mid new (account.text start play) (account.end_text start play) took
    prefix)
    (λ memory. absurd (cc memory))
