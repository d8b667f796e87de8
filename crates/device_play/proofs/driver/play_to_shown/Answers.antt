use Rattle.std.proofs.Common.{◌≡◌, ◌≤◌, ◌<◌, ◌+◌, ◌∙◌, ◌-◌, ◌∷◌, [], ℕ, suc, false, refl, sym, subst, arith, rules}
use Rattle.device_trace.specs.Trace.{Play, logs_after, play_of}
use Rattle.device_core.{specs.{Device.{LiveStandsFor, steps_made}, Quiet.{AreOpen, AreQuiet, IsOpen, IsQuiet}}, proofs.QuietSteps.kept-some}
use Rattle.device_play.{specs.Midway.IsQuietIn, proofs.WatchedPlay.{each-in-play, idle-play}}
use Rattle.device_play.proofs.driver.play_to_shown.Goals as goal

pub returns-then-next-step-clause-plays : goal.returns-then-next-step-clause-plays
returns-then-next-step-clause-plays g c = λ start events_at here.
    let from = steps_made c.args.live in
    let made : steps_made c.step.result ≡ suc from = omega (arith, c.step.ensures.steps) in
    let events : c.pass.result.now ≡ events_at from =
    rw c.steps-step.ensures.made at c.pass.ensures.events ∙ here.left from (omega arith) in
    let same : c.pass.result.now ∷ play_of events_at from
    ≡ play_of events_at (steps_made c.step.result) = rw (made, events) refl in
    record {
      midway = record {
        stands = subst (LiveStandsFor g.D.Digest32.hash g.G.TraceFlag.flag c.step.result start) same
            (c.step.ensures.stands start (play_of events_at from) here.stands);
        left = λ later after. c.pass.ensures.left later (omega (arith, made))
            ∙ here.left later (omega (arith, made));
      };
      alone = λ shown. made;
      quietly = λ step after below. absurd (omega (arith, made));
      between = λ step after below. absurd (omega (arith, made));
      unkept = λ step last none. absurd (kept-some _ c.step.ensures.recorded none);
    }

pub returns-else-next-step-clause-plays : goal.returns-else-next-step-clause-plays
returns-else-next-step-clause-plays g c = λ start events_at here.
    let quiet = g.Q.Quiet.quiet c.args.quiet.now in
    let from = steps_made c.args.live in
    let until = steps_made c.make_row.result in
    let begins = c.make_row.ensures.begins (omega arith) in
    let within = c.make_row.ensures.within in
    let row = c.make_row.ensures.row start (play_of events_at from) here.stands in
    let none : (step : ℕ) → from ≤ step → step < until → events_at step ≡ [] =
    λ step after below.
    sym (here.left step after) ∙ c.next_step-next.ensures.before step (omega arith) in
    let unshown : g.O.Watcher.every_step ≡ false = search rules in
    let first : events_at from ≡ [] = none from (omega arith) (omega arith) in
    let next : [] ∷ play_of events_at from ≡ play_of events_at (suc from) = rw first refl in
    let each : (count step : ℕ)
    → count + from ≤ until
    → AreQuiet quiet start count (play_of events_at from)
    → from ≤ step
    → step < count + from
    → IsQuietIn quiet start events_at step =
    λ count step few all after below. (
      none step after (omega arith),
      each-in-play (IsQuiet quiet start) events_at from count
          (λ one behind before. none one behind (omega arith)) all step after below,
    ) in
    record {
      midway = record {
        stands = subst (LiveStandsFor g.D.Digest32.hash g.G.TraceFlag.flag c.make_row.result
            start)
            (idle-play events_at from until (until - from) (omega arith) none)
            (c.make_row.ensures.stands start (play_of events_at from) here.stands);
        left = λ later after. here.left later (omega arith);
      };
      alone = λ shown. absurd (cc (unshown, shown));
      quietly = λ step after below.
          each (until - from - 1) step (omega arith) row.quietly after (omega arith);
      between = λ step after below.
          each-in-play (λ (before : Play). IsOpen quiet (logs_after start before)) events_at
          (suc from) (until - from - 1)
          (λ one behind before. none one (omega arith) (omega arith))
          (subst (AreOpen quiet start (until - from - 1)) next row.between) step (omega arith)
          (omega arith);
      unkept = λ step last kept.
          each (until - from) step (omega arith) (row.unkept kept) (omega arith) (omega arith);
    }
