use Rattle.std.proofs.Common.{◌≡◌, ◌-◌, ◌<◌, ℕ, arith, refl}
use Rattle.debug_session.{specs.{Request.most_steps, Place.{Run, view_of}}, proofs.Views.next-at}
use Rattle.device_trace.specs.Trace.{play_of}
use Rattle.debug_link.proofs.{AddedText.{added_none, adds_failed, prefix_none}, Faults.{counts_memory, counts_unwritten}}
use Rattle.debug_walk.specs.{Copies.played_run, Walk.place_of}
use Rattle.device_debug.{specs.Telling.text_in, proofs.{AddedSteps.{one_step_added, step_failed}, ToldTexts.last-stands, monitor.add_texts.{Given.Over, Goals.After-as_slice}}}
use Rattle.device_debug.proofs.monitor.add_texts.Goals as goal

-- what there is to tell of one step more
step-text : (g : Over) (c : After-as_slice g)
    → c.as_slice.result.now ≡ text_in c.args.kind
    (view_of (played_run g.D.Digest32.hash c.args.track.now.run) (place_of c.loop-kind.walk)).next
step-text g c =
    let run : Run = played_run g.D.Digest32.hash c.args.track.now.run in
    let place : ℕ = place_of c.loop-kind.walk in
    let before : place < most_steps =
    omega (arith, c.loop-kind-test.true, c.place.ensures, c.min-end.ensures) in
    let text =
    c.in_ok-more.ensures.text run
    (last-stands run c.step-walk.result c.place-step.result c.live.ensures
    (c.step-walk.ensures.walks run c.loop-kind.invariant.walks)
    (omega (arith, c.step-walk.ensures.place, c.place-step.ensures))) in
    rw (c.as_slice.ensures, text, c.place-step.ensures, next-at run place before) refl

pub returns-in_err-walk-clause-adds : goal.returns-in_err-walk-clause-adds
returns-in_err-walk-clause-adds g c = λ order few.
    adds_failed _ _ _ _ _ _ _ c.from_residual.ensures.0
    (λ more. prefix_none g.W.Sink c.args.packets.now _)

pub returns-in_err-walk-clause-counts : goal.returns-in_err-walk-clause-counts
returns-in_err-walk-clause-counts g c =
    counts_memory _ _ _ _ c.from_residual.ensures.1 (omega arith)

pub loop-kind-init : goal.loop-kind-init
loop-kind-init g c =
    record {
      walks = c.in_ok-walk.ensures.walks;
      added = λ order few.
          let here = c.in_ok-walk.ensures.place (omega (arith, order, few)) in
          let none : place_of c.in_ok-walk.walk - c.args.from ≡ 0 = omega (arith, here) in
          record {
            passed = omega (arith, here);
            within = omega (arith, here, order);
            added = rw none (added_none _ _ _);
          };
      rises = omega arith;
    }

pub of-requires-clause-stepped : goal.of-requires-clause-stepped
of-requires-clause-stepped g c = λ is. rw c.live.ensures c.step-walk.ensures.kept

pub of-requires-clause-plays : goal.of-requires-clause-plays
of-requires-clause-plays g c = λ is.
    let run : Run = played_run g.D.Digest32.hash c.args.track.now.run in
    let walks = c.step-walk.ensures.walks run c.loop-kind.invariant.walks in
    (run.start, play_of run.events_at (place_of c.step-walk.result), rw c.live.ensures walks.stands)

pub returns-in_err-more-clause-adds : goal.returns-in_err-more-clause-adds
returns-in_err-more-clause-adds g c = λ order few.
    step_failed _ _ _ c.from_residual-in_err-more.ensures.0
    (omega (arith, c.loop-kind-test.true, c.place.ensures, c.min-end.ensures))
    (c.loop-kind.invariant.added order few) (λ more. prefix_none g.W.Sink c.loop-kind.packets _)

pub returns-in_err-more-clause-counts : goal.returns-in_err-more-clause-counts
returns-in_err-more-clause-counts g c =
    counts_memory _ _ _ _ (rw c.in_err-more.ensures.fault at c.from_residual-in_err-more.ensures.1)
    c.loop-kind.invariant.rises

pub returns-in_err-add-clause-adds : goal.returns-in_err-add-clause-adds
returns-in_err-add-clause-adds g c = λ order few.
    step_failed _ _ _ c.from_residual-in_err-add.ensures.0
    (omega (arith, c.loop-kind-test.true, c.place.ensures, c.min-end.ensures))
    (c.loop-kind.invariant.added order few)
    (rw (step-text g (goal.at.returns-in_err-add-clause-adds g c).After-as_slice) at
    c.in_err-add.ensures.adds.prefix)

pub returns-in_err-add-clause-counts : goal.returns-in_err-add-clause-counts
returns-in_err-add-clause-counts g c =
    counts_unwritten _ _ _ _ _ c.loop-kind.invariant.rises c.in_err-add.ensures.counts.failed
    c.in_err-add.ensures.counts.counted

pub loop-kind-preserved : goal.loop-kind-preserved
loop-kind-preserved g c =
    record {
      walks = c.step-walk.ensures.walks (played_run g.D.Digest32.hash c.args.track.now.run)
          c.loop-kind.invariant.walks;
      added = λ order few.
          one_step_added _ _ _
          (omega (arith, c.loop-kind-test.true, c.place.ensures, c.min-end.ensures))
          (omega (arith, c.step-walk.ensures.place))
          (step-text g (goal.at.loop-kind-preserved g c).After-as_slice)
          (c.loop-kind.invariant.added order few) c.in_ok-add.ensures.adds.all;
      rises = omega (arith, c.loop-kind.invariant.rises, c.in_ok-add.ensures.counts.counted);
    }

pub returns-clause-adds : goal.returns-clause-adds
returns-clause-adds g c = λ order few.
    let so = c.loop-kind.invariant.added order few in
    let end : place_of c.loop-kind.walk ≡ c.args.until =
    omega (arith, few, so.within, c.loop-kind-test.false, c.place.ensures, c.min-end.ensures) in
    record { all = rw end at so.added; prefix = tt }
