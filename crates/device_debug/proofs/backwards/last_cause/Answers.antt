use Rattle.std.proofs.Common.{◌∙◌, true, arith}
use Rattle.debug_walk.specs.Walk.{place_of}
use Rattle.device_debug.{specs.Going.step_in, proofs.{Back.exact-tells, LookingBack.{looks-back, looks-on}}}
use Rattle.device_debug.proofs.backwards.last_cause.Goals as goal

pub loop-here-preserved : goal.loop-here-preserved
loop-here-preserved g c =
    let stops = c.args.stops.now in
    let step = step_in c.args.seek.now in
    let at = c.loop-here in
    let left = c.leave-walk.ensures in
    let next = c.to_boundary-walk.ensures in
    let there = c.place_here-here-in-loop-here in
    record {
      same_run = c.leave_near-distance.ensures.same_run ∙ at.invariant.same_run;
      begin_is = at.invariant.begin_is;
      place_is = there.ensures.place;
      stays = λ run walks.
          let stays = at.invariant.stays run walks in
          let walks-next = next.walks run (left.walks run stays.0) in
          (walks-next, λ track. c.leave_near-distance.ensures.stays run walks-next (stays.1 track));
      looks = λ run begun before.
          let looks = at.invariant.looks run begun before in
          let walks-left = left.walks run looks.walks in
          let walks-next = next.walks run walks-left in
          let fresh =
          rw looks.place_is at
          (looks.fresh (omega (arith, c.loop-here-test.true, c.requires.late))) in
          let kept = (rw c.watches.ensures at next.stretch) run walks-left
          (left.stretch run looks.walks fresh) in
          looks-on _ run stops step _ _ _ c.requires.few c.requires.late c.leave-walk.result
          c.to_boundary-walk.result looks left.within left.one
          (left.silent run looks.walks) (left.passed run looks.walks fresh) next.within kept
          (next.passes_none run walks-left) (next.ends run walks-left)
          (rw (c.stretch.ensures, c.place.ensures) at c.found_before-found.ensures)
          walks-next there.ensures.place (there.ensures.pc run walks-next)
          (there.ensures.broken run walks-next
          (exact-tells run stops true (place_of c.to_boundary-walk.result)
          c.to_boundary-walk.result.stretch kept).due);
    }

pub returns-clause-found : goal.returns-clause-found
returns-clause-found g c = λ run begun before.
    let looks = c.loop-here in
    rw looks.invariant.begin_is at
    (looks-back _ run c.args.stops.now (step_in c.args.seek.now) _ _ _ c.requires.few
    (looks.invariant.looks run begun before) (omega (arith, c.loop-here-test.false)))
