use Rattle.std.proofs.Common.{◌≡◌, ◌-◌, ◌∙◌, ◌++◌, suc, arith, refl, sym}
use Rattle.debug_session.specs.Place.{Run, sight_at}
use Rattle.debug_walk.specs.Walk.{Walks, place_of}
use Rattle.debug_link.proofs.{AddedText.put_none, Faults.counts_memory}
use Rattle.device_debug.{specs.Telling.{bodies_of, step_bodies}, proofs.{ToldTexts.{last-stands, tells-all, tells-later, tells-none}, waiting_lines.WaitingLines.tell_step.{Given.Over, Goals.After-is_at_boundary}}}
use Rattle.device_debug.proofs.waiting_lines.WaitingLines.tell_step.Goals as goal

pub returns-in_err-text-clause-tells : goal.returns-in_err-text-clause-tells
returns-in_err-text-clause-tells g c = λ run walks. tells-none _ c.from_residual.ensures.0

pub returns-in_err-text-clause-counts : goal.returns-in_err-text-clause-counts
returns-in_err-text-clause-counts g c =
    counts_memory _ _ _ _ (rw c.in_err-text.ensures.fault at c.from_residual.ensures.1)
    (omega arith)

pub returns-in_err-keep-clause-tells : goal.returns-in_err-keep-clause-tells
returns-in_err-keep-clause-tells g c = λ run walks.
    tells-none _ c.from_residual-in_err-keep.ensures.0

pub returns-in_err-keep-clause-counts : goal.returns-in_err-keep-clause-counts
returns-in_err-keep-clause-counts g c =
    counts_memory _ _ _ _ (rw c.in_err-keep.ensures.fault at c.from_residual-in_err-keep.ensures.1)
    (omega arith)

-- behind the lines that waited those of the last step wait, and it was asked whether there is a
-- boundary behind it
waits-whole : (g : Over) (c : After-is_at_boundary g) (run : Run)
    → Walks g.D.Digest32.hash run c.args.walk.now
    → (bodies_of c.keep.new.self
    ≡ bodies_of c.args.self.now ++ step_bodies run (place_of c.args.walk.now - 1))
    × ((sight_at run (suc (place_of c.args.walk.now - 1))).boundary ≡ c.is_at_boundary.result)
waits-whole g c run walks =
    let made : place_of c.args.walk.now ≡ suc (place_of c.args.walk.now - 1) =
    omega (arith, c.requires) in
    let text =
    c.in_ok-text.ensures.text run
    (last-stands run c.args.walk.now (c.place.result - 1) c.live.ensures walks
    (omega (arith, c.place.ensures, c.requires))) in (
      rw (c.in_ok-keep.ensures.waits, text, c.place.ensures) refl,
      rw (← made) (sym (c.is_at_boundary.ensures run walks)),
    )

pub returns-then-is_at_boundary-clause-tells : goal.returns-then-is_at_boundary-clause-tells
returns-then-is_at_boundary-clause-tells g c = λ run walks.
    let whole =
    waits-whole g (goal.at.returns-then-is_at_boundary-clause-tells g c).After-is_at_boundary
    run walks in
    tells-all whole.0 (whole.1 ∙ c.if-is_at_boundary.true) c.tell.ensures.tells
    c.tell.ensures.emptied

pub returns-else-is_at_boundary-clause-tells : goal.returns-else-is_at_boundary-clause-tells
returns-else-is_at_boundary-clause-tells g c = λ run walks.
    let whole =
    waits-whole g (goal.at.returns-else-is_at_boundary-clause-tells g c).After-is_at_boundary
    run walks in
    tells-later whole.0 (whole.1 ∙ c.if-is_at_boundary.false)
    (record { all = put_none _ _; prefix = tt }) refl
