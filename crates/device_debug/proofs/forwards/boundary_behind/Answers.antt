use Rattle.std.proofs.Common.{true, false}
use Rattle.device_debug.proofs.Refusals.{past-behind, refused-was}
use Rattle.device_debug.proofs.forwards.boundary_behind.Goals as goal

pub returns-then-is_some : goal.returns-then-is_some
returns-then-is_some g c = λ run walks before is.
    past-behind run c.args.from _ before _ true c.args.last (c.if-is_at_boundary.ensures run walks)
    (refused-was run _ before _ is c.requires.few
    (c.entry.ensures.last run.start _ (rw c.live.ensures walks.stands))) c.if-is_some.ensures

pub returns-else-is_some : goal.returns-else-is_some
returns-else-is_some g c = λ run walks before is.
    past-behind run c.args.from _ before _ false c.args.last
    (c.if-is_at_boundary.ensures run walks)
    (refused-was run _ before _ is c.requires.few
    (c.entry.ensures.last run.start _ (rw c.live.ensures walks.stands))) c.if-is_some.ensures
