use Rattle.std.proofs.Common.{true, refl}
use Rattle.device_debug.proofs.Back.{fresh-tells}
use Rattle.device_debug.proofs.backwards.leave.Goals as goal

pub returns-then-is_broken-clause-stretch : goal.returns-then-is_broken-clause-stretch
returns-then-is_broken-clause-stretch g c = λ run walks fresh.
    rw c.step.ensures.place ((rw c.watches.ensures at c.step.ensures.stretch) run walks fresh)

pub returns-else-is_broken-clause-stretch : goal.returns-else-is_broken-clause-stretch
returns-else-is_broken-clause-stretch g c = λ run walks fresh.
    ((rw (c.new.ensures.stops, c.new.ensures.asleep) at c.play_row.ensures.tells) run walks
    (fresh-tells run c.args.stops.now true _ c.args.walk.stretch fresh)).exact refl

pub returns-else-is_broken-clause-passed : goal.returns-else-is_broken-clause-passed
returns-else-is_broken-clause-passed g c = λ run walks fresh.
    (rw (c.new.ensures.stops, c.new.ensures.asleep) at c.play_row.ensures.passed) run walks
    (fresh-tells run c.args.stops.now true _ c.args.walk.stretch fresh)
