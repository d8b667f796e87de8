use Rattle.std.proofs.Common.{◌-◌, length}
use Rattle.debug_session.specs.Place.{Run}
use Rattle.debug_walk.specs.Copies.{AreCopies}
use Rattle.debug_walk.proofs.copies.Copies.thin.Given as goal

-- those that are left are copies
abbrev pub invariant-loop-at : goal.invariant-loop-at
invariant-loop-at g l =
    (run : Run)
    → AreCopies g.D.Digest32.hash run l.initial.self
    → AreCopies g.D.Digest32.hash run l.self

abbrev pub decreases-loop-at : goal.decreases-loop-at
decreases-loop-at g l = length l.self.far.items - l.at
