use Rattle.std.{proofs.Common.{◌<◌, IfSome}, specs.List.All}
use Rattle.debug_session.specs.Place.{Run}
use Rattle.debug_walk.specs.{Copies.IsCopy, Walk.place_of}
use Rattle.debug_walk.proofs.copies.last_of.Given as goal

-- the last one so far is one of them, or the other one
abbrev pub invariant-loop-copy : goal.invariant-loop-copy
invariant-loop-copy g l = record {
  copy : (run : Run)
      → All (IsCopy g.D.Digest32.hash run) l.fn.copies
      → IfSome l.fn.other (λ walk. IsCopy g.D.Digest32.hash run walk.now)
      → IfSome l.last (λ walk. IsCopy g.D.Digest32.hash run walk.now);
  before : IfSome l.fn.other (λ walk. place_of walk.now < l.fn.place)
      → IfSome l.last (λ walk. place_of walk.now < l.fn.place);
}
