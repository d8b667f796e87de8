use Rattle.std.proofs.Common.{◌≡◌, drop}
use Rattle.debug_session.specs.Watched.{last_hit, hits_by_access}
use Rattle.debug_session.proofs.seen_accesses.last_hit_by.Given as goal

abbrev pub invariant-loop-watch : goal.invariant-loop-watch
invariant-loop-watch l =
    last_hit l.last (hits_by_access l.access (drop l.watch-index l.watches))
    ≡ last_hit l.fn.before (hits_by_access l.access l.watches)
