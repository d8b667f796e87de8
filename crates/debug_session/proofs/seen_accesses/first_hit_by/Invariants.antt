use Rattle.std.{proofs.Common.{◌≡◌, drop}, specs.Option.option_or}
use Rattle.debug_session.specs.Watched.{first_hit, hits_by_access}
use Rattle.debug_session.proofs.seen_accesses.first_hit_by.Given as goal

abbrev pub invariant-loop-watch : goal.invariant-loop-watch
invariant-loop-watch l =
    option_or l.first (first_hit (hits_by_access l.access (drop l.watch-index l.watches)))
    ≡ first_hit (hits_by_access l.access l.watches)
