use Rattle.std.proofs.Common.{refl}
use Rattle.debug_walk.specs.Copies.{played_run}
use Rattle.debug_walk.proofs.track.Track.new.Goals as goal

pub returns-clause-stands : goal.returns-clause-stands
returns-clause-stands g c =
    record { same_run = refl; copies = c.new.ensures (played_run g.D.Digest32.hash c.args.run) }
