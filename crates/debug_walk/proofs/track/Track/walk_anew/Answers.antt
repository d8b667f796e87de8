use Rattle.debug_walk.specs.Copies.{played_run}
use Rattle.debug_walk.proofs.track.Track.walk_anew.Goals as goal

pub returns-clause-walks : goal.returns-clause-walks
returns-clause-walks g c =
    c.play_up_to.ensures.walks (played_run g.D.Digest32.hash c.args.self.now.run)
    c.in_ok-walk.ensures.walks
