use Rattle.std.{proofs.Common.{inl, subst}, specs.Prelude.IfSome}
use Rattle.debug_walk.{specs.Copies.{IsCopy, played_run}, proofs.Views.begun-anew}
use Rattle.debug_walk.proofs.track.Track.walk_before.Goals as goal

pub returns-in-Some-2-clause-begins : goal.returns-in-Some-2-clause-begins
returns-in-Some-2-clause-begins g c = λ run track.
    let copy = c.in-Some.ensures.copy run track.copies in
    let same : IsCopy g.D.Digest32.hash run c.in-Some-2.walk =
    subst (λ one. IfSome one (IsCopy g.D.Digest32.hash run)) c.in-Some-2.is
    (c.in_ok-walk.ensures.copy run copy.walks) in
    record { walks = same.walks; fresh = inl same.settled }

pub returns-clause-begins : goal.returns-clause-begins
returns-clause-begins g c = λ run track.
    begun-anew g.D.Digest32.hash (played_run g.D.Digest32.hash c.args.self.now.run) run
    c.begin.result track.same_run c.begin.ensures.walks c.begin.ensures.place
    c.begin.ensures.stretch
