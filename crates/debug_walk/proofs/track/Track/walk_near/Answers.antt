use Rattle.std.proofs.Common.{inl, sym}
use Rattle.debug_walk.proofs.track.Track.walk_near.Goals as goal

pub returns-then-saturating_add-place-clause-begins :
    goal.returns-then-saturating_add-place-clause-begins
returns-then-saturating_add-place-clause-begins g c = λ run track.
    c.in_ok-walk.ensures.begins run track

pub returns-then-place-clause-begins : goal.returns-then-place-clause-begins
returns-then-place-clause-begins g c = λ run track.
    let walks =
    c.play_to_boundary-near.ensures run (c.in_ok-walk.ensures.begins run track).walks in
    record { walks = walks; fresh = inl (sym (c.if-is_at_boundary.ensures run walks)) }

pub returns-then-place-clause-stays : goal.returns-then-place-clause-stays
returns-then-place-clause-stays g c = λ run track.
    let walks =
    c.play_to_boundary-near.ensures run (c.in_ok-walk.ensures.begins run track).walks in
    record { same_run = track.same_run; copies = c.leave_near.ensures run track.copies walks }
