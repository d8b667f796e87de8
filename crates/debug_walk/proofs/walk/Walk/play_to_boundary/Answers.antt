use Rattle.debug_walk.proofs.walk.Walk.play_to_boundary.Goals as goal

pub loop-walk-preserved : goal.loop-walk-preserved
loop-walk-preserved g c = λ run walks.
    c.play-walk.ensures.walks run (c.loop-walk.invariant run walks)
