use Rattle.debug_walk.proofs.walk.Walk.play.Goals as goal

pub returns-clause-walks : goal.returns-clause-walks
returns-clause-walks g c = λ run walks. (c.make_row.ensures.row run walks).midway
