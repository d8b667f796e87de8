use Rattle.std.proofs.{Common.{◌≡◌, ◌<◌, ◌-◌, arith}, lemmas.Bool.Decides.nat_tests}
use Rattle.source_server.proofs.ServedPieces.{fault_served, none_taken, piece_served, piece_stopped, spent_served}
use Rattle.source_server.proofs.serving.serve.Goals as goal

pub loop-room-init : goal.loop-room-init
loop-room-init g c = none_taken g.R.Source g.T.Responder.promise g.T.Responder.since _ _

pub returns-in-Err-clause-serves : goal.returns-in-Err-clause-serves
returns-in-Err-clause-serves g c =
    let some : 0 < c.loop-room.room = grind (arith, nat_tests, c.loop-room-test.true) in
    fault_served g.R.Source g.T.Responder.promise g.T.Responder.since c.loop-room.invariant _ some
    c.in-Err.ensures.kept c.in-Err.ensures.missed c.in-Err.ensures.counts.failed

pub returns-clause-serves : goal.returns-clause-serves
returns-clause-serves g c =
    let none : c.loop-room.room ≡ 0 = grind (arith, nat_tests, c.loop-room-test.false) in
    spent_served g.R.Source g.T.Responder.promise g.T.Responder.since c.loop-room.invariant none

pub loop-room-preserved : goal.loop-room-preserved
loop-room-preserved g c =
    let some : 0 < c.in-Ok.count = grind (arith, nat_tests, c.in-Ok.count-test) in
    piece_served g.R.Source g.T.Responder.promise g.T.Responder.since c.loop-room.invariant _ _ _
    c.in-Ok.ensures.within some (omega (arith, c.in-Ok.ensures.few)) c.in-Ok.ensures.gave
    c.in-Ok.ensures.asked c.in-Ok.ensures.counts.counted c.in-Ok-answer.ensures.answers
    c.in-Ok-answer.ensures.grows

pub returns-in-Err-answer-clause-serves : goal.returns-in-Err-answer-clause-serves
returns-in-Err-answer-clause-serves g c =
    let some : 0 < c.in-Ok.count = grind (arith, nat_tests, c.in-Ok.count-test) in
    rw c.of.ensures
    (piece_stopped g.R.Source g.T.Responder.promise g.T.Responder.since c.loop-room.invariant _ _ _
    c.in-Err-answer.halt c.in-Ok.ensures.within some c.in-Ok.ensures.few c.in-Ok.ensures.gave
    c.in-Ok.ensures.asked c.in-Err-answer.ensures.answers)
