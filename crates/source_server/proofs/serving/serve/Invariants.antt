use Rattle.source_server.proofs.ServedPieces.{IsServedTo}
use Rattle.source_server.proofs.serving.serve.Given as goal

abbrev pub decreases-loop-room : goal.decreases-loop-room
decreases-loop-room g l = l.room

-- what was taken is answered
abbrev pub invariant-loop-room : goal.invariant-loop-room
invariant-loop-room g l =
    IsServedTo g.R.Source g.T.Responder.promise g.T.Responder.since
    (record { responder = l.fn.responder; edge = l.fn.edge }) l.fn.source
    (record { responder = l.responder; edge = l.edge }) l.source l.room
