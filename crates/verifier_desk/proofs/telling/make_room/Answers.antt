use Rattle.verifier_desk.proofs.HeldReplies.{room_made}
use Rattle.verifier_desk.proofs.telling.make_room.Goals as goal

pub returns-clause-goes_on : goal.returns-clause-goes_on
returns-clause-goes_on g c = λ fields lines first told.
    room_made g.M.Memory g.W.Sink first fields _ c.put_withheld.new.withheld lines
    c.put_withheld.result c.put_withheld.ensures.empty
    (c.put_withheld.ensures.puts fields lines first told)

pub returns-clause-fails : goal.returns-clause-fails
returns-clause-fails g c = λ fields lines first told.
    (c.put_withheld.ensures.puts fields lines first told).fails
