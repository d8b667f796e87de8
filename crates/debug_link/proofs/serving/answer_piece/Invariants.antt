use Rattle.std.proofs.Common.{◌≤◌, Ok, take}
use Rattle.debug_link.{specs.declared.connection.Connection.TheVariants.Open, proofs.Parties.GoesOnBy}
use Rattle.debug_link.proofs.serving.answer_piece.Given as goal

-- what came of the piece so far is answered
abbrev pub invariant-loop-byte : goal.invariant-loop-byte
invariant-loop-byte g l = record {
  goes : GoesOnBy g.A.Answerer.stands g.A.Answerer.left g.W.Sink g.A.Answerer.reply
      (record { reader = l.fn.reader; answerer = l.fn.answerer; packets = l.fn.packets })
      (record { reader = l.reader; answerer = l.answerer; packets = l.packets })
      (take l.byte-index l.piece) (Ok Open);
  rises : g.W.Sink.faults l.fn.packets.sink ≤ g.W.Sink.faults l.packets.sink;
}
