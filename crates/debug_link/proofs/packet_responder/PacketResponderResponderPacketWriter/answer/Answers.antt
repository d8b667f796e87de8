use Rattle.debug_link.proofs.PacketPieces.{piece_came}
use Rattle.debug_link.proofs.packet_responder.PacketResponderResponderPacketWriter.answer.Goals as goal

pub returns-clause-answers : goal.returns-clause-answers
returns-clause-answers g c = λ start before so.
    rw c.came_of.ensures
    (piece_came g.A.Answerer.stands g.A.Answerer.left g.W.Sink g.A.Answerer.reply start
    (record { responder = c.args.self.now; edge = c.args.packets.now })
    (record {
      responder = record {
        reader = c.answer_piece.new.reader;
        answerer = c.answer_piece.new.answerer;
      };
      edge = c.answer_piece.new.packets;
    })
    before c.args.piece.now c.answer_piece.result so c.answer_piece.ensures.goes_on
    c.answer_piece.ensures.counts)
