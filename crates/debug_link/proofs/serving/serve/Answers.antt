use Rattle.std.proofs.Common.{arith}
use Rattle.source_server.proofs.ServedPieces.{serves_as}
use Rattle.debug_link.{specs.{Conversation.interrupts_of, Serving.{TalkStart, parties_promise, talk_promise}}, proofs.{Interrupts.may-come, PacketPieces.first_stands}}
use Rattle.debug_link.proofs.serving.serve.Goals as goal

pub returns-clause-serves : goal.returns-clause-serves
returns-clause-serves g c = λ session stood last.
    let start : TalkStart g.A.Answerer.Session g.row.W.Denot =
    record {
      session = session;
      sink = c.args.packets.now.sink;
      left = g.A.Answerer.left c.args.answerer;
    } in
    serves_as g.R.Source
    (parties_promise g.A.Answerer.stands g.A.Answerer.left g.W.Sink g.A.Answerer.reply start)
    (talk_promise g.W.Sink g.A.Answerer.reply start)
    c.args.source.now c.serve.new.source
    (record { responder = c.serve.new.responder; edge = c.serve.new.edge })
    c.serve.new.edge.sink
    (λ bytes so. (
      so.0,
      so.1,
      may-come (interrupts_of so.0) start.left (g.A.Answerer.left c.serve.new.responder.answerer)
          so.2,
      (so.3.talks.put, so.3.goes_on),
    ))
    (λ bytes so. so)
    (λ before last why so. so)
    c.serve.result
    (c.serve.ensures.serves start
    (first_stands g.A.Answerer.stands g.A.Answerer.left g.W.Sink g.A.Answerer.reply session
    c.args.answerer (record { responder = c.new-responder.result; edge = c.args.packets.now })
    c.new-responder.ensures.reader c.new-responder.ensures.answerer stood last))

pub returns-clause-sink_faults : goal.returns-clause-sink_faults
returns-clause-sink_faults g c =
    c.serve.ensures.grows
    (record { responder = c.new-responder.result; edge = c.args.packets.now }) (omega arith)
