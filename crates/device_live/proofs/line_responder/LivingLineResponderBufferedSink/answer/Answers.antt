use Rattle.device_live.proofs.Told.{line-tells}
use Rattle.device_live.proofs.line_responder.LivingLineResponderBufferedSink.answer.Goals as goal

pub returns-clause-answers : goal.returns-clause-answers
returns-clause-answers g c = λ start earlier bytes told line.
    line-tells g.D.Digest32.hash g.G.TraceFlag.flag g.W.Sink start
    (record { responder = c.args.self.now; edge = c.args.sink.now })
    (record { responder = c.answer_numbered.new.self; edge = c.answer_numbered.new.sink })
    earlier bytes c.answer_numbered.result told c.answer_numbered.ensures.lines
    c.answer_numbered.ensures.rises
    (λ begun life stands. rw line at (c.answer_numbered.ensures.answers begun life stands))
