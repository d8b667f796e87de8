use Rattle.device_live.proofs.Told.{settled}
use Rattle.device_live.proofs.line_responder.LivingLineResponderBufferedSink.settle.Goals as goal

pub returns-clause-settles : goal.returns-clause-settles
returns-clause-settles g c = λ start lines told.
    rw c.halt_on_fault.ensures
    (settled g.D.Digest32.hash g.G.TraceFlag.flag g.W.Sink start
    (record { responder = c.args.self.now; edge = c.args.sink.now }) c.flush.new.self lines
    c.flush.result told c.flush.ensures.stands c.flush.ensures.all c.flush.ensures.counts)
