use Rattle.std.proofs.Common.{ap}
use Rattle.outside_edge.specs.Buffer.{Buffer}
use Rattle.outside_edge.proofs.BufferLemmas.{flush_puts, flush_takes_prefix}
use Rattle.outside_edge.proofs.buffered_sink.BufferedSink.finish.Goals as goal

pub returns-clause-puts : goal.returns-clause-puts
returns-clause-puts g c = λ begun text none put.
    rw (ap (λ (buffer : Buffer _). buffer.sink) c.self.view_is)
    (flush_puts g.W.Sink.stands begun c.args.self c.flush-result.new.self text
    c.flush-result.result none put c.flush-result.ensures.stands c.flush-result.ensures.all)

pub returns-clause-prefix : goal.returns-clause-prefix
returns-clause-prefix g c = λ begun text none prefix.
    rw (ap (λ (buffer : Buffer _). buffer.sink) c.self.view_is)
    (flush_takes_prefix g.W.Sink.stands begun c.args.self c.flush-result.new.self text none
    prefix c.flush-result.ensures.stands)
