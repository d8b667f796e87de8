use Rattle.std.proofs.Common.{rules}
use Rattle.outside_edge.proofs.BufferLemmas.{stands_after_part}
use Rattle.outside_edge.proofs.buffered_sink.BufferedSink.flush.Goals as goal

pub returns-clause-stands : goal.returns-clause-stands
returns-clause-stands g c = stands_after_part g.W.Sink.stands c.args.self.now _
    c.put_until_fault-count.result.0 (search rules) (search rules)
