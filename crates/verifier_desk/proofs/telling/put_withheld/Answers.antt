use Rattle.std.proofs.Common.{subst}
use Rattle.outside_edge.specs.Sink.{Takes, TakesPrefix}
use Rattle.verifier_desk.{specs.Noted.entries_after, proofs.HeldReplies.{all_put, unkept, unwritten}}
use Rattle.verifier_desk.proofs.telling.put_withheld.Goals as goal

pub returns-in-Err-clause-puts : goal.returns-in-Err-clause-puts
returns-in-Err-clause-puts g c = λ fields lines first told.
    record {
      all = tt;
      fails = unkept g.M.Memory g.W.Sink first fields
          (record { memory = c.args.memory.now; sink = c.args.sink.now })
          c.settle_noted.new.memory c.args.withheld.now lines c.in-Err.fault told
          c.settle_noted.ensures.honest
          (c.settle_noted.ensures.crash (entries_after fields lines) told.has)
          c.in-Err.ensures.failed;
    }

pub returns-in-Ok-clause-puts : goal.returns-in-Ok-clause-puts
returns-in-Ok-clause-puts g c = λ fields lines first told.
    record {
      all = all_put g.M.Memory g.W.Sink first fields
          (record { memory = c.args.memory.now; sink = c.args.sink.now })
          (record { memory = c.settle_noted.new.memory; sink = c.put_all.new.sink })
          c.args.withheld.now lines told
          (record {
            honest = c.settle_noted.ensures.honest;
            memory_rises = c.settle_noted.ensures.memory_faults;
            sink_rises = c.put_all.ensures.counts.counted;
          })
          (c.in_default.ensures.keeps (entries_after fields lines) told.has told.settled)
          (subst (Takes g.W.Sink.stands c.args.sink.now c.put_all.new.sink) c.as_slice.ensures
          c.in-Ok.ensures.puts.all);
      fails = tt;
    }

pub returns-in-Err-put_all-clause-puts : goal.returns-in-Err-put_all-clause-puts
returns-in-Err-put_all-clause-puts g c = λ fields lines first told.
    record {
      all = tt;
      fails = unwritten g.M.Memory g.W.Sink first fields
          (record { memory = c.args.memory.now; sink = c.args.sink.now })
          (record { memory = c.settle_noted.new.memory; sink = c.put_all.new.sink })
          c.args.withheld.now lines told
          (c.in_default.ensures.keeps (entries_after fields lines) told.has told.settled)
          (subst (TakesPrefix g.W.Sink.stands c.args.sink.now c.put_all.new.sink)
          c.as_slice.ensures c.in-Err-put_all.ensures.puts.prefix)
          c.in-Err-put_all.ensures.counts.failed;
    }
