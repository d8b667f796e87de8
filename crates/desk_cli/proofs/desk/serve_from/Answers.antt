use Rattle.std.proofs.Common.{refl}
use Rattle.source_server.specs.declared.served.Served.TheVariants.{Own}
use Rattle.verifier_desk.{specs.declared.answer_fault.AnswerFault.TheVariants.Memory, proofs.DeskServed.lacks_served}
use Rattle.desk_cli.proofs.desk.serve_from.Goals as goal

pub returns-in-Err-clause-served : goal.returns-in-Err-clause-served
returns-in-Err-clause-served g c = λ fields stands keeps.
    record {
      ended = Own Memory;
      answer = refl;
      honest = λ so. so;
      serves = lacks_served g.M.Memory g.W.Sink
          (record { memory = c.args.memory; sink = c.args.sink.now }) fields g.R.Source
          c.args.source.now keeps;
    }

pub returns-in-Ok-clause-served : goal.returns-in-Ok-clause-served
returns-in-Ok-clause-served g c = λ fields stands keeps.
    record {
      ended = c.serve-served.result.0;
      answer = c.served_status.ensures;
      honest = c.serve-served.ensures.grows.honest;
      serves = c.serve-served.ensures.serves fields (rw c.in-Ok.is at stands) keeps;
    }
