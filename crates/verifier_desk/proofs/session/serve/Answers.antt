use Rattle.std.proofs.Common.{◌∙◌, ap, refl}
use Rattle.verifier_desk.{specs.declared.desk_responder.DeskResponder.DeskResponder, proofs.{DeskServed.{begins_with, desk_served, lacks_served}, MoreLines.grows_self}}
use Rattle.verifier_desk.proofs.session.serve.Goals as goal

pub returns-in_default-clause-serves : goal.returns-in_default-clause-serves
returns-in_default-clause-serves g c = λ fields stands keeps.
    lacks_served g.M.Memory g.W.Sink (record { memory = c.args.memory; sink = c.args.sink.now })
    fields g.R.Source c.args.source.now keeps

pub returns-in_default-new-clause-serves : goal.returns-in_default-new-clause-serves
returns-in_default-new-clause-serves g c = λ fields stands keeps.
    lacks_served g.M.Memory g.W.Sink (record { memory = c.args.memory; sink = c.args.sink.now })
    fields g.R.Source c.args.source.now keeps

pub returns-clause-serves : goal.returns-clause-serves
returns-clause-serves g c = λ fields stands keeps.
    rw (c.into_memory.ensures, c.into_responder.ensures)
    (desk_served g.M.Memory g.W.Sink
    (record { memory = c.args.memory; sink = c.args.sink.now }) fields g.R.Source
    c.args.source.now c.serve-served.new.source
    (record { responder = c.serve-served.new.responder; edge = c.serve-served.new.edge })
    c.serve-served.result
    (c.serve-served.ensures.serves
    (record {
      fields = fields;
      first = record { memory = c.args.memory; sink = c.args.sink.now };
    })
    (begins_with g.M.Memory g.W.Sink
    (record { memory = c.args.memory; sink = c.args.sink.now }) fields c.args.desk
    (record { responder = c.new-lines.result; edge = c.args.sink.now }) c.new-3.result
    (c.new-lines.ensures.held ∙ c.in-Ok.ensures) c.new-lines.ensures.responder
    c.new-3.ensures.desk (c.new-3.ensures.withheld ∙ c.in-Ok-new.ensures) c.new-3.ensures.memory
    refl stands keeps)))

pub returns-clause-grows : goal.returns-clause-grows
returns-clause-grows g c =
    let memory = ap (λ (one : DeskResponder g.row.M.Denot). one.memory)
    c.new-lines.ensures.responder ∙ c.new-3.ensures.memory in
    rw (c.into_memory.ensures, c.into_responder.ensures, ← memory)
    (c.serve-served.ensures.grows
    (record { responder = c.new-lines.result; edge = c.args.sink.now })
    (grows_self g.M.Memory g.W.Sink _))
