use Rattle.std.proofs.Common.{refl}
use Rattle.verifier_desk.{specs.Telling.outside_at, proofs.{DeskServed.lines_settled, MoreLines.grows_more}}
use Rattle.verifier_desk.proofs.desk_responder.DeskResponderLineResponder.settle.Goals as goal

pub returns-clause-settles : goal.returns-clause-settles
returns-clause-settles g c = λ start lines tells.
    lines_settled g.M.Memory g.W.Sink start.first start.fields c.args.self.now.desk
    (record {
      responder = record {
        desk = c.args.self.now.desk;
        withheld = c.put_withheld.new.withheld;
        memory = c.put_withheld.new.memory;
      };
      edge = c.put_withheld.new.sink;
    })
    lines c.put_withheld.result refl c.put_withheld.ensures.empty tells.stands
    (c.put_withheld.ensures.puts start.fields lines start.first tells.told)

pub returns-clause-grows : goal.returns-clause-grows
returns-clause-grows g c = λ first before.
    grows_more g.M.Memory g.W.Sink (outside_at first) _ _ before c.put_withheld.ensures.grows
