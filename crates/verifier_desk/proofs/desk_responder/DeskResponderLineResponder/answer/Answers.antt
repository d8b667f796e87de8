use Rattle.verifier_desk.{specs.Telling.outside_at, proofs.MoreLines.grows_more}
use Rattle.verifier_desk.proofs.desk_responder.DeskResponderLineResponder.answer.Goals as goal

pub returns-clause-answers : goal.returns-clause-answers
returns-clause-answers g c = λ start earlier bytes told line.
    let so = c.serve_line.ensures in
    record {
      goes_on = so.goes_on start.fields earlier bytes start.first told line;
      stops = so.stops start.fields earlier bytes start.first told line;
    }

pub returns-clause-grows : goal.returns-clause-grows
returns-clause-grows g c = λ first before.
    grows_more g.M.Memory g.W.Sink (outside_at first) _ _ before c.serve_line.ensures.grows
