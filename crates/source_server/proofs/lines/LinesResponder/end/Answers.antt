use Rattle.std.proofs.{Common.{◌∙◌, sym}, lemmas.{Bool.false≢true, Result.err_from_is_err_and}}
use Rattle.source_server.proofs.LineLemmas.{last_settled, last_stopped}
use Rattle.source_server.proofs.lines.LinesResponder.end.Goals as goal

pub returns-in_err-answer-clause-ends : goal.returns-in_err-answer-clause-ends
returns-in_err-answer-clause-ends g c =
    let error = err_from_is_err_and c.from_residual.result c.from_residual.ensures.1 in
    rw (error.1, error.2) (λ start bytes so.
    record {
      all = tt;
      stops = last_stopped (g.L.LineResponder.promise start) bytes c.in_err-answer.field-0.0
          (λ is. false≢true (sym c.if-is_empty.false ∙ c.is_empty.ensures.1 is)) so.0
          c.line_at_end.ensures (c.in_err-answer.ensures.answers start);
    })

pub returns-clause-ends : goal.returns-clause-ends
returns-clause-ends g c = λ start bytes so.
    let settled = last_settled (g.L.LineResponder.promise start) bytes c.settle.result
    (λ is. false≢true (sym c.if-is_empty.false ∙ c.is_empty.ensures.1 is)) so.0
    c.line_at_end.ensures
    (c.in_ok-answer.ensures.answers start) (c.settle.ensures.settles start) in
    record { all = settled.0; stops = settled.1 }
