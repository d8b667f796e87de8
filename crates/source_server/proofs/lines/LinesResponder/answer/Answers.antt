use Rattle.std.proofs.lemmas.Result.{err_from_is_err_and}
use Rattle.source_server.{specs.LineCut.cut_of, proofs.LineLemmas.{among_all, piece_settled}}
use Rattle.source_server.proofs.lines.LinesResponder.answer.Goals as goal

pub returns-in_err-answer_lines-clause-answers : goal.returns-in_err-answer_lines-clause-answers
returns-in_err-answer_lines-clause-answers g c =
    let error = err_from_is_err_and c.from_residual.result c.from_residual.ensures.1 in
    rw (error.1, error.2) (λ start before so.
    record {
      goes_on = tt;
      stops = among_all (g.L.LineResponder.promise start) _ c.in_err-answer_lines.field-0.0 before
          c.args.piece.now
          (c.in_err-answer_lines.ensures.tells start (cut_of before) so.0).stops;
    })

pub returns-clause-answers : goal.returns-clause-answers
returns-clause-answers g c = λ start before so.
    let settled = piece_settled (g.L.LineResponder.promise start) before c.args.piece.now
    c.settle.result (c.in_ok-answer_lines.ensures.tells start (cut_of before) so.0).goes_on
    (c.settle.ensures.settles start) in
    record { goes_on = settled.0; stops = settled.1 }
