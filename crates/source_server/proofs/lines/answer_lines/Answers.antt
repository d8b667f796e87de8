use Rattle.std.proofs.{Common.{◌+◌, arith, take, drop, length-drop, length-take, List, ℕ}, lemmas.{List.take_rest, Result.err_from_is_err_and}}
use Rattle.source_server.proofs.LineLemmas.{line_more, none_answered, piece_stopped, piece_told, plain_front, split_at_end}
use Rattle.source_server.proofs.lines.answer_lines.Goals as goal

pub loop-end-init : goal.loop-end-init
loop-end-init g c =
    record {
      within = omega arith;
      tells = λ start. none_answered (g.L.LineResponder.promise start) _ _ _;
      grows = λ first so. so;
    }

pub loop-end-preserved : goal.loop-end-preserved
loop-end-preserved g c =
    let rest : List ℕ = c.loop-end.rest.now in
    let end : ℕ = c.in-Some.end in
    record {
      within = omega (
        arith,
        length-take {A = ℕ},
        length-drop {A = ℕ},
        c.loop-end.invariant.within,
      );
      tells = λ start. line_more (g.L.LineResponder.promise start) (take end rest)
          (drop (end + 1) rest) (c.loop-end.invariant.tells start)
          (split_at_end rest end c.in-Some.ensures.within c.in-Some.ensures.end)
          (take_rest rest (end + 1))
          (plain_front rest end c.in-Some.ensures.before) c.push.ensures c.line_at_newline.ensures
          c.clear.ensures (c.in_ok-answer.ensures.answers start);
      grows = λ first so. c.in_ok-answer.ensures.grows first (c.loop-end.invariant.grows first so);
    }

pub returns-in_err-answer-clause-tells : goal.returns-in_err-answer-clause-tells
returns-in_err-answer-clause-tells g c =
    let rest : List ℕ = c.loop-end.rest.now in
    let end : ℕ = c.in-Some.end in
    let error = err_from_is_err_and c.from_residual.result c.from_residual.ensures.1 in
    rw (error.1, error.2) (λ start cut before.
    piece_stopped (g.L.LineResponder.promise start) (take end rest) (drop (end + 1) rest)
    c.in_err-answer.field-0.0 (c.loop-end.invariant.tells start)
    (split_at_end rest end c.in-Some.ensures.within c.in-Some.ensures.end)
    (plain_front rest end c.in-Some.ensures.before) c.push.ensures c.line_at_newline.ensures
    (c.in_err-answer.ensures.answers start) cut before)

pub returns-in_err-answer-clause-grows : goal.returns-in_err-answer-clause-grows
returns-in_err-answer-clause-grows g c = λ first so.
    c.answer.ensures.grows first (c.loop-end.invariant.grows first so)

pub returns-clause-tells : goal.returns-clause-tells
returns-clause-tells g c = λ start cut before.
    piece_told (g.L.LineResponder.promise start) (c.loop-end.invariant.tells start)
    c.in_default.ensures.none c.push-2.ensures cut before

pub returns-clause-grows : goal.returns-clause-grows
returns-clause-grows g c = λ first so. c.loop-end.invariant.grows first so
