use Rattle.std.proofs.lemmas.Result.{err_from_is_err_and}
use Rattle.verifier_desk.proofs.desk.Desk.answer_said.Goals as goal

pub returns-in_err-answer_own-in-Own-clause-answers :
    goal.returns-in_err-answer_own-in-Own-clause-answers
returns-in_err-answer_own-in-Own-clause-answers g c = λ fields lines so.
    let fault = err_from_is_err_and c.from_residual.result c.from_residual.ensures.1 in
    rw (c.in-Own.is, fault.1, fault.2)
    (c.in_err-answer_own-in-Own.ensures.answers fields lines so)

pub returns-in_ok-answer_own-in-Own-clause-answers :
    goal.returns-in_ok-answer_own-in-Own-clause-answers
returns-in_ok-answer_own-in-Own-clause-answers g c = λ fields lines so.
    rw c.in-Own.is (c.in_ok-answer_own-in-Own.ensures.answers fields lines so)
