use Rattle.std.proofs.Common.{◌∙◌, sym}
use Rattle.device_cli.proofs.Unanswered.{expected-within, unanswered-none, unanswered-some, unexpected-past}
use Rattle.device_cli.proofs.verdict.tally.Tally.first_unanswered.Goals as goal

pub returns-in_err-expect-clause-first : goal.returns-in_err-expect-clause-first
returns-in_err-expect-clause-first c = λ decisions counts.
    let policy = c.args.policy.now in
    let next = c.args.self.now.leading_accepts in
    c.from_residual.ensures
    ∙ sym (unanswered-none policy.requests decisions next counts.leading_accepts
    (unexpected-past policy next (sym c.in_err-expect.ensures.expectation)))

pub returns-clause-first : goal.returns-clause-first
returns-clause-first c = λ decisions counts.
    let policy = c.args.policy.now in
    let next = c.args.self.now.leading_accepts in
    sym (unanswered-some policy.requests decisions next counts.leading_accepts
    (expected-within policy next c.in_ok-expect.field-0
    (sym c.in_ok-expect.ensures.expectation)))
