use Rattle.std.proofs.Common.{refl}
use Rattle.input_files.proofs.ReadInTurn.{first-refused}
use Rattle.device_cli.{specs.{Row.put, Verify.verify_outcome}, proofs.{LawfulRow.verify_row_lawful, NamedRead.named-read}}
use Rattle.report_verifier.specs.Judge.{judge_with}
use Rattle.device_cli.proofs.command.verify.VerifyTask.read.Goals as goal

pub returns-in_err-values-clause-reads : goal.returns-in_err-values-clause-reads
returns-in_err-values-clause-reads g c =
    let self = c.args.self.now in
    first-refused _ _
    (c.in_err-values.ensures (λ values.
    put (verify_outcome self.all (judge_with values.0.0 values.0.1 values.1.0) values.1.1)))
    c.from_residual.ensures.1

pub returns-in_err-values-clause-lawful : goal.returns-in_err-values-clause-lawful
returns-in_err-values-clause-lawful g c =
    let self = c.args.self.now in
    verify_row_lawful self.all self.image.name.now self.policy.name.now self.key.name.now
    self.reports.name.now

pub returns-clause-reads : goal.returns-clause-reads
returns-clause-reads g c =
    let self = c.args.self.now in
    named-read _ _
    (c.in_ok-values.ensures (λ values.
    put (verify_outcome self.all (judge_with values.0.0 values.0.1 values.1.0) values.1.1)))
    refl

pub returns-clause-lawful : goal.returns-clause-lawful
returns-clause-lawful g c =
    let self = c.args.self.now in
    verify_row_lawful self.all self.image.name.now self.policy.name.now self.key.name.now
    self.reports.name.now
