use Rattle.std.proofs.Common.{refl}
use Rattle.input_files.proofs.ReadInTurn.{first-refused}
use Rattle.device_cli.{specs.{Round.round_outcome, Row.put}, proofs.{LawfulRow.round_row_lawful, NamedRead.named-read}}
use Rattle.device_cli.proofs.command.round.RoundTask.read.Goals as goal

pub returns-in_err-values-clause-reads : goal.returns-in_err-values-clause-reads
returns-in_err-values-clause-reads g c =
    let self = c.args.self.now in
    first-refused _ _
    (c.in_err-values.ensures (λ values.
    put (round_outcome self.all self.steps values.0.0.0 values.0.0.1 values.0.1 values.1)))
    c.from_residual.ensures.1

pub returns-in_err-values-clause-lawful : goal.returns-in_err-values-clause-lawful
returns-in_err-values-clause-lawful g c =
    let self = c.args.self.now in
    round_row_lawful self.all self.play.image.name.now self.play.script.name.now
    self.play.key.name.now self.policy.name.now self.steps

pub returns-clause-reads : goal.returns-clause-reads
returns-clause-reads g c =
    let self = c.args.self.now in
    named-read _ _
    (c.in_ok-values.ensures (λ values.
    put (round_outcome self.all self.steps values.0.0.0 values.0.0.1 values.0.1 values.1)))
    refl

pub returns-clause-lawful : goal.returns-clause-lawful
returns-clause-lawful g c =
    let self = c.args.self.now in
    round_row_lawful self.all self.play.image.name.now self.play.script.name.now
    self.play.key.name.now self.policy.name.now self.steps
