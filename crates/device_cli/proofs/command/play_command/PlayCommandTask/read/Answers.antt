use Rattle.device_cli.{specs.{Play.play_with, Row.put}, proofs.LawfulRow.steps_row_lawful}
use Rattle.device_cli.proofs.command.play_command.PlayCommandTask.read.Goals as goal

pub returns-clause-reads : goal.returns-clause-reads
returns-clause-reads g c =
    let self = c.args.self.now in
    c.read.ensures (λ values.
    put (g.T.Telling.outcome (play_with self.arguments.steps values.0.0 values.0.1 values.1)))

pub returns-clause-lawful : goal.returns-clause-lawful
returns-clause-lawful g c =
    let self = c.args.self.now in
    steps_row_lawful g.T.Telling.outcome self.arguments.files.image.name.now
    self.arguments.files.script.name.now self.arguments.files.key.name.now self.arguments.steps
    g.met.T.Telling.of_play
