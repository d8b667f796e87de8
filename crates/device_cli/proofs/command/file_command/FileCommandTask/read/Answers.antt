use Rattle.device_cli.{specs.{Row.put, Answer.IsPutLawfully}, proofs.LawfulRow.read-always}
use Rattle.device_cli.proofs.command.file_command.FileCommandTask.read.Goals as goal

pub returns-clause-reads : goal.returns-clause-reads
returns-clause-reads g c =
    let self = c.args.self.now in
    let shown = g.met.K.ShownKind.shown in
    rw (shown.row_is self.file.name.now, shown.outcome_is)
    (c.read.ensures (λ value. put (shown.told value)))

pub returns-clause-lawful : goal.returns-clause-lawful
returns-clause-lawful g c =
    let self = c.args.self.now in
    let shown = g.met.K.ShownKind.shown in
    rw (shown.row_is self.file.name.now)
    (read-always IsPutLawfully _ self.file.name.now _
    (λ value bytes is. rw (shown.of_no_play value) tt))
