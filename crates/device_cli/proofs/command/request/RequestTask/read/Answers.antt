use Rattle.input_files.specs.FileKind.{key_kind}
use Rattle.device_cli.{specs.{Request.request_text, Row.{plain, put}, Answer.IsPutLawfully}, proofs.LawfulRow.read-always}
use Rattle.device_cli.proofs.command.request.RequestTask.read.Goals as goal

pub returns-clause-reads : goal.returns-clause-reads
returns-clause-reads g c =
    let self = c.args.self.now in
    c.read.ensures (λ key. put (plain (request_text self.chal self.count key)))

pub returns-clause-lawful : goal.returns-clause-lawful
returns-clause-lawful g c =
    let self = c.args.self.now in
    read-always IsPutLawfully key_kind self.key.name.now _ (λ value bytes is. tt)
