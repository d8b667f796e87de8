use Rattle.std.proofs.Common.{rules}
use Rattle.device_cli.proofs.{LawfulRow.work_row_lawful, LoadText.load-reads}
use Rattle.device_cli.proofs.command.work.WorkTask.read.Goals as goal

pub returns-clause-reads : goal.returns-clause-reads
returns-clause-reads g c =
    load-reads g.S.Shelf.files g.S.Shelf.faults g.S.Shelf.misses c.args._shelf.now
    c.args.self.now.seed c.load_of.result c.map_err.result c.load_of.ensures (search rules)

pub returns-clause-lawful : goal.returns-clause-lawful
returns-clause-lawful g c = work_row_lawful c.args.self.now.seed
