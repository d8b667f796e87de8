use Rattle.device_cli.proofs.Told.{told-lines}
use Rattle.device_cli.proofs.command.play.LineWatcherTelling.watcher.Goals as goal

pub returns-clause-told : goal.returns-clause-told
returns-clause-told c = λ digest. told-lines
