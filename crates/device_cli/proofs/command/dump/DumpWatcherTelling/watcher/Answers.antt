use Rattle.device_cli.proofs.Told.{told-memory}
use Rattle.device_cli.proofs.command.dump.DumpWatcherTelling.watcher.Goals as goal

pub returns-clause-told : goal.returns-clause-told
returns-clause-told c = λ digest. told-memory
