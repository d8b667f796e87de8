use Rattle.device_cli.proofs.Told.{told-trace}
use Rattle.device_cli.proofs.command.trace.TraceWatcherTelling.watcher.Goals as goal

pub returns-clause-told : goal.returns-clause-told
returns-clause-told c = λ digest. told-trace
