use Rattle.device_cli.proofs.Told.{told-wave}
use Rattle.device_cli.proofs.command.wave.WaveWatcherTelling.watcher.Goals as goal

pub returns-clause-told : goal.returns-clause-told
returns-clause-told c = λ digest. told-wave
