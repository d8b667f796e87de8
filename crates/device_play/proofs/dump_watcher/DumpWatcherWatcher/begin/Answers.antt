use Rattle.device_play.proofs.GoesOn.{dump-goes_on}
use Rattle.device_play.proofs.dump_watcher.DumpWatcherWatcher.begin.Goals as goal

pub returns-clause-goes_on : goal.returns-clause-goes_on
returns-clause-goes_on g c = λ digest. dump-goes_on
