use Rattle.device_trace.specs.Text.{lines_of}
use Rattle.device_play.proofs.{GoesOn.lines-go_on, WriteCounts.takes-nothing}
use Rattle.device_play.proofs.line_watcher.LineWatcherWatcher.begin.Goals as goal

pub returns-clause-goes_on : goal.returns-clause-goes_on
returns-clause-goes_on g c = λ digest. lines-go_on

pub returns-clause-puts : goal.returns-clause-puts
unfolding lines_of
returns-clause-puts g c = λ digest start.
    record { all = takes-nothing g.W.Sink.stands c.args._sink.now; prefix = tt }
