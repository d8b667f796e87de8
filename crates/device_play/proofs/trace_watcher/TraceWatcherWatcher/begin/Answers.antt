use Rattle.trace_files.specs.TraceText.{trace_lines}
use Rattle.device_play.proofs.{GoesOn.trace-goes_on, WriteCounts.takes-nothing}
use Rattle.device_play.proofs.trace_watcher.TraceWatcherWatcher.begin.Goals as goal

pub returns-clause-goes_on : goal.returns-clause-goes_on
returns-clause-goes_on g c = λ digest. trace-goes_on

pub returns-clause-tally : goal.returns-clause-tally
unfolding trace_lines
returns-clause-tally g c = λ digest start. tt

pub returns-clause-puts : goal.returns-clause-puts
unfolding trace_lines
returns-clause-puts g c = λ digest start.
    record { all = takes-nothing g.W.Sink.stands c.args._sink.now; prefix = tt }
