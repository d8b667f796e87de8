use Rattle.std.proofs.Common.{◌∷◌}
use Rattle.device_play.{specs.Accounts.trace_account, proofs.{SeenStep.{seen-all, seen-failed}, TracedStep.{printable-more, puts-traced}}}
use Rattle.device_play.proofs.trace_watcher.TraceWatcherWatcher.see.Goals as goal

pub returns-in_err-print_line-clause-seen : goal.returns-in_err-print_line-clause-seen
returns-in_err-print_line-clause-seen g c = λ start events play shown.
    seen-failed {account = trace_account} c.from_residual.result c.from_residual.ensures.1
    (puts-traced start events play c.args.step c.last_trace_line.result
    shown.number
    (c.last_trace_line.ensures.line start (events ∷ play) shown.device)
    c.in_err-print_line.ensures.puts).prefix

pub returns-clause-seen : goal.returns-clause-seen
returns-clause-seen g c = λ start events play shown.
    let line = c.last_trace_line.ensures.line start (events ∷ play) shown.device in
    seen-all {account = trace_account}
    (printable-more start events play c.last_trace_line.result line
    c.last_trace_line.ensures.printable shown.counted)
    (puts-traced start events play c.args.step c.last_trace_line.result
    shown.number line c.in_ok-print_line.ensures.puts).all
