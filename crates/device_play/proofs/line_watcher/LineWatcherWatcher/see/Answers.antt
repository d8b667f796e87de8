use Rattle.device_play.{specs.Accounts.line_account, proofs.SeenStep.{seen-all, seen-failed}}
use Rattle.device_play.proofs.line_watcher.LineWatcherWatcher.see.Goals as goal

pub returns-in_err-print_last_step-clause-seen : goal.returns-in_err-print_last_step-clause-seen
returns-in_err-print_last_step-clause-seen g c = λ start events play shown.
    seen-failed {account = line_account} c.from_residual.result c.from_residual.ensures.1
    (c.in_err-print_last_step.ensures.puts start events play shown.device
    shown.number).prefix

pub returns-clause-seen : goal.returns-clause-seen
returns-clause-seen g c = λ start events play shown.
    seen-all {account = line_account} tt
    (c.in_ok-print_last_step.ensures.puts start events play shown.device
    shown.number).all
