use Rattle.device_debug.proofs.{Answering.none-said, Gone.{request-failed, told-request}}
use Rattle.device_debug.proofs.debugger.Debugger.monitor.Goals as goal

pub returns-in_err-current_walk-clause-gives : goal.returns-in_err-current_walk-clause-gives
returns-in_err-current_walk-clause-gives g c =
    none-said c.from_residual.ensures.0 c.keep_request.ensures.same_run

pub returns-in_err-tell-clause-gives : goal.returns-in_err-tell-clause-gives
returns-in_err-tell-clause-gives g c =
    request-failed _ _ c.args.request c.keep_request.ensures.same_run
    c.in_ok-current_walk.ensures.halted c.keep_request.ensures.keeps c.in_err-tell.field-0.0
    c.from_residual-in_err-tell.ensures.0 c.in_err-tell.ensures.tells

pub returns-clause-gives : goal.returns-clause-gives
returns-clause-gives g c =
    told-request _ _ c.args.request c.keep_request.ensures.same_run
    c.in_ok-current_walk.ensures.halted c.keep_request.ensures.keeps c.in_ok-tell.field-0
    c.in_ok-tell.ensures.tells c.say.ensures.gives
