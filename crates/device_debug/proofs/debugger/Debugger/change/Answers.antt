use Rattle.debug_session.specs.Stops.{Stops, with_change}
use Rattle.device_debug.proofs.Answering.{stops-asked}
use Rattle.device_debug.proofs.debugger.Debugger.change.Goals as goal

pub returns-then-change-clause-gives : goal.returns-then-change-clause-gives
returns-then-change-clause-gives g c =
    stops-asked c.change.new.self (λ (stops : Stops). with_change stops c.args.change)
    c.change.result c.change.ensures (rw c.if-change.true c.say.ensures.gives)

pub returns-else-change-clause-gives : goal.returns-else-change-clause-gives
returns-else-change-clause-gives g c =
    stops-asked c.change.new.self (λ (stops : Stops). with_change stops c.args.change)
    c.change.result c.change.ensures (rw c.if-change.false c.say-else-change.ensures.gives)
