use Rattle.device_core.proofs.QuietSteps.{goes-over}
use Rattle.device_core.proofs.machine.Machine.step_after_events.Goals as goal

pub returns-clause-stands : goal.returns-clause-stands
returns-clause-stands g c = λ start logs stands stage.
    c.make_turn.ensures.stands start logs
    (c.turn-turn.ensures start logs stands stage)
    (c.dma_access-dma.ensures start logs stands.same_bus)

pub returns-clause-kept : goal.returns-clause-kept
returns-clause-kept g c = λ start logs stands stage none.
    let turn = c.turn-turn.ensures start logs stands stage in
    let dma = c.dma_access-dma.ensures start logs stands.same_bus in
    let after = c.make_turn.ensures.stands start logs turn dma in
    goes-over (g.Q.Quiet.quiet c.args.quiet.now) start logs c.args.script_reset _ _ _
    turn.same_turn.same_access dma
    c.make_turn.ensures.kept after.same.same_bus.same_last none

pub returns-clause-each : goal.returns-clause-each
returns-clause-each g c = λ none. c.make_turn.ensures.kept (none _ _)
