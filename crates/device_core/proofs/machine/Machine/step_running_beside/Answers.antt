use Rattle.std.proofs.Common.{◌∙◌, false, sym}
use Rattle.device_core.proofs.{QuietSteps.goes-over, Turns.stage-Boundary}
use Rattle.device_core.proofs.machine.Machine.step_running_beside.Goals as goal

pub returns-then-not-at_boundary-clause-stands : goal.returns-then-not-at_boundary-clause-stands
returns-then-not-at_boundary-clause-stands g c = λ start logs stands (stage, dma).
    c.make_turn.ensures.stands start logs
    (c.turn_in_the_middle-turn.ensures _ logs stands
    (sym (c.at_boundary.ensures _ stands.same_progress.same_processor)
    ∙ c.if-not-at_boundary.true))
    (c.access_where-dma.ensures ∙ dma)

pub returns-then-fetches-clause-stands : goal.returns-then-fetches-clause-stands
returns-then-fetches-clause-stands g c = λ start logs stands (stage, dma).
    let here = stage-Boundary logs.progress stage
    (sym c.if-not-at_boundary.false
    ∙ c.at_boundary.ensures _ stands.same_progress.same_processor) in
    c.make_turn-then-fetches.ensures.stands start logs
    (c.turn_of_fetch-turn.ensures _ logs stands
    (c.fetches.ensures _ logs stands here c.if-fetches.true))
    (c.access_where-dma.ensures ∙ dma)

pub returns-else-fetches-clause-stands : goal.returns-else-fetches-clause-stands
returns-else-fetches-clause-stands g c = λ start logs stands (stage, dma).
    c.step_after_events.ensures.stands start logs stands stage

pub returns-then-not-at_boundary-clause-kept : goal.returns-then-not-at_boundary-clause-kept
returns-then-not-at_boundary-clause-kept g c = λ start logs stands (stage, dma) none.
    let turn = c.turn_in_the_middle-turn.ensures _ logs stands
    (sym (c.at_boundary.ensures _ stands.same_progress.same_processor)
    ∙ c.if-not-at_boundary.true) in
    let beside = c.access_where-dma.ensures ∙ dma in
    let after = c.make_turn.ensures.stands start logs turn beside in
    goes-over (g.Q.Quiet.quiet c.args.quiet.now) start logs false _ _ _ turn.same_turn.same_access
    beside c.make_turn.ensures.kept
    after.same.same_bus.same_last none

pub returns-then-fetches-clause-kept : goal.returns-then-fetches-clause-kept
returns-then-fetches-clause-kept g c = λ start logs stands (stage, dma) none.
    let here = stage-Boundary logs.progress stage
    (sym c.if-not-at_boundary.false
    ∙ c.at_boundary.ensures _ stands.same_progress.same_processor) in
    let turn = c.turn_of_fetch-turn.ensures _ logs stands
    (c.fetches.ensures _ logs stands here c.if-fetches.true) in
    let beside = c.access_where-dma.ensures ∙ dma in
    let after = c.make_turn-then-fetches.ensures.stands start logs turn beside in
    goes-over (g.Q.Quiet.quiet c.args.quiet.now) start logs false _ _ _ turn.same_turn.same_access
    beside
    c.make_turn-then-fetches.ensures.kept after.same.same_bus.same_last none

pub returns-else-fetches-clause-kept : goal.returns-else-fetches-clause-kept
returns-else-fetches-clause-kept g c = λ start logs stands (stage, dma) none.
    c.step_after_events.ensures.kept start logs stands stage none
