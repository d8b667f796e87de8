use Rattle.std.proofs.Common.{◌∙◌, sym}
use Rattle.device_core.proofs.Turns.{stage-Boundary}
use Rattle.device_core.proofs.machine.Machine.try_calm_step.Goals as goal

pub returns-then-not-at_boundary-clause-made : goal.returns-then-not-at_boundary-clause-made
returns-then-not-at_boundary-clause-made g c = λ made start logs stands stage region.
    c.try_calm_access.ensures.made made start logs stands
    (sym (c.at_boundary.ensures _ stands.same_progress.same_processor)
    ∙ c.if-not-at_boundary.true)
    region

pub returns-then-fetches-clause-made : goal.returns-then-fetches-clause-made
returns-then-fetches-clause-made g c = λ made start logs stands stage region.
    let here = stage-Boundary logs.progress stage
    (sym c.if-not-at_boundary.false
    ∙ c.at_boundary.ensures _ stands.same_progress.same_processor) in
    c.try_calm_fetch.ensures.made made start logs stands
    (c.fetches.ensures _ logs stands here c.if-fetches.true) region
