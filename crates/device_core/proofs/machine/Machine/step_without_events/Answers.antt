use Rattle.std.proofs.Common.{◌∙◌, sym}
use Rattle.device_core.proofs.machine.Machine.step_without_events.Goals as goal

pub returns-in-Running-clause-stands : goal.returns-in-Running-clause-stands
returns-in-Running-clause-stands g c = λ start logs stands (stage, dma).
    c.step_running.ensures.stands start logs stands (sym c.in-Running.is ∙ stage, dma)

pub returns-in-Running-clause-kept : goal.returns-in-Running-clause-kept
returns-in-Running-clause-kept g c = λ start logs stands (stage, dma) none.
    c.step_running.ensures.kept start logs stands (sym c.in-Running.is ∙ stage, dma) none

pub returns-in-Held-clause-stands : goal.returns-in-Held-clause-stands
returns-in-Held-clause-stands g c = λ start logs stands (stage, dma).
    c.step_after_events.ensures.stands start logs stands stage

pub returns-in-Held-clause-kept : goal.returns-in-Held-clause-kept
returns-in-Held-clause-kept g c = λ start logs stands (stage, dma) none.
    c.step_after_events.ensures.kept start logs stands stage none
