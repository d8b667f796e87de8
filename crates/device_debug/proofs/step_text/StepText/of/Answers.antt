use Rattle.std.proofs.Common.{ap}
use Rattle.device_debug.{specs.Telling.GrownText, proofs.Refusals.grown-all}
use Rattle.device_debug.proofs.step_text.StepText.of.Goals as goal

pub returns-clause-text : goal.returns-clause-text
returns-clause-text g c = λ run stands.
    grown-all _ _ _ _ (ap (λ (one : GrownText). one.bytes) c.new-text.ensures)
    c.in_ok-memory_result.ensures.same (c.print.ensures run stands)
