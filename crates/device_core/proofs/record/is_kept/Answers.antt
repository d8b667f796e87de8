use Rattle.std.proofs.Common.{◌∙◌, sym}
use Rattle.device_core.proofs.record.is_kept.Goals as goal

pub returns-else-keeps-clause-line : goal.returns-else-keeps-clause-line
returns-else-keeps-clause-line c = λ regs value dma_value unkept.
    sym (c.makes_line.ensures regs value dma_value) ∙ unkept
