use Rattle.msp_asm.proofs.HasBytes.{instructions_stand}
use Rattle.msp_asm.proofs.law.instructions_stand_in_the_image.Goals as goal

pub returns : goal.returns
returns c = instructions_stand c.named_instructions_are_read.ensures
