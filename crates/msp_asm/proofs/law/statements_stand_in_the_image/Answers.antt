use Rattle.msp_asm.proofs.HasBytes.{statements_stand}
use Rattle.msp_asm.proofs.law.statements_stand_in_the_image.Goals as goal

pub returns : goal.returns
returns c = statements_stand
