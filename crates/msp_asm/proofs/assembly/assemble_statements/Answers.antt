use Rattle.msp_asm.proofs.SecondPassMore.{reads_image}
use Rattle.msp_asm.proofs.assembly.assemble_statements.Goals as goal

pub returns : goal.returns
returns c =
    reads_image c.args.statements.now c.image_of.result c.in-Ok.ensures.fault
    c.image_of.ensures.fault c.image_of.ensures.bytes
