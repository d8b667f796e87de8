use Rattle.msp_asm.proofs.InstructionWords.{named_are_read}
use Rattle.msp_asm.proofs.bytes_law.named_instructions_are_read.Goals as goal

pub returns : goal.returns
returns c = named_are_read c.words_are_read.ensures
