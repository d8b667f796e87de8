use Rattle.asm_text.proofs.FirstFault.{source_of-fault}
use Rattle.asm_text.proofs.law.fault_is_of_the_first_faulty_line.Goals as goal

pub returns : goal.returns
returns c = source_of-fault
