use Rattle.asm_text.proofs.FirstFault.{source_of-lines}
use Rattle.asm_text.proofs.law.statements_are_of_the_lines.Goals as goal

pub returns : goal.returns
returns c = source_of-lines
