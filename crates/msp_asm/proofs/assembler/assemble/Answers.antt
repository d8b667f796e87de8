use Rattle.std.proofs.Common.{rules}
use Rattle.msp_asm.{specs.HasBytes.{HasBytesOf, HasInstructionOf}, proofs.HasBytes.of_image}
use Rattle.msp_asm.proofs.assembler.assemble.Goals as goal

pub returns-in-Ok-clause-placed : goal.returns-in-Ok-clause-placed
returns-in-Ok-clause-placed c =
    of_image HasBytesOf c.args.text.now c.assemble_statements.result (search rules)
    (c.statements_stand_in_the_image.ensures c.args.text.now)

pub returns-in-Ok-clause-decoded : goal.returns-in-Ok-clause-decoded
returns-in-Ok-clause-decoded c =
    of_image HasInstructionOf c.args.text.now c.assemble_statements.result (search rules)
    (c.instructions_stand_in_the_image.ensures c.args.text.now)
