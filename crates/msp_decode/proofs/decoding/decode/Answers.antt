use Rattle.std.proofs.Common.{◌∙◌, sym, ap, arith, Some}
use Rattle.msp_decode.proofs.{HeadLemmas.{head_of-one, head_of-two, spells_where_found}, IllegalLemmas.illegal_where_none}
use Rattle.msp_decode.proofs.decoding.decode.Goals as goal

pub returns-in-4096-to-4863-clause-spelled : goal.returns-in-4096-to-4863-clause-spelled
returns-in-4096-to-4863-clause-spelled c =
    spells_where_found c.args.word c.one_operand.result (omega arith)
    (c.one_operand.ensures ∙ sym (head_of-one c.args.word (omega arith) (omega arith)))

pub returns-in-4096-to-4863-clause-illegal : goal.returns-in-4096-to-4863-clause-illegal
returns-in-4096-to-4863-clause-illegal c =
    illegal_where_none c.args.word c.one_operand.result (omega arith)
    (c.one_operand.ensures ∙ sym (head_of-one c.args.word (omega arith) (omega arith)))

pub returns-in_default-clause-spelled : goal.returns-in_default-clause-spelled
returns-in_default-clause-spelled c =
    spells_where_found c.args.word (Some c.two_operands.result) (omega arith)
    (ap Some c.two_operands.ensures ∙ sym (head_of-two c.args.word (omega arith)))
