-- The end of an instruction of two operands: the form of its source does not matter any more.
use Rattle.std.specs.Prelude.{ℕ}
use Rattle.word_arith.specs.{declared.{size.Size.Size, flags.Flags.Flags, op2.Op2.Op2}, Op2.alu_result}
use Rattle.msp_decode.specs.declared.dest_form.DestForm.{DestForm}
use Rattle.part_definitions.specs.{declared.working_state.WorkingState.WorkingState, CpuRegister.{Registers, flags_in}, Operand.destination_in, Instruction.after_two}

-- result and flags once both operands are known
abbrev pub result_of_two : Op2 → Size → DestForm → WorkingState → ℕ × Flags
result_of_two op size form work =
    alu_result op size work.source (destination_in size form work) (flags_in work.regs)

-- the registers that it leaves
abbrev pub registers_after_two : Op2 → Size → DestForm → WorkingState → Registers
registers_after_two op size form work =
    after_two op form (result_of_two op size form work) work.regs
