-- Registers whose PC is even, as every write to PC leaves them.
use Rattle.std.proofs.{Common.{◌≡◌, ℕ, ◌/◌, ◌*◌, ◌%◌, List, [], ◌∷◌, Option, Some, None, arith}, lemmas.Bool.cond_both}
use Rattle.word_arith.specs.declared.flags.Flags.{Flags}
use Rattle.msp_decode.specs.{declared.{dest_form.DestForm.{DestForm, TheVariants.{Register as DestRegister, Indexed as DestIndexed}}, head.Head.{Head, TheVariants.{Two, One as OneOperand, Reti, Jump}}, one.One.{One, TheVariants.{Rrc, Swpb, Rra, Sxt, Push, Call}}, reg.Reg.{Reg, TheVariants.{R0, R1, R2, R3, R4, R5, R6, R7, R8, R9, R10, R11, R12, R13, R14, R15}}, source_form.SourceForm.{SourceForm, TheVariants.{Register, Indexed, Indirect, IndirectInc, Immediate, Constant}}}, Head.head_of}
use Rattle.part_definitions.specs.{CpuRegister.{minus, pc_of, sp_of, with_register, with_pc, with_sp, with_flags, after_pop, flags_in}, CpuState.{CpuState, Boundary, Executing, Entering, cpu_next, with_value, completion_or, cpu_after}, Instruction.{has_result, result_of, with_destination, with_operand, after_one, after_result, is_taken, jump_target, after_value}, NextAccess.{Next, Asks, Completes, walk, walk_head, next_access, entry_access}, Operand.state_at_start, CpuAccess.accesses_of, declared.{cpu_access.CpuAccess.{CpuAccess, TheVariants.{FetchImmediate, FetchSourceIndex, ReadSource, ReadIncrementing, FetchDestinationIndex, ReadDestination, WriteResult, PushSource, PushPc, PopSr, PopPc}}, working_state.WorkingState.WorkingState}}

abbrev pub IsProper : List ℕ → Type 0
IsProper [] = ⊥
IsProper (pc ∷ rest) = pc % 2 ≡ 0

even-even : (word : ℕ) → word / 2 * 2 % 2 ≡ 0
even-even word = omega arith

pub with_register-proper : (regs : List ℕ) (register : Reg) (word : ℕ)
    → IsProper regs → IsProper (with_register regs register word)
with_register-proper [] register word proper = absurd proper
with_register-proper (pc ∷ rest) R0 word proper = even-even word
with_register-proper (pc ∷ rest) R1 word proper = proper
with_register-proper (pc ∷ rest) R2 word proper = proper
with_register-proper (pc ∷ rest) R3 word proper = proper
with_register-proper (pc ∷ rest) R4 word proper = proper
with_register-proper (pc ∷ rest) R5 word proper = proper
with_register-proper (pc ∷ rest) R6 word proper = proper
with_register-proper (pc ∷ rest) R7 word proper = proper
with_register-proper (pc ∷ rest) R8 word proper = proper
with_register-proper (pc ∷ rest) R9 word proper = proper
with_register-proper (pc ∷ rest) R10 word proper = proper
with_register-proper (pc ∷ rest) R11 word proper = proper
with_register-proper (pc ∷ rest) R12 word proper = proper
with_register-proper (pc ∷ rest) R13 word proper = proper
with_register-proper (pc ∷ rest) R14 word proper = proper
with_register-proper (pc ∷ rest) R15 word proper = proper

pub with_pc-proper : (regs : List ℕ) (pc : ℕ) → IsProper regs → IsProper (with_pc regs pc)
with_pc-proper regs pc proper = with_register-proper regs R0 pc proper

-- the working registers after each access
pub after_value-proper : (head : Head) (access : CpuAccess) (value : ℕ) (work : WorkingState)
    → IsProper work.regs → IsProper (after_value head access value work).regs
after_value-proper head FetchImmediate value work proper = with_pc-proper work.regs _ proper
after_value-proper head (FetchSourceIndex register) value work proper =
    with_pc-proper work.regs _ proper
after_value-proper head ReadSource value work proper = proper
after_value-proper head (ReadIncrementing register) value work proper =
    with_register-proper work.regs register _ proper
after_value-proper head (FetchDestinationIndex register) value work proper =
    with_pc-proper work.regs _ proper
after_value-proper head ReadDestination value work proper = proper
after_value-proper head WriteResult value work proper = proper
after_value-proper head PushSource value work proper =
    with_register-proper work.regs R1 _ proper
after_value-proper head PushPc value work proper = with_register-proper work.regs R1 _ proper
after_value-proper head PopSr value work proper =
    with_register-proper (after_pop work.regs) R2 _ (with_register-proper work.regs R1 _ proper)
after_value-proper head PopPc value work proper =
    with_register-proper (after_pop work.regs) R0 _ (with_register-proper work.regs R1 _ proper)

-- the registers after the last access
with_flags-proper : (regs : List ℕ) (flags : Flags) → IsProper regs
    → IsProper (with_flags regs flags)
with_flags-proper regs flags proper = with_register-proper regs R2 _ proper

with_destination-proper : (form : DestForm) (number : ℕ) (regs : List ℕ) → IsProper regs
    → IsProper (with_destination form number regs)
with_destination-proper (DestRegister register) number regs proper =
    with_register-proper regs register number proper
with_destination-proper (DestIndexed register) number regs proper = proper

with_operand-proper : (form : SourceForm) (number : ℕ) (regs : List ℕ) → IsProper regs
    → IsProper (with_operand form number regs)
with_operand-proper (Register register) number regs proper =
    with_register-proper regs register number proper
with_operand-proper (Indexed register) number regs proper = proper
with_operand-proper (Indirect register) number regs proper = proper
with_operand-proper (IndirectInc register) number regs proper = proper
with_operand-proper Immediate number regs proper = proper
with_operand-proper (Constant constant) number regs proper = proper

after_one-proper : (op : One) (source : SourceForm) (result : ℕ × Flags) (regs : List ℕ)
    → IsProper regs → IsProper (after_one op source result regs)
after_one-proper Push source result regs proper = proper
after_one-proper Call source result regs proper = with_pc-proper regs result.0 proper
after_one-proper Rrc source result regs proper =
    with_operand-proper source result.0 _ (with_flags-proper regs result.1 proper)
after_one-proper Swpb source result regs proper =
    with_operand-proper source result.0 _ (with_flags-proper regs result.1 proper)
after_one-proper Rra source result regs proper =
    with_operand-proper source result.0 _ (with_flags-proper regs result.1 proper)
after_one-proper Sxt source result regs proper =
    with_operand-proper source result.0 _ (with_flags-proper regs result.1 proper)

after_result-proper : (head : Head) (result : ℕ × Flags) (regs : List ℕ)
    → IsProper regs → IsProper (after_result head result regs)
after_result-proper (Two op size source destination) result regs proper =
    let flagged : IsProper (with_flags regs result.1) = with_flags-proper regs result.1 proper in
    cond_both (has_result op) (with_destination destination result.0 (with_flags regs result.1))
    (with_flags regs result.1) IsProper
    (λ has. with_destination-proper destination result.0 (with_flags regs result.1) flagged)
    (λ none. flagged)
after_result-proper (OneOperand op size source) result regs proper =
    after_one-proper op source result regs proper
after_result-proper Reti result regs proper = proper
after_result-proper (Jump condition offset) result regs proper =
    cond_both (is_taken condition (flags_in regs))
    (with_pc regs (jump_target (pc_of regs) offset)) regs IsProper
    (λ taken. with_pc-proper regs _ proper)
    (λ passed. proper)

-- what is next ends with such registers
abbrev pub EndsProper : Next → Type 0
EndsProper (Asks access) = Unit {0}
EndsProper (Completes regs) = IsProper regs

walk-proper : (head : Head) (accesses : List CpuAccess) (work : WorkingState) (values : List ℕ)
    → IsProper work.regs → EndsProper (walk head accesses work values)
walk-proper head [] work values proper =
    after_result-proper head (result_of head work) work.regs proper
walk-proper head (access ∷ accesses) work [] proper = tt
walk-proper head (access ∷ accesses) work (value ∷ values) proper =
    walk-proper head accesses (after_value head access value work) values
    (after_value-proper head access value work proper)

start-proper : (head : Head) (regs : List ℕ) → IsProper regs
    → IsProper (state_at_start head regs).regs
start-proper (Two op size source destination) regs proper = with_pc-proper regs _ proper
start-proper (OneOperand op size source) regs proper = with_pc-proper regs _ proper
start-proper Reti regs proper = with_pc-proper regs _ proper
start-proper (Jump condition offset) regs proper = with_pc-proper regs _ proper

walk_head-proper : (head : Option Head) (regs values : List ℕ) → IsProper regs
    → EndsProper (walk_head head regs values)
walk_head-proper None regs values proper = proper
walk_head-proper (Some head) regs values proper =
    walk-proper head (accesses_of head) (state_at_start head regs) values
    (start-proper head regs proper)

next_access-proper : (regs values : List ℕ) → IsProper regs → EndsProper (next_access regs values)
unfolding next_access
next_access-proper regs [] proper = tt
next_access-proper regs (word ∷ values) proper = walk_head-proper (head_of word) regs values proper

entry_access-proper : (regs : List ℕ) (vector : ℕ) (values : List ℕ) → IsProper regs
    → EndsProper (entry_access regs vector values)
unfolding entry_access
entry_access-proper regs vector [] proper = tt
entry_access-proper regs vector (first ∷ []) proper = tt
entry_access-proper regs vector (first ∷ second ∷ []) proper = tt
entry_access-proper regs vector (first ∷ second ∷ word ∷ values) proper =
    with_pc-proper _ word
    (with_register-proper (with_sp regs (minus (sp_of regs) 4)) R2 _
    (with_register-proper regs R1 _ proper))

-- of a processor: an instruction that has begun has its opcode among its values
abbrev pub IsProperCpu : CpuState → Type 0
IsProperCpu (Boundary regs) = IsProper regs
IsProperCpu (Executing regs []) = ⊥
IsProperCpu (Executing regs (word ∷ values)) = IsProper regs
IsProperCpu (Entering regs vector values) = IsProper regs

with_value-proper : (cpu : CpuState) (value : ℕ) → IsProperCpu cpu
    → IsProperCpu (with_value cpu value)
with_value-proper (Boundary regs) value proper = proper
with_value-proper (Executing regs []) value proper = absurd proper
with_value-proper (Executing regs (word ∷ values)) value proper = proper
with_value-proper (Entering regs vector values) value proper = proper

cpu_next-proper : (cpu : CpuState) → IsProperCpu cpu → EndsProper (cpu_next cpu)
cpu_next-proper (Boundary regs) proper = next_access-proper regs [] proper
cpu_next-proper (Executing regs []) proper = absurd proper
cpu_next-proper (Executing regs (word ∷ values)) proper =
    next_access-proper regs (word ∷ values) proper
cpu_next-proper (Entering regs vector values) proper =
    entry_access-proper regs vector values proper

completion_or-proper : (cpu : CpuState) (next : Next) → IsProperCpu cpu → EndsProper next
    → IsProperCpu (completion_or cpu next)
completion_or-proper cpu (Asks access) proper ends = proper
completion_or-proper cpu (Completes regs) proper ends = ends

pub cpu_after-proper : (cpu : CpuState) (value : ℕ) → IsProperCpu cpu
    → IsProperCpu (cpu_after cpu value)
cpu_after-proper cpu value proper =
    let after : IsProperCpu (with_value cpu value) = with_value-proper cpu value proper in
    completion_or-proper (with_value cpu value) (cpu_next (with_value cpu value)) after
    (cpu_next-proper (with_value cpu value) after)
