-- The instruction that a statement names, at its address.
use Rattle.std.specs.Prelude.{◌+◌, ◌-◌, ◌*◌, ◌/◌, ◌%◌, ◌==◌, ◌&&◌, ℕ, ℤ, pos, neg_ℤ, Bool, not, ◌||◌, nat_le, if◌then◌else◌, Option, None, Result, Ok, Err, option_map}
use Rattle.word_arith.specs.declared.size.Size.{Size}
use Rattle.msp_decode.specs.{declared.{source.Source.Source, dest.Dest.Dest, one.One.One as OneOp, cond.Cond.Cond, reg.Reg.TheVariants.R1, instr.Instr.Instr}, Spelling.{has_size, has_range, takes_result, writes_operand}, Completion.source_form}
use Rattle.part_definitions.specs.CpuRegister.{plus}
use Rattle.text_scan.specs.{declared.fault_kind.FaultKind.FaultKind, Reader.◌>>=◌}
use Rattle.asm_text.specs.declared.{operand.Operand.Operand, form.{Form.{Form, TheVariants.{Two, One, Reti, Jump}}, SourceRole.{SourceRole, TheVariants.{First, Constant, StackTop}}, DestRole.{DestRole, TheVariants.{First as OnlyDest, Second, Register}}}}
use Rattle.msp_asm.specs.{Value.{Scope, value, known_value, address_of}, Operand.{expr_in, operand_words, source_of, dest_of}, declared.instruction.Operands.Operands as OperandsOf}
use Rattle.msp_decode.specs.declared.source.Source.TheVariants as source
use Rattle.msp_decode.specs.declared.dest.Dest.TheVariants as dest
use Rattle.msp_decode.specs.declared.instr.Instr.TheVariants as instr
use Rattle.text_scan.specs.declared.fault_kind.FaultKind.TheVariants as fault

-- the operands of a statement, in the order written
pub record Operands : Type 0 where
  pub first : Option Operand
  pub second : Option Operand

-- the written operand that is the source
abbrev pub written_source : SourceRole → Operands → Option Operand
written_source First operands = operands.first
written_source (Constant constant) operands = None
written_source StackTop operands = None

-- the written operand that is the destination
abbrev pub written_dest : DestRole → Operands → Option Operand
written_dest OnlyDest operands = operands.first
written_dest Second operands = operands.second
written_dest (Register r) operands = None

-- the source, where its extension word is at this address and its expression has this value
abbrev pub source_at : SourceRole → Size → ℕ → Operands → ℤ → Result Source FaultKind
source_at First size at operands value = source_of size at operands.first value
source_at (Constant constant) size at operands value = Ok (source.Constant constant)
source_at StackTop size at operands value = Ok (source.IndirectInc R1)

-- the destination, likewise
abbrev pub dest_at : DestRole → ℕ → Operands → ℤ → Result Dest FaultKind
dest_at OnlyDest at operands value = dest_of at operands.first value
dest_at Second at operands value = dest_of at operands.second value
dest_at (Register r) at operands value = Ok (dest.Reg r)

-- the source of an instruction of one operand: there is one of this size, and what is written to is
-- no immediate and no constant
abbrev pub takes_source : OneOp → Size → Source → Bool
takes_source op size operand =
    has_size op size && (takes_result (source_form operand) || not (writes_operand op))

abbrev pub one_of : OneOp → Size → Source → Result Instr FaultKind
one_of op size operand =
    if takes_source op size operand then Ok (instr.One op size operand) else Err fault.Operand

-- half the way from an address to another
abbrev pub half_way : ℕ → ℕ → ℤ
half_way from to =
    if nat_le from to then pos ((to - from) / 2) else neg_ℤ (pos ((from - to) / 2))

-- a jump at an address to a target: an even one, by -512 to 511 words from the word after it
abbrev pub jump_of : Cond → ℕ → ℕ → Result Instr FaultKind
jump_of cond here target =
    if (target % 2 == 0) && has_range (half_way (here + 2) target)
    then Ok (instr.Jump cond (half_way (here + 2) target))
    else Err fault.Range

-- the number of extension words of the source
abbrev pub source_words : SourceRole → Size → Operands → ℕ
source_words role size operands = operand_words size (written_source role operands)

-- the number of extension words of the destination, which is never an immediate
abbrev pub dest_words : DestRole → Size → Operands → ℕ
dest_words role size operands = operand_words size (written_dest role operands)

-- the instruction of a form, in bytes
abbrev pub form_size : Form → Size → Operands → ℕ
form_size (Two op source dest) size operands =
    2 * (1 + source_words source size operands + dest_words dest size operands)
form_size (One op) size operands = 2 * (1 + operand_words size operands.first)
form_size Reti size operands = 2
form_size (Jump cond) size operands = 2

-- the instruction of a form; its extension words follow its first word, the source's before the
-- destination's
abbrev pub instruction_of : Scope → Form → Size → Operands → Result Instr FaultKind
instruction_of scope (Two op source dest) size operands = do
  first ← known_value (value scope (expr_in (written_source source operands)))
  second ← known_value (value scope (expr_in (written_dest dest operands)))
  from ← source_at source size (plus scope.here 2) operands first
  to ← dest_at dest (plus scope.here (2 + 2 * source_words source size operands)) operands second
  Ok (instr.Two op size from to)
instruction_of scope (One op) size operands = do
  first ← known_value (value scope (expr_in operands.first))
  from ← source_of size (plus scope.here 2) operands.first first
  one_of op size from
instruction_of scope Reti size operands = Ok instr.Reti
instruction_of scope (Jump cond) size operands = do
  first ← known_value (value scope (expr_in operands.first))
  target ← address_of first
  jump_of cond scope.here target

-- The operands of a statement of the program.

abbrev pub operands_in : OperandsOf → Operands
operands_in operands =
    record {
      first = option_map (λ operand. operand.now) operands.first;
      second = option_map (λ operand. operand.now) operands.second;
    }
