-- Operands, as they are written and as an instruction has them.
use Rattle.std.specs.Prelude.{◌==◌, ℕ, ℤ, pos, negsuc, Bool, List, [], ◌∷◌, if◌then◌else◌, Option, Some, None, is_some, Result, Ok, Err}
use Rattle.word_arith.specs.{declared.size.Size.{Size, TheVariants.{Byte, Word}}}
use Rattle.msp_decode.specs.{declared.{reg.Reg.TheVariants.{R0, R2, R3}, constant.Gen.Gen, source.Source.Source, dest.Dest.Dest}, Completion.source_form, Spelling.has_form}
use Rattle.msp_decode.specs.declared.constant.Gen.TheVariants as gen
use Rattle.msp_decode.specs.declared.source.Source.TheVariants as source
use Rattle.msp_decode.specs.declared.dest.Dest.TheVariants as dest
use Rattle.text_scan.specs.{declared.fault_kind.FaultKind.FaultKind, Reader.◌>>=◌}
use Rattle.text_scan.specs.declared.fault_kind.FaultKind.TheVariants as fault
use Rattle.asm_text.specs.{declared.{term.Term.{Term, TheVariants.{Number, Name, Here}}, operand.Operand.{Operand, TheVariants.{Reg, Imm, Abs, Indexed, Symbolic, Indirect, IndirectInc}}}, Expr.SignedTerm}
use Rattle.part_definitions.specs.CpuRegister.{minus}
use Rattle.msp_asm.specs.Value.{with_sign, address_of, word_of, byte_immediate_of}

-- the expression of an operand; the empty one where it has none
abbrev pub expr_in : Option Operand → List SignedTerm
expr_in None = []
expr_in (Some (Reg register)) = []
expr_in (Some (Imm expr)) = expr
expr_in (Some (Abs expr)) = expr
expr_in (Some (Indexed expr register)) = expr
expr_in (Some (Symbolic expr)) = expr
expr_in (Some (Indirect register)) = []
expr_in (Some (IndirectInc register)) = []

-- all ones in an instruction of this size
abbrev pub all_ones : Size → ℕ
all_ones Byte = 255
all_ones Word = 65535

-- the constant of this value that the constant generators give
abbrev pub constant_of : Size → ℤ → Option Gen
constant_of size (pos n) =
    if n == 0 then Some gen.Zero
    else if n == 1 then Some gen.One
    else if n == 2 then Some gen.Two
    else if n == 4 then Some gen.Four
    else if n == 8 then Some gen.Eight
    else if n == all_ones size then Some gen.MinusOne
    else None
constant_of size (negsuc n) = if n == 0 then Some gen.MinusOne else None

-- the constant of an immediate: of a lone number alone, never of a name or a sum
abbrev pub lone_constant : Size → Bool × Term → Option Gen
lone_constant size (is_subtracted, Number n) = constant_of size (with_sign is_subtracted (pos n))
lone_constant size (is_subtracted, Name name) = None
lone_constant size (is_subtracted, Here) = None

abbrev pub generated_constant : Size → List SignedTerm → Option Gen
generated_constant size [] = None
generated_constant size (term ∷ []) = lone_constant size term
generated_constant size (term ∷ next ∷ terms) = None

-- how many extension words an operand has
abbrev pub operand_words : Size → Option Operand → ℕ
operand_words size None = 0
operand_words size (Some (Reg register)) = 0
operand_words size (Some (Imm expr)) = if is_some (generated_constant size expr) then 0 else 1
operand_words size (Some (Abs expr)) = 1
operand_words size (Some (Indexed expr register)) = 1
operand_words size (Some (Symbolic expr)) = 1
operand_words size (Some (Indirect register)) = 0
operand_words size (Some (IndirectInc register)) = 0

-- the word of an immediate of this size
abbrev pub immediate_word : Size → ℤ → Result ℕ FaultKind
immediate_word Byte value = byte_immediate_of value
immediate_word Word value = word_of value

abbrev pub immediate : Size → Option Gen → ℤ → Result Source FaultKind
immediate size (Some constant) value = Ok (source.Constant constant)
immediate size None value = do
  word ← immediate_word size value
  Ok (source.Immediate word)

-- a source, if it is written in its mode: there R2 and R3 give no constant, and R0 no immediate
abbrev pub source_in_mode : Source → Result Source FaultKind
source_in_mode operand = if has_form (source_form operand) then Ok operand else Err fault.Operand

-- an operand as a source, where its extension word is at this address and its expression has this
-- value: R3 is the constant 0, and indexed R3 is none
abbrev pub source_of : Size → ℕ → Option Operand → ℤ → Result Source FaultKind
source_of size at None value = Err fault.Operand
source_of size at (Some (Reg R3)) value = Ok (source.Constant gen.Zero)
source_of size at (Some (Reg register)) value = Ok (source.Reg register)
source_of size at (Some (Imm expr)) value = immediate size (generated_constant size expr) value
source_of size at (Some (Abs expr)) value = do
  address ← address_of value
  Ok (source.Indexed R2 address)
source_of size at (Some (Indexed expr R3)) value = Err fault.Operand
source_of size at (Some (Indexed expr register)) value = do
  word ← word_of value
  Ok (source.Indexed register word)
source_of size at (Some (Symbolic expr)) value = do
  address ← address_of value
  Ok (source.Indexed R0 (minus address at))
source_of size at (Some (Indirect register)) value = source_in_mode (source.Indirect register)
source_of size at (Some (IndirectInc register)) value = source_in_mode (source.IndirectInc register)

-- an operand as a destination, likewise
abbrev pub dest_of : ℕ → Option Operand → ℤ → Result Dest FaultKind
dest_of at None value = Err fault.Operand
dest_of at (Some (Reg register)) value = Ok (dest.Reg register)
dest_of at (Some (Imm expr)) value = Err fault.Operand
dest_of at (Some (Abs expr)) value = do
  address ← address_of value
  Ok (dest.Indexed R2 address)
dest_of at (Some (Indexed expr register)) value = do
  word ← word_of value
  Ok (dest.Indexed register word)
dest_of at (Some (Symbolic expr)) value = do
  address ← address_of value
  Ok (dest.Indexed R0 (minus address at))
dest_of at (Some (Indirect register)) value = Err fault.Operand
dest_of at (Some (IndirectInc register)) value = Err fault.Operand
