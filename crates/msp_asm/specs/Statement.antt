-- The bytes of a statement.
use Rattle.std.specs.{Prelude.{◌≡◌, ◌*◌, ◌/◌, ◌%◌, ℕ, ℤ, Bool, true, false, List, [], ◌∷◌, ◌++◌, length, Option, Result, Ok}, List.flat_map}
use Rattle.word_arith.specs.declared.size.Size.{Size}
use Rattle.word_arith.specs.declared.size.Size.TheVariants as sizes
use Rattle.msp_decode.specs.{declared.instr.Instr.Instr, Completion.words_of, Law.AreReadAs}
use Rattle.text_scan.specs.{declared.fault_kind.FaultKind.FaultKind, Reader.◌>>=◌}
use Rattle.asm_text.specs.{declared.{mnemonic.Mnemonic.Mnemonic, operand.Operand.Operand, body.Body.{Body, TheVariants.{Empty, Instr as Instruction, Org, Word, Byte, Ascii, Equ}}}, Expr.SignedTerm, Form.form_of}
use Rattle.msp_asm.specs.{Value.{Scope, value, known_value, each, word_of, byte_of}, Instruction.{form_size, instruction_of}}

-- how many bytes a statement places
abbrev pub size_of : Body → ℕ
size_of Empty = 0
size_of (Instruction mnemonic size first second) =
    form_size (form_of mnemonic) size (record { first = first; second = second })
size_of (Org expr) = 0
size_of (Word exprs) = 2 * length exprs
size_of (Byte exprs) = length exprs
size_of (Ascii text) = length text
size_of (Equ name expr) = 0

-- it has to stand at an even address
abbrev pub is_of_words : Body → Bool
is_of_words Empty = false
is_of_words (Instruction mnemonic size first second) = true
is_of_words (Org expr) = false
is_of_words (Word exprs) = true
is_of_words (Byte exprs) = false
is_of_words (Ascii text) = false
is_of_words (Equ name expr) = false

-- the instruction that it names, an emulated one as the processor's, or its fault
abbrev pub named_instruction : Scope → Mnemonic → Size → Option Operand → Option Operand
    → Result Instr FaultKind
named_instruction scope mnemonic size first second =
    instruction_of scope (form_of mnemonic) size (record { first = first; second = second })

-- a word's bytes, the low one first
abbrev pub word_bytes : ℕ → List ℕ
word_bytes word = word % 256 ∷ word / 256 ∷ []

-- the bytes of a value of this size
abbrev pub value_bytes : Size → ℤ → Result (List ℕ) FaultKind
value_bytes sizes.Word value = do
  word ← word_of value
  Ok (word_bytes word)
value_bytes sizes.Byte value = do
  byte ← byte_of value
  Ok (byte ∷ [])

-- the bytes of values of this size, or the first fault
abbrev pub all_bytes : Size → List ℤ → Result (List ℕ) FaultKind
all_bytes size [] = Ok []
all_bytes size (value ∷ values) = do
  first ← value_bytes size value
  rest ← all_bytes size values
  Ok (first ++ rest)

-- the values of expressions, if each has one
abbrev pub values_of : Scope → List (List SignedTerm) → Result (List ℤ) FaultKind
values_of scope exprs = each (λ expr. known_value (value scope expr)) exprs

-- the bytes that a statement places, under all names, or its fault
abbrev pub bytes_of : Scope → Body → Result (List ℕ) FaultKind
bytes_of scope Empty = Ok []
bytes_of scope (Instruction mnemonic size first second) = do
  instr ← named_instruction scope mnemonic size first second
  Ok (flat_map word_bytes (words_of instr))
bytes_of scope (Org expr) = Ok []
bytes_of scope (Word exprs) = do
  values ← values_of scope exprs
  all_bytes sizes.Word values
bytes_of scope (Byte exprs) = do
  values ← values_of scope exprs
  all_bytes sizes.Byte values
bytes_of scope (Ascii text) = Ok text
bytes_of scope (Equ name expr) = Ok []

-- a statement names an instruction
abbrev pub IsNamed : Scope → Body → Instr → Type 0
IsNamed scope Empty instr = ⊥
IsNamed scope (Instruction mnemonic size first second) instr =
    named_instruction scope mnemonic size first second ≡ Ok instr
IsNamed scope (Org expr) instr = ⊥
IsNamed scope (Word exprs) instr = ⊥
IsNamed scope (Byte exprs) instr = ⊥
IsNamed scope (Ascii text) instr = ⊥
IsNamed scope (Equ name expr) instr = ⊥

-- bytes are those of the words that are read as an instruction
pub record AreBytesOf (bytes : List ℕ) (instr : Instr) : Type 0 where
  pub words : bytes ≡ flat_map word_bytes (words_of instr)
  pub read : AreReadAs (words_of instr) instr
