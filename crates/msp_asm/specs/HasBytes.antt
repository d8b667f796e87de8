-- What stands in the image of a source.
use Rattle.std.specs.{Prelude.{◌≡◌, ◌+◌, ℕ, List, [], ◌∷◌, ◌++◌, reverse, Option, Some, IsOkAnd, Ok}, List.flat_map}
use Rattle.msp_decode.specs.{declared.instr.Instr.Instr, Completion.words_of, Law.AreReadAs}
use Rattle.asm_text.specs.{declared.{body.Body.{Body, TheVariants.{Empty, Instr as Instruction, Org, Word, Byte, Ascii, Equ}}, statement.Statement.Statement}, Source.source_of}
use Rattle.msp_asm.specs.{Value.Scope, Statement.{bytes_of, named_instruction, word_bytes}, SecondPass.scope_among}

-- bytes stand in an image from a place upwards
abbrev pub HasBytes : (ℕ → Option ℕ) → ℕ → List ℕ → Type 0
HasBytes image place [] = Unit {0}
HasBytes image place (byte ∷ bytes) =
    (image place ≡ Some byte) × HasBytes image (place + 1) bytes

-- an instruction stands there: the bytes of its words do, and these words are read as it
pub record HasInstruction (image : ℕ → Option ℕ) (place : ℕ) (instr : Instr) : Type 0 where
  pub bytes : HasBytes image place (flat_map word_bytes (words_of instr))
  pub read : AreReadAs (words_of instr) instr

-- a statement has bytes, and they stand at its place
abbrev pub HasBytesOf : (ℕ → Option ℕ) → Scope → Body → Type 0
HasBytesOf image scope body = IsOkAnd (bytes_of scope body) (HasBytes image scope.here)

-- a statement of an instruction names one, and that one stands at its place
abbrev pub HasInstructionOf : (ℕ → Option ℕ) → Scope → Body → Type 0
HasInstructionOf image scope (Instruction mnemonic size first second) =
    IsOkAnd (named_instruction scope mnemonic size first second) (HasInstruction image scope.here)
HasInstructionOf image scope Empty = Unit {0}
HasInstructionOf image scope (Org expr) = Unit {0}
HasInstructionOf image scope (Word exprs) = Unit {0}
HasInstructionOf image scope (Byte exprs) = Unit {0}
HasInstructionOf image scope (Ascii text) = Unit {0}
HasInstructionOf image scope (Equ name expr) = Unit {0}

-- something holds of each statement of a source, read behind those before it and under the names of
-- all
abbrev pub OfEachStatement : (Scope → Body → Type 0) → List ℕ → Type 0
OfEachStatement Holds text =
    (before after : List Statement) (statement : Statement)
    → source_of text ≡ Ok (before ++ statement ∷ after)
    → Holds (scope_among (reverse (before ++ statement ∷ after)) (reverse before)) statement.body
