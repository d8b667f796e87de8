-- The extension words of operands.
use Rattle.std.{proofs.Common.{◌≡◌, refl, ℕ, ℤ, Bool, true, false, length, Option, Some, None, Result, Ok, Err, IfOk, if◌then◌else◌}, specs.Prelude.{IsTrue, is_some}}
use Rattle.word_arith.specs.declared.size.Size.{Size}
use Rattle.msp_decode.specs.{declared.{source.Source.Source, constant.Gen.Gen, reg.Reg.TheVariants.{R0, R2, R3}, source_form.SourceForm.TheVariants.{Indirect as IndirectForm, IndirectInc as IndirectIncForm}}, Spelling.has_form, Completion.{source_form, source_words, dest_words}}
use Rattle.msp_decode.specs.declared.source.Source.TheVariants as source
use Rattle.msp_decode.specs.declared.dest.Dest.TheVariants as dest
use Rattle.text_scan.specs.{declared.fault_kind.FaultKind.FaultKind, Reader.◌>>=◌}
use Rattle.text_scan.specs.declared.fault_kind.FaultKind.TheVariants as fault
use Rattle.asm_text.specs.{declared.operand.Operand.{Operand, TheVariants.{Reg, Imm, Abs, Indexed, Symbolic, Indirect, IndirectInc}}}
use Rattle.part_definitions.specs.CpuRegister.{minus}
use Rattle.msp_asm.specs.{Value.{address_of, word_of}, Operand.{generated_constant, operand_words, immediate_word, immediate, source_of, dest_of}}

-- what is read after something that was read
pub read_next : {A B : Type 0} (first : Result A FaultKind) (next : A → Result B FaultKind)
    (P : B → Type 0)
    → ((one : A) → IfOk (next one) P) → IfOk (first >>= next) P
read_next (Ok one) next P after = after one
read_next (Err kind) next P after = tt

pub read_then : {A B : Type 0} (first : Result A FaultKind) (next : A → Result B FaultKind)
    (P : A → Type 0) (Q : B → Type 0)
    → IfOk first P → ((one : A) → P one → IfOk (next one) Q) → IfOk (first >>= next) Q
read_then (Ok one) next P Q is after = after one is
read_then (Err kind) next P Q is after = tt

-- a source that is written in its mode and has so many extension words
pub record IsWritten (operand : Source) (count : ℕ) : Type 0 where
  pub words : length (source_words operand) ≡ count
  pub form : IsTrue (has_form (source_form operand))

immediate_written : (size : Size) (constant : Option Gen) (value : ℤ)
    → IfOk (immediate size constant value)
    (λ operand. IsWritten operand (if is_some constant then 0 else 1))
immediate_written size (Some constant) value = record { words = refl; form = refl }
immediate_written size None value =
    read_next (immediate_word size value) (λ word. Ok (source.Immediate word))
    (λ operand. IsWritten operand 1) (λ word. record { words = refl; form = refl })

written_form : (operand : Source) (is : Bool) → has_form (source_form operand) ≡ is
    → IfOk {E = FaultKind} (if is then Ok operand else Err fault.Operand)
    (λ it. IsWritten it (length (source_words operand)))
written_form operand true same = record { words = refl; form = same }
written_form operand false same = tt

-- an operand as a source has as many extension words as it is counted with
pub source_written : (size : Size) (at : ℕ) (operand : Option Operand) (value : ℤ)
    → IfOk (source_of size at operand value) (λ it. IsWritten it (operand_words size operand))
source_written size at None value = tt
source_written size at (Some (Reg R3)) value = record { words = refl; form = refl }
source_written size at (Some (Reg register)) value = record { words = refl; form = refl }
source_written size at (Some (Imm expr)) value =
    immediate_written size (generated_constant size expr) value
source_written size at (Some (Abs expr)) value =
    read_next (address_of value) (λ address. Ok (source.Indexed R2 address))
    (λ it. IsWritten it 1) (λ address. record { words = refl; form = refl })
source_written size at (Some (Indexed expr R3)) value = tt
source_written size at (Some (Indexed expr register)) value =
    read_next (word_of value) (λ word. Ok (source.Indexed register word))
    (λ it. IsWritten it 1) (λ word. record { words = refl; form = refl })
source_written size at (Some (Symbolic expr)) value =
    read_next (address_of value) (λ address. Ok (source.Indexed R0 (minus address at)))
    (λ it. IsWritten it 1) (λ address. record { words = refl; form = refl })
source_written size at (Some (Indirect register)) value =
    written_form (source.Indirect register) (has_form (IndirectForm register)) refl
source_written size at (Some (IndirectInc register)) value =
    written_form (source.IndirectInc register) (has_form (IndirectIncForm register)) refl

-- and so has one as a destination
pub dest_written : (size : Size) (at : ℕ) (operand : Option Operand) (value : ℤ)
    → IfOk (dest_of at operand value) (λ it. length (dest_words it) ≡ operand_words size operand)
dest_written size at None value = tt
dest_written size at (Some (Reg register)) value = refl
dest_written size at (Some (Imm expr)) value = tt
dest_written size at (Some (Abs expr)) value =
    read_next (address_of value) (λ address. Ok (dest.Indexed R2 address))
    (λ it. length (dest_words it) ≡ 1) (λ address. refl)
dest_written size at (Some (Indexed expr register)) value =
    read_next (word_of value) (λ word. Ok (dest.Indexed register word))
    (λ it. length (dest_words it) ≡ 1) (λ word. refl)
dest_written size at (Some (Symbolic expr)) value =
    read_next (address_of value) (λ address. Ok (dest.Indexed R0 (minus address at)))
    (λ it. length (dest_words it) ≡ 1) (λ address. refl)
dest_written size at (Some (Indirect register)) value = tt
dest_written size at (Some (IndirectInc register)) value = tt
