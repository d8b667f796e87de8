-- The words of an instruction that a statement names.
use Rattle.std.{proofs.{Common.{◌≡◌, ap, refl, subst, ℕ, suc, ◌+◌, ◌*◌, ◌%◌, ◌==◌, ◌&&◌, ◌||◌, ◌++◌, not, Bool, true, false, length, Some, None, Result, Ok, Err, IfOk, if◌then◌else◌, arith}, lemmas.{Bool.Decides.nat_tests, List.length-append}}, specs.Prelude.ℤ}
use Rattle.word_arith.specs.declared.size.Size.{Size}
use Rattle.msp_decode.specs.{declared.{source.Source.Source, dest.Dest.Dest, one.One.One as OneOp, cond.Cond.Cond, instr.Instr.Instr, encode_fault.EncodeFault.TheVariants.{NoByteForm, NotWritable, NoSuchForm, OffsetRange}}, Spelling.{has_size, has_form, has_range, takes_result, writes_operand}, Completion.{head_part, source_form, source_words as words_of_source, dest_words as words_of_dest, words_of}, EncodeFault.first_fault, Law.{AreReadAs, WordsAreRead}}
use Rattle.msp_decode.specs.declared.instr.Instr.TheVariants as instr
use Rattle.part_definitions.specs.CpuRegister.{plus}
use Rattle.text_scan.specs.{declared.fault_kind.FaultKind.FaultKind, Reader.◌>>=◌}
use Rattle.text_scan.specs.declared.fault_kind.FaultKind.TheVariants as fault
use Rattle.asm_text.specs.{declared.{body.Body.{Body, TheVariants.{Empty, Instr as Instruction, Org, Word, Byte, Ascii, Equ}}, form.{Form.{Form, TheVariants.{Two, One, Reti, Jump}}, SourceRole.{SourceRole, TheVariants.{First, Constant, StackTop}}, DestRole.{DestRole, TheVariants.{First as OnlyDest, Second, Register}}}}, Form.form_of}
use Rattle.msp_asm.{specs.{Value.{Scope, value, known_value, address_of}, Operand.{expr_in, operand_words, source_of}, Instruction.{Operands, written_source, written_dest, source_words, dest_words, source_at, dest_at, takes_source, one_of, half_way, jump_of, form_size, instruction_of}, Statement.{IsNamed, named_instruction}}, proofs.OperandWords.{IsWritten, source_written, dest_written, read_next, read_then}}

-- an instruction that has words, of so many bytes
pub record HasWords (it : Instr) (count : ℕ) : Type 0 where
  pub size : 2 * length (words_of it) ≡ count
  pub faultless : first_fault (head_part it) ≡ None

source_at-written : (role : SourceRole) (size : Size) (at : ℕ) (operands : Operands) (value : ℤ)
    → IfOk (source_at role size at operands value)
    (λ it. IsWritten it (source_words role size operands))
source_at-written First size at operands value = source_written size at operands.first value
source_at-written (Constant constant) size at operands value = record { words = refl; form = refl }
source_at-written StackTop size at operands value = record { words = refl; form = refl }

dest_at-written : (role : DestRole) (size : Size) (at : ℕ) (operands : Operands) (value : ℤ)
    → IfOk (dest_at role at operands value)
    (λ it. length (words_of_dest it) ≡ dest_words role size operands)
dest_at-written OnlyDest size at operands value = dest_written size at operands.first value
dest_at-written Second size at operands value = dest_written size at operands.second value
dest_at-written (Register r) size at operands value = refl

two_words : (from : Source) (to : Dest) (a b : ℕ)
    → length (words_of_source from) ≡ a
    → length (words_of_dest to) ≡ b
    → 2 * suc (length (words_of_source from ++ words_of_dest to)) ≡ 2 * (1 + a + b)
two_words from to a b source dest =
    omega (arith, length-append (words_of_source from) (words_of_dest to))

-- an operand of an instruction of one
one_faultless : (is_sized writes is_taken is_formed : Bool)
    → (is_sized && (is_taken || not writes)) ≡ true
    → is_formed ≡ true
    → (if not is_sized then Some NoByteForm else if writes && not is_taken then Some NotWritable
    else if not is_formed then Some NoSuchForm else None) ≡ None
one_faultless is_sized writes is_taken is_formed takes is = grind (arith, nat_tests)

one_has_words : (op : OneOp) (size : Size) (it : Source) (count : ℕ) (takes : Bool)
    → takes_source op size it ≡ takes
    → IsWritten it count
    → IfOk {E = FaultKind} (if takes then Ok (instr.One op size it) else Err fault.Operand)
    (λ answer. HasWords answer (2 * (1 + count)))
one_has_words op size it count true takes is =
    record {
      size = omega (arith, is.words);
      faultless = one_faultless (has_size op size) (writes_operand op)
          (takes_result (source_form it)) (has_form (source_form it)) takes is.form;
    }
one_has_words op size it count false takes is = tt

jump_has_words : (cond : Cond) (offset : ℤ) (even fits : Bool)
    → has_range offset ≡ fits
    → IfOk {E = FaultKind} (if even && fits then Ok (instr.Jump cond offset) else Err fault.Range)
    (λ answer. HasWords answer 2)
jump_has_words cond offset true true is =
    record {
      size = refl;
      faultless = ap (λ fits. if not fits then Some OffsetRange else None) is;
    }
jump_has_words cond offset true false is = tt
jump_has_words cond offset false fits is = tt

-- an instruction that is named has words, of as many bytes as its size says
pub instruction_has_words : (scope : Scope) (form : Form) (size : Size) (operands : Operands)
    → IfOk (instruction_of scope form size operands)
    (λ it. HasWords it (form_size form size operands))
instruction_has_words scope (Two op source dest) size operands =
    let source_count : ℕ = source_words source size operands in
    let dest_count : ℕ = dest_words dest size operands in
    let fit : Instr → Type 0 = λ it. HasWords it (2 * (1 + source_count + dest_count)) in
    let from_at : ℤ → Result Source FaultKind =
    source_at source size (plus scope.here 2) operands in
    let to_at : ℤ → Result Dest FaultKind =
    dest_at dest (plus scope.here (2 + 2 * source_count)) operands in
    read_next (known_value (value scope (expr_in (written_source source operands))))
    (λ first. known_value (value scope (expr_in (written_dest dest operands))) >>= (λ second.
    from_at first >>= (λ from. to_at second >>= (λ to. Ok (instr.Two op size from to))))) fit
    (λ first. read_next (known_value (value scope (expr_in (written_dest dest operands))))
    (λ second. from_at first >>= (λ from. to_at second >>= (λ to. Ok (instr.Two op size from to))))
    fit
    (λ second. read_then (from_at first)
    (λ from. to_at second >>= (λ to. Ok (instr.Two op size from to)))
    (λ from. IsWritten from source_count) fit
    (source_at-written source size (plus scope.here 2) operands first)
    (λ from is. read_then (to_at second) (λ to. Ok (instr.Two op size from to))
    (λ to. length (words_of_dest to) ≡ dest_count) fit
    (dest_at-written dest size (plus scope.here (2 + 2 * source_count)) operands second)
    (λ to same. record {
      size = two_words from to source_count dest_count is.words same;
      faultless = ap (λ is_formed. if not is_formed then Some NoSuchForm else None) is.form;
    }))))
instruction_has_words scope (One op) size operands =
    let count : ℕ = operand_words size operands.first in
    read_next (known_value (value scope (expr_in operands.first)))
    (λ first. source_of size (plus scope.here 2) operands.first first >>= one_of op size)
    (λ it. HasWords it (2 * (1 + count)))
    (λ first. read_then (source_of size (plus scope.here 2) operands.first first) (one_of op size)
    (λ from. IsWritten from count) (λ it. HasWords it (2 * (1 + count)))
    (source_written size (plus scope.here 2) operands.first first)
    (λ from is. one_has_words op size from count (takes_source op size from) refl is))
instruction_has_words scope Reti size operands = record { size = refl; faultless = refl }
instruction_has_words scope (Jump cond) size operands =
    read_next (known_value (value scope (expr_in operands.first)))
    (λ first. address_of first >>= jump_of cond scope.here) (λ it. HasWords it 2)
    (λ first. read_next (address_of first) (jump_of cond scope.here) (λ it. HasWords it 2)
    (λ target. let offset : ℤ = half_way (scope.here + 2) target in
    jump_has_words cond offset (target % 2 == 0) (has_range offset) refl))

read_as : WordsAreRead → (result : Result Instr FaultKind) (count : ℕ) (it : Instr)
    → IfOk result (λ answer. HasWords answer count)
    → result ≡ Ok it
    → AreReadAs (words_of it) it
read_as are_read result count it has is =
    let words : HasWords it count =
    subst (λ (code : Result Instr FaultKind). IfOk code (λ answer. HasWords answer count)) is has in
    are_read it words.faultless

-- its words are read as the instruction
pub named_are_read : WordsAreRead → (scope : Scope) (body : Body) (it : Instr)
    → IsNamed scope body it → AreReadAs (words_of it) it
named_are_read are_read scope Empty it is = absurd is
named_are_read are_read scope (Instruction mnemonic size first second) it is =
    let operands : Operands = record { first = first; second = second } in
    read_as are_read (named_instruction scope mnemonic size first second)
    (form_size (form_of mnemonic) size operands) it
    (instruction_has_words scope (form_of mnemonic) size operands) is
named_are_read are_read scope (Org expr) it is = absurd is
named_are_read are_read scope (Word exprs) it is = absurd is
named_are_read are_read scope (Byte exprs) it is = absurd is
named_are_read are_read scope (Ascii text) it is = absurd is
named_are_read are_read scope (Equ name expr) it is = absurd is
