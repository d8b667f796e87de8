-- The instructions of a listing with operands, read again.
use Rattle.std.{proofs.{Common.{◌≡◌, ◌∙◌, ap, refl, ℕ, ◌+◌, ◌*◌, true, not, inl, inr, List, [], ◌∷◌, ◌++◌, append_assoc, ℤ, pos, Option, Some, None, Result, Ok, Err}, lemmas.Bool.{or_cases, false≢true}}, specs.Prelude.{◌||◌, codes, flat_map}}
use Rattle.word_arith.specs.{declared.{op2.Op2.Op2, size.Size.Size}}
use Rattle.word_arith.specs.declared.size.Size.TheVariants as sizes
use Rattle.msp_decode.specs.{declared.{one.One.One as OneOp, constant.Gen.Gen, source.Source.Source, dest.Dest.Dest, instr.Instr.{Instr, TheVariants.{Two, One}}}, Completion.{source_form, words_of}, Spelling.{has_form, has_size, takes_result, writes_operand}}
use Rattle.msp_decode.specs.declared.one.One.TheVariants as one
use Rattle.msp_decode.specs.declared.source.Source.TheVariants as source
use Rattle.part_definitions.specs.CpuRegister.{plus}
use Rattle.text_scan.specs.{declared.fault_kind.FaultKind.FaultKind, Reader.◌>>=◌}
use Rattle.asm_text.specs.declared.body.Body.TheVariants as bodies
use Rattle.asm_text.specs.declared.mnemonic.Mnemonic.TheVariants as mnemonics
use Rattle.asm_text.specs.{declared.token.Token.TheVariants.Comma, Source.line_statement, Form.operand_form, Name.op2_name, Statement.fits}
use Rattle.asm_text.specs.declared.form.Form.TheVariants as shapes
use Rattle.asm_text.specs.declared.form.SourceRole.TheVariants as sources
use Rattle.asm_text.specs.declared.form.DestRole.TheVariants as dests
use Rattle.msp_asm.specs.{Instruction.{Operands, instruction_of, one_of, source_words}, Operand.{expr_in, source_of, dest_of, constant_of, immediate, immediate_word}, Statement.word_bytes, Value.{Scope, value}, ItemText.{size_suffix, source_text, dest_text}}
use Rattle.msp_asm.specs.declared.item.Item.TheVariants as items
use Rattle.text_round_trip.{specs.{Listing.{IsReadAs, source_again}, Writable.has_size as mnemonic_has_size}, proofs.{Falls.{falls-then, falls-apart, comma-falls}, ListedOperand.{FitsSource, FitsDest, source_operand, dest_tokens, dest_operand, source-falls, dest-falls, source-read, dest-read, source-form, source-modified, dest-form, source-again, dest-again}, Operands.{no_colon-first, one-read, two-read}, Words.{mnemonic-operation, statement-read}}}

-- the sizes that there are
two-sized : (op : Op2) (size : Size) → mnemonic_has_size (mnemonics.Two op) size ≡ true
two-sized op sizes.Byte = refl
two-sized op sizes.Word = refl

one-sized : (op : OneOp) (size : Size) → has_size op size ≡ true
    → mnemonic_has_size (mnemonics.One op) size ≡ true
one-sized op sizes.Byte has = has
one-sized op sizes.Word has = refl

-- the bytes of an instruction
abbrev pub bytes_read : Result Instr FaultKind → Result (List ℕ) FaultKind
bytes_read answer = do
  instr ← answer
  Ok (flat_map word_bytes (words_of instr))

-- two operands

two-steps : (scope : Scope) (op : Op2) (size : Size) (operands : Operands) (v w : ℤ)
    (from : Result Source FaultKind) (to : Dest)
    → value scope (expr_in operands.first) ≡ Some v
    → value scope (expr_in operands.second) ≡ Some w
    → source_of size (plus scope.here 2) operands.first v ≡ from
    → dest_of (plus scope.here (2 + 2 * source_words sources.First size operands)) operands.second w
    ≡ Ok to
    → instruction_of scope (shapes.Two op sources.First dests.Second) size operands
    ≡ (from >>= (λ answer. Ok (Two op size answer to)))
two-steps scope op size operands v w from to first second answer write =
    rw (first, second, answer, write) refl

two-bytes : (scope : Scope) (op : Op2) (size : Size) (source : Source) (dest : Dest)
    → FitsSource source → FitsDest dest → has_form (source_form source) ≡ true
    → instruction_of scope (shapes.Two op sources.First dests.Second) size
    (record { first = Some (source_operand source); second = Some (dest_operand dest) })
    ≡ (source_again size source >>= (λ from. Ok (Two op size from dest)))
two-bytes scope op size source dest fits fits_dest form =
    let operands : Operands =
    record { first = Some (source_operand source); second = Some (dest_operand dest) } in
    let from = source-again scope size (plus scope.here 2) source fits form in
    let to = dest-again scope
    (plus scope.here (2 + 2 * source_words sources.First size operands)) dest fits_dest in
    two-steps scope op size operands from.value to.value (source_again size source) dest
    from.valued to.valued from.read to.read

two-text : (w s x k y : List ℕ) → w ++ s ++ x ++ k ++ y ≡ w ++ s ++ (x ++ (k ++ y))
two-text w s x k y = append_assoc (w ++ s ++ x) k y ∙ append_assoc (w ++ s) x (k ++ y)

pub two-again : (place : ℕ) (op : Op2) (size : Size) (source : Source) (dest : Dest)
    → FitsSource source → FitsDest dest → has_form (source_form source) ≡ true
    → IsReadAs place (items.Instruction (Two op size source dest))
two-again place op size source dest fits fits_dest form = record {
  body = bodies.Instr (mnemonics.Two op) size (Some (source_operand source))
      (Some (dest_operand dest));
  read = λ number.
      ap (line_statement number)
      (two-text (op2_name op ++ size_suffix size) (codes " ") (source_text source) (codes ",")
      (dest_text dest))
      ∙ statement-read number (source_operand source ∷ dest_operand dest ∷ [])
      (mnemonic-operation (mnemonics.Two op) size (two-sized op size)) refl
      (falls-apart (source-falls source fits) refl
      (falls-then comma-falls (dest-falls dest fits_dest)))
      ((source-read source).begins (Comma ∷ dest_tokens dest))
      (two-read (source-read source) (dest-read dest))
      (rw (source-form source form, dest-form dest) refl);
  bytes = λ names.
      let scope : Scope = record { names = names; here = place } in
      ap bytes_read (two-bytes scope op size source dest fits fits_dest form);
}

-- one operand

one-steps : (scope : Scope) (op : OneOp) (size : Size) (operands : Operands) (v : ℤ)
    (from : Result Source FaultKind) → value scope (expr_in operands.first) ≡ Some v
    → source_of size (plus scope.here 2) operands.first v ≡ from
    → instruction_of scope (shapes.One op) size operands ≡ (from >>= one_of op size)
one-steps scope op size operands v from first answer = rw (first, answer) refl

one-taken : (op : OneOp) (size : Size) (source : Source)
    → has_size op size ≡ true
    → (takes_result (source_form source) || not (writes_operand op)) ≡ true
    → one_of op size source ≡ Ok (One op size source)
one-taken op size source is write = rw (is, write) refl

-- an immediate is of an operation that does not write it, and so is a constant
immediate-taken : (op : OneOp) (size : Size) (constant : Option Gen) (word : Result ℕ FaultKind)
    (number : ℤ) → immediate_word size number ≡ word → has_size op size ≡ true
    → not (writes_operand op) ≡ true
    → (immediate size constant number >>= one_of op size)
    ≡ (immediate size constant number >>= (λ from. Ok (One op size from)))
immediate-taken op size (Some constant) word number is has no_write = rw (has, no_write) refl
immediate-taken op size None (Ok word) number is has no_write = rw (is, has, no_write) refl
immediate-taken op size None (Err kind) number is has no_write = rw is refl

taken-again : (op : OneOp) (size : Size) (source : Source) → has_size op size ≡ true
    → (takes_result (source_form source) || not (writes_operand op)) ≡ true
    → (source_again size source >>= one_of op size)
    ≡ (source_again size source >>= (λ from. Ok (One op size from)))
taken-again op size (source.Immediate word) has write =
    immediate-taken op size (constant_of size (pos word)) (immediate_word size (pos word))
    (pos word) refl has write
taken-again op size (source.Reg register) has write =
    one-taken op size (source.Reg register) has write
taken-again op size (source.Indexed register index) has write =
    one-taken op size (source.Indexed register index) has write
taken-again op size (source.Indirect register) has write =
    one-taken op size (source.Indirect register) has write
taken-again op size (source.IndirectInc register) has write =
    one-taken op size (source.IndirectInc register) has write
taken-again op size (source.Constant constant) has write =
    one-taken op size (source.Constant constant) has write

-- the form of the operand
one-fits : (op : OneOp) (source : Source) → has_form (source_form source) ≡ true
    → (takes_result (source_form source) || not (writes_operand op)) ≡ true
    → fits (operand_form (shapes.One op)) (Some (source_operand source)) None ≡ true
one-fits one.Push source form write = source-form source form
one-fits one.Call source form write = source-form source form
one-fits op source form write =
    elim (or_cases (takes_result (source_form source)) (not (writes_operand op)) write) [
      | inl takes ↦ source-modified source form takes
      | inr no_write ↦ absurd (false≢true no_write)
    ]

pub one-again : (place : ℕ) (op : OneOp) (size : Size) (source : Source) → FitsSource source
    → has_form (source_form source) ≡ true → has_size op size ≡ true
    → (takes_result (source_form source) || not (writes_operand op)) ≡ true
    → IsReadAs place (items.Instruction (One op size source))
one-again place op size source fits form has write = record {
  body = bodies.Instr (mnemonics.One op) size (Some (source_operand source)) None;
  read = λ number.
      statement-read number (source_operand source ∷ [])
      (mnemonic-operation (mnemonics.One op) size (one-sized op size has)) refl
      (source-falls source fits) (no_colon-first (source-read source))
      (one-read (source-read source))
      (rw (one-fits op source form write) refl);
  bytes = λ names.
      let scope : Scope = record { names = names; here = place } in
      let from = source-again scope size (plus place 2) source fits form in
      ap bytes_read
      (one-steps scope op size (record { first = Some (source_operand source); second = None })
      from.value (source_again size source) from.valued from.read
      ∙ taken-again op size source has write);
}
