-- How many bytes a statement places.
use Rattle.std.proofs.{Common.{◌≡◌, ◌∙◌, refl, subst, ℕ, suc, ℤ, ◌+◌, ◌*◌, List, [], ◌∷◌, ◌++◌, length, flat_map, Result, Ok, IfOk, arith}, lemmas.List.length-append}
use Rattle.word_arith.specs.declared.size.Size.{Size}
use Rattle.word_arith.specs.declared.size.Size.TheVariants as sizes
use Rattle.msp_decode.specs.Completion.{words_of}
use Rattle.text_scan.specs.{declared.fault_kind.FaultKind.FaultKind, Reader.◌>>=◌}
use Rattle.asm_text.specs.{declared.body.Body.{Body, TheVariants.{Empty, Instr as Instruction, Org, Word, Byte, Ascii, Equ}}, Expr.SignedTerm, Form.form_of}
use Rattle.msp_asm.{specs.{Value.{Scope, value, known_value, each, word_of, byte_of}, Instruction.{Operands, form_size}, Statement.{size_of, bytes_of, named_instruction, word_bytes, value_bytes, all_bytes, values_of}}, proofs.{OperandWords.{read_next, read_then}, InstructionWords.{HasWords, instruction_has_words}}}

pub length-word_bytes : (words : List ℕ) → length (flat_map word_bytes words) ≡ 2 * length words
length-word_bytes [] = refl
length-word_bytes (word ∷ words) = omega (arith, length-word_bytes words)

-- each item gives one value
length-each : {A B : Type 0} (f : A → Result B FaultKind) (items : List A)
    → IfOk (each f items) (λ values. length values ≡ length items)
length-each f [] = refl
length-each f (item ∷ items) =
    read_next (f item) (λ first. each f items >>= (λ rest. Ok (first ∷ rest)))
    (λ values. length values ≡ length (item ∷ items))
    (λ first. read_then (each f items) (λ rest. Ok (first ∷ rest))
    (λ values. length values ≡ length items) (λ values. length values ≡ length (item ∷ items))
    (length-each f items) (λ rest same. omega (arith, same)))

-- how many bytes a value has
abbrev pub bytes_each : Size → ℕ
bytes_each sizes.Word = 2
bytes_each sizes.Byte = 1

length-value_bytes : (size : Size) (number : ℤ)
    → IfOk (value_bytes size number) (λ bytes. length bytes ≡ bytes_each size)
length-value_bytes sizes.Word number =
    read_next (word_of number) (λ word. Ok (word_bytes word)) (λ bytes. length bytes ≡ 2)
    (λ word. refl)
length-value_bytes sizes.Byte number =
    read_next (byte_of number) (λ byte. Ok (byte ∷ [])) (λ bytes. length bytes ≡ 1) (λ byte. refl)

one_more : (each a b count : ℕ) → a ≡ each → b ≡ each * count → a + b ≡ each * suc count
one_more each a b count first rest = omega arith

length-all_bytes : (size : Size) (values : List ℤ)
    → IfOk (all_bytes size values) (λ bytes. length bytes ≡ bytes_each size * length values)
length-all_bytes size [] = omega arith
length-all_bytes size (number ∷ values) =
    read_then (value_bytes size number)
    (λ first. all_bytes size values >>= (λ rest. Ok (first ++ rest)))
    (λ bytes. length bytes ≡ bytes_each size)
    (λ bytes. length bytes ≡ bytes_each size * length (number ∷ values))
    (length-value_bytes size number)
    (λ first one. read_then (all_bytes size values) (λ rest. Ok (first ++ rest))
    (λ bytes. length bytes ≡ bytes_each size * length values)
    (λ bytes. length bytes ≡ bytes_each size * length (number ∷ values))
    (length-all_bytes size values) (λ rest same. length-append first rest
    ∙ one_more (bytes_each size) (length first) (length rest) (length values) one same))

length-values : (scope : Scope) (size : Size) (exprs : List (List SignedTerm))
    → IfOk (values_of scope exprs >>= all_bytes size)
    (λ bytes. length bytes ≡ bytes_each size * length exprs)
length-values scope size exprs =
    read_then (values_of scope exprs) (all_bytes size) (λ values. length values ≡ length exprs)
    (λ bytes. length bytes ≡ bytes_each size * length exprs)
    (length-each (λ expr. known_value (value scope expr)) exprs)
    (λ values same. subst (λ n. IfOk (all_bytes size values)
    (λ bytes. length bytes ≡ bytes_each size * n)) same (length-all_bytes size values))

-- a statement places as many bytes as its size says
pub bytes_have_their_size : (scope : Scope) (body : Body)
    → IfOk (bytes_of scope body) (λ bytes. length bytes ≡ size_of body)
bytes_have_their_size scope Empty = refl
bytes_have_their_size scope (Instruction mnemonic size first second) =
    let operands : Operands = record { first = first; second = second } in
    read_then (named_instruction scope mnemonic size first second)
    (λ it. Ok (flat_map word_bytes (words_of it)))
    (λ it. HasWords it (form_size (form_of mnemonic) size operands))
    (λ bytes. length bytes ≡ form_size (form_of mnemonic) size operands)
    (instruction_has_words scope (form_of mnemonic) size operands)
    (λ it has. length-word_bytes (words_of it) ∙ has.size)
bytes_have_their_size scope (Org expr) = refl
bytes_have_their_size scope (Word exprs) = length-values scope sizes.Word exprs
bytes_have_their_size scope (Byte exprs) =
    let one : 1 * length exprs ≡ length exprs = omega arith in
    subst (λ n. IfOk (bytes_of scope (Byte exprs)) (λ bytes. length bytes ≡ n)) one
    (length-values scope sizes.Byte exprs)
bytes_have_their_size scope (Ascii text) = refl
bytes_have_their_size scope (Equ name expr) = refl
