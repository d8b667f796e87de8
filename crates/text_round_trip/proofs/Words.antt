-- Words that are registers, and words that are operations.
use Rattle.std.{proofs.{Common.{◌≡◌, ◌∙◌, ap, sym, refl, ℕ, ◌<◌, arith, Bool, true, false, List, [], ◌∷◌, ◌++◌, append_assoc, append-nil, length, Option, Some, None, Result, Ok}, lemmas.Bool.false≢true}, specs.{Prelude.{codes, slice_index, if◌then◌else◌}, Char.is_ascii_digit, List.list_all}}
use Rattle.word_arith.specs.declared.op2.Op2.TheVariants as op
use Rattle.word_arith.specs.declared.size.Size.{Size}
use Rattle.word_arith.specs.declared.size.Size.TheVariants as sizes
use Rattle.msp_decode.specs.declared.one.One.TheVariants as one
use Rattle.msp_decode.specs.declared.cond.Cond.TheVariants as cond
use Rattle.msp_decode.specs.{declared.reg.Reg.{Reg, TheVariants.R0}}
use Rattle.text_scan.specs.{declared.fault_kind.FaultKind.FaultKind, Reader.◌>>=◌}
use Rattle.asm_text.specs.{declared.{body.Body.Body, mnemonic.Mnemonic.Mnemonic, operand.Operand.Operand, operation.Operation.Operation, token.Token.{Token, TheVariants.{Register, Name, Colon}}}, Operand.operands_of, Source.{line_statement, statement_in_line}, Statement.{first_word, is_ascii_directive, statement_body, operation_body, body_of, labelled_body}, Token.{name_token, word_token, word_piece, tokens_behind, tokens_of}, Word.{is_word_character, is_name, lower_case, byte_form, word_form, operation_of}, Name.{mnemonic_name, reg_name, register_of}}
use Rattle.asm_text.specs.declared.emulated.Emulated.TheVariants as emulated
use Rattle.asm_text.specs.declared.mnemonic.Mnemonic.TheVariants as mnemonics
use Rattle.asm_text.specs.declared.operation.Operation.TheVariants as operations
use Rattle.msp_asm.specs.ItemText.{size_suffix}
use Rattle.text_round_trip.{specs.Writable.has_size, proofs.Falls.{FallsInto, word-falls, falls-then, falls-apart, blank-falls}}

pub register-falls : (register : Reg)
    → FallsInto (reg_name register) (Register register ∷ [])
unfolding word_piece
register-falls R0 =
    word-falls (reg_name R0) (Register R0) refl (omega arith) refl
register-falls register =
    word-falls (reg_name register) (Register register) refl (omega arith) refl

-- a word that names an operation, and no register
pub record IsOperation (word : List ℕ) (operation : Operation) : Type 0 where
  pub all : list_all is_word_character word ≡ true
  pub some : 0 < length word
  pub begins : is_ascii_digit (slice_index word 0) ≡ false
  pub register : register_of (lower_case word) ≡ None
  pub names : operation_of (lower_case word) ≡ Some operation

-- the operation of a mnemonic in a size
abbrev pub in_size : Mnemonic → Size → Option Operation
in_size mnemonic sizes.Byte = byte_form (Some mnemonic)
in_size mnemonic sizes.Word = word_form (Some mnemonic)

named-operation : (mnemonic : Mnemonic) (size : Size)
    → in_size mnemonic size ≡ Some (operations.Instr mnemonic size)
    → IsOperation (mnemonic_name mnemonic ++ size_suffix size) (operations.Instr mnemonic size)
named-operation (mnemonics.Two op.Mov) sizes.Byte is =
    record { all = refl; some = omega arith; begins = refl; register = refl; names = is }
named-operation (mnemonics.Two op.Mov) sizes.Word is =
    record { all = refl; some = omega arith; begins = refl; register = refl; names = is }
named-operation (mnemonics.One one.Rrc) sizes.Byte is =
    record { all = refl; some = omega arith; begins = refl; register = refl; names = is }
named-operation (mnemonics.One one.Rrc) sizes.Word is =
    record { all = refl; some = omega arith; begins = refl; register = refl; names = is }
named-operation mnemonics.Reti sizes.Byte is =
    record { all = refl; some = omega arith; begins = refl; register = refl; names = is }
named-operation mnemonics.Reti sizes.Word is =
    record { all = refl; some = omega arith; begins = refl; register = refl; names = is }
named-operation (mnemonics.Jump cond.Ne) sizes.Byte is =
    record { all = refl; some = omega arith; begins = refl; register = refl; names = is }
named-operation (mnemonics.Jump cond.Ne) sizes.Word is =
    record { all = refl; some = omega arith; begins = refl; register = refl; names = is }
named-operation (mnemonics.Emulated emulated.Adc) sizes.Byte is =
    record { all = refl; some = omega arith; begins = refl; register = refl; names = is }
named-operation (mnemonics.Emulated emulated.Adc) sizes.Word is =
    record { all = refl; some = omega arith; begins = refl; register = refl; names = is }
named-operation mnemonic sizes.Byte is =
    record { all = refl; some = omega arith; begins = refl; register = refl; names = is }
named-operation mnemonic sizes.Word is =
    record { all = refl; some = omega arith; begins = refl; register = refl; names = is }

pub mnemonic-operation : (mnemonic : Mnemonic) (size : Size) → has_size mnemonic size ≡ true
    → IsOperation (mnemonic_name mnemonic ++ size_suffix size) (operations.Instr mnemonic size)
mnemonic-operation mnemonic sizes.Byte has =
    named-operation mnemonic sizes.Byte
    (ap (λ (test : Bool). if test then Some (operations.Instr mnemonic sizes.Byte) else None) has)
mnemonic-operation mnemonic sizes.Word has = named-operation mnemonic sizes.Word refl

pub operation-falls : {word : List ℕ} {operation : Operation} → IsOperation word operation
    → FallsInto word (word_token word ∷ [])
unfolding word_piece
operation-falls {word = word} is =
    word-falls word (word_token word) is.all is.some (rw is.begins refl)

first-name : (word : List ℕ) (operation : Option Operation) (is : Bool)
    → is_name word ≡ is → first_word (name_token word operation) ≡ Ok operation
first-name word operation true is = rw is refl
first-name word operation false is = rw is refl

pub first-operation : {word : List ℕ} {operation : Operation}
    → IsOperation word operation → first_word (word_token word) ≡ Ok (Some operation)
first-operation {word = word} {operation = operation} is =
    rw (is.register, is.names) (first-name word (Some operation) (is_name word) refl)

abbrev pub begins_with_colon : List Token → Bool
begins_with_colon (Colon ∷ rest) = true
begins_with_colon tokens = false

-- what a statement says that has no label
abbrev pub without_label : Body → Result (Option (List ℕ) × Body) FaultKind
without_label body = Ok (None, body)

pub no_label : (token : Token) (rest : List Token) → begins_with_colon rest ≡ false
    → labelled_body (token ∷ rest) ≡ (statement_body (token ∷ rest) >>= without_label)
no_label (Name name operation) (Colon ∷ rest) other = absurd (false≢true (sym other))
no_label token rest other = refl

-- a statement with its operands
pub operation-read : {word : List ℕ} {operation : Operation} (rest : List Token)
    (operands : List Operand) {body : Body} → IsOperation word operation
    → is_ascii_directive (Some operation) ≡ false → operands_of rest ≡ Ok operands
    → body_of (Some operation) operands ≡ Ok body
    → statement_body (word_token word ∷ rest) ≡ Ok body
unfolding operation_body
operation-read {operation = operation} rest operands is other outcome gives =
    rw (first-operation is, other, outcome) gives

whole-read : {text : List ℕ} {tokens : List Token} → FallsInto text tokens
    → tokens_of text ≡ Ok tokens
unfolding tokens_behind
whole-read {text = text} {tokens = tokens} falls =
    ap tokens_of (sym (append-nil text))
    ∙ falls.cut [] refl ∙ ap (λ all. Ok all) (append-nil tokens)

-- a line is read by its tokens
pub line-read : {text : List ℕ} {tokens : List Token} (number : ℕ)
    (pair : Option (List ℕ) × Body) → FallsInto text tokens → labelled_body tokens ≡ Ok pair
    → line_statement number text ≡ Ok (statement_in_line number pair)
unfolding line_statement
line-read {text = text} {tokens = tokens} number pair falls is =
    ap (λ (answer : Result (List Token) FaultKind). answer >>= (λ all. labelled_body all
    >>= (λ both. Ok (statement_in_line number both)))) (whole-read falls)
    ∙ ap (λ (answer : Result (Option (List ℕ) × Body) FaultKind).
    answer >>= (λ both. Ok (statement_in_line number both))) is

-- a line without a label
pub statement-read : {word text : List ℕ} {operation : Operation} {tokens : List Token}
    (number : ℕ) (operands : List Operand) {body : Body} → IsOperation word operation
    → is_ascii_directive (Some operation) ≡ false → FallsInto text tokens
    → begins_with_colon tokens ≡ false → operands_of tokens ≡ Ok operands
    → body_of (Some operation) operands ≡ Ok body
    → line_statement number (word ++ codes " " ++ text)
    ≡ Ok (statement_in_line number (None, body))
statement-read {word = word} {text = text} {tokens = tokens} number operands {body = body}
    is other falls prefix outcome gives =
    ap (line_statement number) (append_assoc word (codes " ") text)
    ∙ line-read number (None, body)
    (falls-apart (operation-falls is) refl (falls-then blank-falls falls))
    (no_label (word_token word) tokens prefix
    ∙ ap (λ (answer : Result Body FaultKind). answer >>= without_label)
    (operation-read tokens operands is other outcome gives))
