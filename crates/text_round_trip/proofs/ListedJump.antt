-- The jumps of a listing, read again.
use Rattle.std.{proofs.{Common.{◌≡◌, ◌∙◌, ap, refl, ℕ, suc, ◌+◌, ◌-◌, ◌*◌, ◌/◌, ◌%◌, ◌<◌, ◌≤◌, arith, Bool, true, false, List, [], ◌∷◌, append-nil, subst, ℤ, pos, negsuc, Some, None, Ok, Err}, lemmas.Bool.{le-leb, lt-leb, le-ltb, leb-true, leb-false, lt-ltb, ltb-true, ltb-false, eq-eqb}, Math.IntN.+ℤ_idr}, specs.Prelude.{if◌then◌else◌, neg_ℤ}}
use Rattle.word_arith.specs.declared.size.Size.TheVariants as sizes
use Rattle.msp_decode.specs.{declared.{cond.Cond.Cond, instr.Instr.TheVariants.Jump}, Spelling.has_range}
use Rattle.part_definitions.specs.{CpuRegister.plus, Instruction.jump_target}
use Rattle.text_scan.specs.{declared.fault_kind.FaultKind.TheVariants.Range, Reader.◌>>=◌}
use Rattle.asm_text.specs.declared.body.Body.TheVariants as bodies
use Rattle.asm_text.specs.declared.mnemonic.Mnemonic.TheVariants as mnemonics
use Rattle.asm_text.specs.{declared.{operand.Operand.TheVariants.Symbolic, token.Token.TheVariants.Number}, Operand.terms_of, Name.jump_name}
use Rattle.asm_text.specs.declared.operation.Operation.TheVariants as operations
use Rattle.asm_text.specs.declared.form.Form.TheVariants as shapes
use Rattle.msp_asm.specs.{Instruction.{instruction_of, half_way, jump_of}, Value.{Scope, address_of}}
use Rattle.msp_asm.specs.declared.item.Item.TheVariants as items
use Rattle.text_round_trip.{specs.Listing.{IsReadAs, stays_within}, proofs.{ListedOperand.{number_expr, word-falls}, Operands.{IsOperandOf, one-read}, Words.{IsOperation, mnemonic-operation, statement-read}, ListedInstruction.bytes_read}}

-- a lone number

pub number-operand : (number : ℕ) → IsOperandOf (Number number ∷ []) (Symbolic (number_expr number))
unfolding terms_of
number-operand number =
    record { some = omega arith; alone = refl; read = refl; begins = λ rest. refl }

jump-operation : (condition : Cond)
    → IsOperation (jump_name condition) (operations.Instr (mnemonics.Jump condition) sizes.Word)
jump-operation condition =
    subst (λ (word : List ℕ).
    IsOperation word (operations.Instr (mnemonics.Jump condition) sizes.Word))
    (append-nil (jump_name condition))
    (mnemonic-operation (mnemonics.Jump condition) sizes.Word refl)

half-forward : (from to n : ℕ) → from ≤ to → (to - from) / 2 ≡ n → half_way from to ≡ pos n
half-forward from to n order same = rw (le-leb from to order) (ap pos same)

half-back : (from to n : ℕ) → to < from → (from - to) / 2 ≡ suc n → half_way from to ≡ negsuc n
half-back from to n order same =
    rw (lt-leb from to order) (ap (λ (count : ℕ). neg_ℤ (pos count)) same)

jump-within : (condition : Cond) (place target : ℕ) (offset : ℤ) → target % 2 ≡ 0
    → half_way (place + 2) target ≡ offset → has_range offset ≡ true
    → jump_of condition place target ≡ Ok (Jump condition offset)
jump-within condition place target offset even half range =
    rw (eq-eqb (target % 2) 0 even, half, range) refl

jump-past : (condition : Cond) (place target : ℕ) (offset : ℤ) → target % 2 ≡ 0
    → half_way (place + 2) target ≡ offset → has_range offset ≡ false
    → jump_of condition place target ≡ Err Range
jump-past condition place target offset even half range =
    rw (eq-eqb (target % 2) 0 even, half, range) refl

forward-again : (condition : Cond) (place n : ℕ) (within : Bool)
    → stays_within place (pos n) ≡ within → n < 512 → place % 2 ≡ 0 → place < 0xFFE0
    → jump_of condition place (jump_target (plus place 2) (pos n))
    ≡ (if within then Ok (Jump condition (pos n)) else Err Range)
forward-again condition place n true is few even below =
    let less = ltb-true (place + 2 + 2 * n) 65536 is in
    let target : ℕ = jump_target (plus place 2) (pos n) in
    let there : target ≡ place + 2 + 2 * n = omega arith in
    jump-within condition place target (pos n) (omega arith)
    (half-forward (place + 2) target n (omega arith) (omega arith)) (lt-ltb n 512 few)
forward-again condition place n false is few even below =
    let most = ltb-false (place + 2 + 2 * n) 65536 is in
    let target : ℕ = jump_target (plus place 2) (pos n) in
    let there : target + 65536 ≡ place + 2 + 2 * n = omega arith in
    jump-past condition place target (negsuc (32767 - n)) (omega arith)
    (half-back (place + 2) target (32767 - n) (omega arith) (omega arith))
    (le-ltb (32767 - n) 512 (omega arith))

back-again : (condition : Cond) (place n : ℕ) (within : Bool)
    → stays_within place (negsuc n) ≡ within → n < 512 → place % 2 ≡ 0 → place < 0xFFE0
    → jump_of condition place (jump_target (plus place 2) (negsuc n))
    ≡ (if within then Ok (Jump condition (negsuc n)) else Err Range)
back-again condition place n true is few even below =
    let less = leb-true (2 * (n + 1)) (place + 2) is in
    let target : ℕ = jump_target (plus place 2) (negsuc n) in
    let there : target + 2 * (n + 1) ≡ place + 2 = omega arith in
    jump-within condition place target (negsuc n) (omega arith)
    (half-back (place + 2) target n (omega arith) (omega arith)) (lt-ltb n 512 few)
back-again condition place n false is few even below =
    let most = leb-false (2 * (n + 1)) (place + 2) is in
    let target : ℕ = jump_target (plus place 2) (negsuc n) in
    let there : target + 2 * (n + 1) ≡ place + 2 + 65536 = omega arith in
    jump-past condition place target (pos (32767 - n)) (omega arith)
    (half-forward (place + 2) target (32767 - n) (omega arith) (omega arith))
    (le-ltb (32767 - n) 512 (omega arith))

target-again : (condition : Cond) (place : ℕ) (offset : ℤ) → has_range offset ≡ true
    → place % 2 ≡ 0 → place < 0xFFE0
    → jump_of condition place (jump_target (plus place 2) offset)
    ≡ (if stays_within place offset then Ok (Jump condition offset) else Err Range)
target-again condition place (pos n) range even below =
    forward-again condition place n (stays_within place (pos n)) refl (ltb-true n 512 range) even
    below
target-again condition place (negsuc n) range even below =
    back-again condition place n (stays_within place (negsuc n)) refl (ltb-true n 512 range) even
    below

jump-steps : (scope : Scope) (condition : Cond) (target : ℕ) → target < 65536
    → instruction_of scope (shapes.Jump condition) sizes.Word
    (record { first = Some (Symbolic (number_expr target)); second = None })
    ≡ jump_of condition scope.here target
jump-steps scope condition target below =
    ap (λ (number : ℤ). address_of number >>= jump_of condition scope.here) (+ℤ_idr (pos target))
    ∙ rw (le-leb target 65535 (omega arith)) refl

pub jump-again : (place : ℕ) (condition : Cond) (offset : ℤ) → has_range offset ≡ true
    → place % 2 ≡ 0 → place < 0xFFE0
    → IsReadAs place (items.Instruction (Jump condition offset))
jump-again place condition offset range even below =
    let target : ℕ = jump_target (plus place 2) offset in
    let fits : target < 65536 = omega arith in
    record {
      body = bodies.Instr (mnemonics.Jump condition) sizes.Word
          (Some (Symbolic (number_expr target))) None;
      read = λ number.
          statement-read number (Symbolic (number_expr target) ∷ [])
          (jump-operation condition) refl (word-falls target fits) refl
          (one-read (number-operand target)) refl;
      bytes = λ names.
          let scope : Scope = record { names = names; here = place } in
          ap bytes_read (jump-steps scope condition target fits
          ∙ target-again condition place offset range even below);
    }
