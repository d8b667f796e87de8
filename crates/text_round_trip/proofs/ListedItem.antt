-- The words and bytes of a listing, and its returns from interrupts, read again.
use Rattle.std.{proofs.{Common.{◌∙◌, ap, refl, ℕ, ◌<◌, arith, [], ◌∷◌, ◌++◌, ℤ, pos, None, Result}, lemmas.Bool.le-leb, Math.IntN.+ℤ_idr}, specs.Prelude.codes}
use Rattle.word_arith.specs.declared.size.Size.TheVariants as sizes
use Rattle.msp_decode.specs.declared.instr.Instr.TheVariants.{Reti}
use Rattle.printed_lines.specs.Line.{byte_digits}
use Rattle.text_scan.specs.{declared.fault_kind.FaultKind.FaultKind, Reader.◌>>=◌}
use Rattle.asm_text.specs.{declared.{body.Body.Body, mnemonic.Mnemonic.TheVariants.Reti as RetiMnemonic, operand.Operand.TheVariants.Symbolic}, Token.word_token}
use Rattle.asm_text.specs.declared.body.Body.TheVariants as bodies
use Rattle.msp_asm.specs.Statement.{all_bytes}
use Rattle.msp_asm.specs.declared.item.Item.TheVariants as items
use Rattle.text_round_trip.{specs.Listing.IsReadAs, proofs.{ListedOperand.{number_expr, word-falls}, Numerals.{number-falls, byte_text-number}, Operands.one-read, Words.{mnemonic-operation, without_label, operation-falls, no_label, operation-read, line-read, statement-read}, ListedJump.number-operand}}

pub reti-again : (place : ℕ) → IsReadAs place (items.Instruction Reti)
reti-again place =
    let body : Body = bodies.Instr RetiMnemonic sizes.Word None None in
    let operation = mnemonic-operation RetiMnemonic sizes.Word refl in
    record {
      body = body;
      read = λ number.
          line-read number (None, body) (operation-falls operation)
          (no_label (word_token (codes "reti")) [] refl
          ∙ ap (λ (answer : Result Body FaultKind). answer >>= without_label)
          (operation-read [] [] operation refl refl refl));
      bytes = λ names. refl;
    }

pub word-again : (place word : ℕ) → word < 65536 → IsReadAs place (items.Word word)
word-again place word below = record {
  body = bodies.Word (number_expr word ∷ []);
  read = λ number.
      statement-read {word = codes ".word"} number (Symbolic (number_expr word) ∷ [])
      (record { all = refl; some = omega arith; begins = refl; register = refl; names = refl }) refl
      (word-falls word below) refl (one-read (number-operand word)) refl;
  bytes = λ names.
      ap (λ (number : ℤ). all_bytes sizes.Word (number ∷ [])) (+ℤ_idr (pos word))
      ∙ rw (le-leb word 65535 (omega arith)) refl;
}

pub byte-again : (place byte : ℕ) → byte < 256 → IsReadAs place (items.Byte byte)
byte-again place byte below = record {
  body = bodies.Byte (number_expr byte ∷ []);
  read = λ number.
      statement-read {word = codes ".byte"} {text = codes "0x" ++ byte_digits byte} number
      (Symbolic (number_expr byte) ∷ [])
      (record { all = refl; some = omega arith; begins = refl; register = refl; names = refl }) refl
      (number-falls (codes "0x" ++ byte_digits byte) byte (byte_text-number byte below)) refl
      (one-read (number-operand byte)) refl;
  bytes = λ names.
      ap (λ (number : ℤ). all_bytes sizes.Byte (number ∷ [])) (+ℤ_idr (pos byte))
      ∙ rw (le-leb byte 255 (omega arith)) refl;
}
