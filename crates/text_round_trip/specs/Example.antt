-- A statement with its parts.
use Rattle.std.specs.Prelude.{true, false, [], ◌∷◌, codes, Some}
use Rattle.word_arith.specs.declared.size.Size.TheVariants as sizes
use Rattle.word_arith.specs.declared.op2.Op2.TheVariants.{Mov}
use Rattle.msp_decode.specs.declared.reg.Reg.TheVariants.{R4}
use Rattle.asm_text.specs.{declared.{body.Body.TheVariants.Instr, mnemonic.Mnemonic.TheVariants.Two, operand.Operand.TheVariants.{Imm, Indexed}, statement.Statement.Statement, term.Term.TheVariants.{Number, Name}}}

abbrev pub labelled_move : Statement
labelled_move =
    record {
      line = 1;
      label = Some (codes "loop");
      body = Instr (Two Mov) sizes.Byte
          (Some (Imm ((true, Number 1) ∷ (false, Name (codes "base")) ∷ [])))
          (Some (Indexed ((false, Number 18) ∷ []) R4));
    }
