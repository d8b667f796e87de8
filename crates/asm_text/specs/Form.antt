-- The instruction of the processor that each mnemonic names (SLAU049).
use Rattle.std.specs.Prelude.{Bool, true, false, if◌then◌else◌}
use Rattle.word_arith.specs.declared.size.Size.TheVariants.{Byte}
use Rattle.word_arith.specs.declared.op2.Op2.TheVariants as op
use Rattle.msp_decode.specs.declared.constant.Gen.TheVariants as gen
use Rattle.msp_decode.specs.{declared.reg.Reg.TheVariants.{R0, R2, R3}, Spelling.{has_size, writes_operand}}
use Rattle.asm_text.specs.{declared.{emulated.Emulated.{Emulated, TheVariants.{Adc, Br, Clr, Clrc, Clrn, Clrz, Dadc, Dec, Decd, Dint, Eint, Inc, Incd, Inv, Nop, Pop, Ret, Rla, Rlc, Sbc, Setc, Setn, Setz, Tst}}, mnemonic.Mnemonic.Mnemonic, form.{Form.{Form, TheVariants.{Two, One, Reti, Jump}}, SourceRole.TheVariants.{First, Constant, StackTop}, DestRole.TheVariants.{First as OnlyDest, Second, Register}}, operand_form.OperandForm.{OperandForm, TheVariants.{SourceAndDestination, Source, Destination, InPlace, DestinationTwice, Target, Nothing}}}}
use Rattle.asm_text.specs.declared.mnemonic.Mnemonic.TheVariants as mnemonic

-- the emulated instructions: R0 is the program counter, R2 the status register
abbrev pub emulated_form : Emulated → Form
emulated_form Adc = Two op.Addc (Constant gen.Zero) OnlyDest
emulated_form Br = Two op.Mov First (Register R0)
emulated_form Clr = Two op.Mov (Constant gen.Zero) OnlyDest
emulated_form Clrc = Two op.Bic (Constant gen.One) (Register R2)
emulated_form Clrn = Two op.Bic (Constant gen.Four) (Register R2)
emulated_form Clrz = Two op.Bic (Constant gen.Two) (Register R2)
emulated_form Dadc = Two op.Dadd (Constant gen.Zero) OnlyDest
emulated_form Dec = Two op.Sub (Constant gen.One) OnlyDest
emulated_form Decd = Two op.Sub (Constant gen.Two) OnlyDest
emulated_form Dint = Two op.Bic (Constant gen.Eight) (Register R2)
emulated_form Eint = Two op.Bis (Constant gen.Eight) (Register R2)
emulated_form Inc = Two op.Add (Constant gen.One) OnlyDest
emulated_form Incd = Two op.Add (Constant gen.Two) OnlyDest
emulated_form Inv = Two op.Xor (Constant gen.MinusOne) OnlyDest
emulated_form Nop = Two op.Mov (Constant gen.Zero) (Register R3)
emulated_form Pop = Two op.Mov StackTop OnlyDest
emulated_form Ret = Two op.Mov StackTop (Register R0)
emulated_form Rla = Two op.Add First OnlyDest
emulated_form Rlc = Two op.Addc First OnlyDest
emulated_form Sbc = Two op.Subc (Constant gen.Zero) OnlyDest
emulated_form Setc = Two op.Bis (Constant gen.One) (Register R2)
emulated_form Setn = Two op.Bis (Constant gen.Four) (Register R2)
emulated_form Setz = Two op.Bis (Constant gen.Two) (Register R2)
emulated_form Tst = Two op.Cmp (Constant gen.Zero) OnlyDest

abbrev pub form_of : Mnemonic → Form
form_of (mnemonic.Two op) = Two op First Second
form_of (mnemonic.One op) = One op
form_of mnemonic.Reti = Reti
form_of (mnemonic.Jump condition) = Jump condition
form_of (mnemonic.Emulated emulated) = emulated_form emulated

-- the instructions that have a byte form: an emulated one has none that goes to a fixed register
abbrev pub has_byte_form : Form → Bool
has_byte_form (Two op source (Register register)) = false
has_byte_form (Two op source dest) = true
has_byte_form (One op) = has_size op Byte
has_byte_form Reti = false
has_byte_form (Jump condition) = false

-- the operands that are written, by where those of the processor's instruction are from
abbrev pub operand_form : Form → OperandForm
operand_form (Two op First Second) = SourceAndDestination
operand_form (Two op First OnlyDest) = DestinationTwice
operand_form (Two op First (Register register)) = Source
operand_form (Two op source (Register register)) = Nothing
operand_form (Two op source dest) = Destination
operand_form (One op) = if writes_operand op then InPlace else Source
operand_form Reti = Nothing
operand_form (Jump condition) = Target
