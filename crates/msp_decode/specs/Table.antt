-- The numbers of the fields of an instruction word (SLAU049).
use Rattle.std.specs.Prelude.{◌-◌, ℕ, ℤ, pos, negsuc}
use Rattle.word_arith.specs.{declared.{size.Size.{Size, TheVariants.{Byte, Word}}, op2.Op2.{Op2, TheVariants.{Mov, Add, Addc, Subc, Sub, Cmp, Dadd, Bit, Bic, Bis, Xor, And}}}}
use Rattle.msp_decode.specs.{declared.{reg.Reg.{Reg, TheVariants.{R0, R1, R2, R3, R4, R5, R6, R7, R8, R9, R10, R11, R12, R13, R14, R15}}, constant.Gen.TheVariants.{Zero, One as PlusOne, Two, Four, Eight, MinusOne}, one.One.{One, TheVariants.{Rrc, Swpb, Rra, Sxt, Push, Call}}, cond.Cond.{Cond, TheVariants.{Ne, Eq, Nc, C, N, Ge, L, Always}}, source_form.SourceForm.{SourceForm, TheVariants.{Register, Indexed, Indirect, IndirectInc, Immediate, Constant}}, dest_form.DestForm.{DestForm, TheVariants.{Register as DestRegister, Indexed as DestIndexed}}}}

-- register fields
abbrev pub reg_number : Reg → ℕ
reg_number R0 = 0
reg_number R1 = 1
reg_number R2 = 2
reg_number R3 = 3
reg_number R4 = 4
reg_number R5 = 5
reg_number R6 = 6
reg_number R7 = 7
reg_number R8 = 8
reg_number R9 = 9
reg_number R10 = 10
reg_number R11 = 11
reg_number R12 = 12
reg_number R13 = 13
reg_number R14 = 14
reg_number R15 = 15

-- opcodes of two operands
abbrev pub op2_number : Op2 → ℕ
op2_number Mov = 0x4
op2_number Add = 0x5
op2_number Addc = 0x6
op2_number Subc = 0x7
op2_number Sub = 0x8
op2_number Cmp = 0x9
op2_number Dadd = 0xA
op2_number Bit = 0xB
op2_number Bic = 0xC
op2_number Bis = 0xD
op2_number Xor = 0xE
op2_number And = 0xF

-- opcodes of one operand
abbrev pub one_number : One → ℕ
one_number Rrc = 0
one_number Swpb = 1
one_number Rra = 2
one_number Sxt = 3
one_number Push = 4
one_number Call = 5

-- conditions of jumps
abbrev pub cond_number : Cond → ℕ
cond_number Ne = 0
cond_number Eq = 1
cond_number Nc = 2
cond_number C = 3
cond_number N = 4
cond_number Ge = 5
cond_number L = 6
cond_number Always = 7

-- B/W
abbrev pub size_number : Size → ℕ
size_number Word = 0
size_number Byte = 1

-- the mode (As) and the register field of a source: an immediate is at R0, and R2 and R3 generate
-- the constants
abbrev pub source_fields : SourceForm → ℕ × ℕ
source_fields (Register r) = (0, reg_number r)
source_fields (Indexed r) = (1, reg_number r)
source_fields (Indirect r) = (2, reg_number r)
source_fields (IndirectInc r) = (3, reg_number r)
source_fields Immediate = (3, 0)
source_fields (Constant Zero) = (0, 3)
source_fields (Constant PlusOne) = (1, 3)
source_fields (Constant Two) = (2, 3)
source_fields (Constant Four) = (2, 2)
source_fields (Constant Eight) = (3, 2)
source_fields (Constant MinusOne) = (3, 3)

abbrev pub source_mode : SourceForm → ℕ
source_mode form = (source_fields form).0

abbrev pub source_register : SourceForm → ℕ
source_register form = (source_fields form).1

-- the mode (Ad) and the register field of a destination
abbrev pub dest_fields : DestForm → ℕ × ℕ
dest_fields (DestRegister r) = (0, reg_number r)
dest_fields (DestIndexed r) = (1, reg_number r)

abbrev pub dest_mode : DestForm → ℕ
dest_mode form = (dest_fields form).0

abbrev pub dest_register : DestForm → ℕ
dest_register form = (dest_fields form).1

-- a jump's offset in ten bits, two's complement; negsuc n is -(n + 1)
abbrev pub offset_number : ℤ → ℕ
offset_number (pos n) = n
offset_number (negsuc n) = 1023 - n
