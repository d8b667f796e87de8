-- The meaning of each field of an instruction word, as functions that compute.
use Rattle.std.specs.Prelude.{◌-ℤ◌, ◌==◌, ◌&&◌, ℕ, ℤ, pos, nat_lt, Bool, List, [], ◌∷◌, if◌then◌else◌}
use Rattle.word_arith.specs.{declared.{size.Size.{Size, TheVariants.{Byte, Word}}, op2.Op2.{Op2, TheVariants.{Mov, Add, Addc, Subc, Sub, Cmp, Dadd, Bit, Bic, Bis, Xor, And}}}}
use Rattle.msp_decode.specs.{declared.{reg.Reg.{Reg, TheVariants.{R0, R1, R2, R3, R4, R5, R6, R7, R8, R9, R10, R11, R12, R13, R14, R15}}, constant.Gen.TheVariants.{Zero, One as PlusOne, Two, Four, Eight, MinusOne}, one.One.{One, TheVariants.{Rrc, Swpb, Rra, Sxt, Push, Call}}, cond.Cond.{Cond, TheVariants.{Ne, Eq, Nc, C, N, Ge, L, Always}}, source_form.SourceForm.{SourceForm, TheVariants.{Register, Indexed, Indirect, IndirectInc, Immediate, Constant}}, dest_form.DestForm.{DestForm, TheVariants.{Register as DestRegister, Indexed as DestIndexed}}}, Table.{reg_number, op2_number, one_number, cond_number, size_number, source_mode, source_register, dest_mode}}

-- the first of some values that passes a test, the last value where none of them does
abbrev pub first_that : {A : Type 0} → (A → Bool) → List A → A → A
first_that test [] last = last
first_that test (value ∷ values) last = if test value then value else first_that test values last

-- the first of some values that has a number, the last value where none of them has it
abbrev pub value_numbered : {A : Type 0} → (A → ℕ) → List A → A → ℕ → A
value_numbered number_of values last n = first_that (λ value. n == number_of value) values last

-- the register of a number below 16
abbrev pub reg_of : ℕ → Reg
reg_of n =
    value_numbered reg_number
    (R0 ∷ R1 ∷ R2 ∷ R3 ∷ R4 ∷ R5 ∷ R6 ∷ R7 ∷ R8 ∷ R9 ∷ R10 ∷ R11 ∷ R12 ∷ R13 ∷ R14 ∷ []) R15 n

-- the operation of two operands of an opcode from 4 to 15
abbrev pub op2_of : ℕ → Op2
op2_of n =
    value_numbered op2_number
    (Mov ∷ Add ∷ Addc ∷ Subc ∷ Sub ∷ Cmp ∷ Dadd ∷ Bit ∷ Bic ∷ Bis ∷ Xor ∷ []) And n

-- the operation of one operand of an opcode below 6
abbrev pub one_of : ℕ → One
one_of n = value_numbered one_number (Rrc ∷ Swpb ∷ Rra ∷ Sxt ∷ Push ∷ []) Call n

-- the condition of a number below 8
abbrev pub cond_of : ℕ → Cond
cond_of n = value_numbered cond_number (Ne ∷ Eq ∷ Nc ∷ C ∷ N ∷ Ge ∷ L ∷ []) Always n

-- the size of the B/W bit
abbrev pub size_of_bit : ℕ → Size
size_of_bit bit = value_numbered size_number (Word ∷ []) Byte bit

-- the source of a mode and a register field: the immediate or the constant that has both, else
-- the register in the mode
abbrev pub source_of : ℕ → ℕ → SourceForm
source_of mode n =
    first_that (λ form. mode == source_mode form && n == source_register form)
    (Immediate ∷ Constant Zero ∷ Constant PlusOne ∷ Constant Two ∷ Constant Four ∷ Constant Eight
    ∷ Constant MinusOne ∷ [])
    (value_numbered source_mode
    (Register (reg_of n) ∷ Indexed (reg_of n) ∷ Indirect (reg_of n) ∷ []) (IndirectInc (reg_of n))
    mode)

-- the destination of a mode and a register field
abbrev pub dest_of : ℕ → ℕ → DestForm
dest_of mode n =
    value_numbered dest_mode (DestRegister (reg_of n) ∷ []) (DestIndexed (reg_of n)) mode

-- the offset of ten bits in two's complement
abbrev pub offset_of : ℕ → ℤ
offset_of field = if nat_lt field 512 then pos field else pos field -ℤ pos 1024
