-- The names of instructions and registers (SLAU049), in lower case.
use Rattle.std.specs.{Prelude.{ℕ, List, [], ◌∷◌, Option, Some, option_map, codes, if◌then◌else◌}, Option.option_or, Str.bytes_eq}
use Rattle.named_value.specs.Names.{Names, value_named}
use Rattle.word_arith.specs.{declared.op2.Op2.{Op2, TheVariants.{Mov, Add, Addc, Subc, Sub, Cmp, Dadd, Bit, Bic, Bis, Xor, And}}}
use Rattle.msp_decode.specs.{declared.{reg.Reg.{Reg, TheVariants.{R0, R1, R2, R3, R4, R5, R6, R7, R8, R9, R10, R11, R12, R13, R14, R15}}, one.One.{One, TheVariants.{Rrc, Swpb, Rra, Sxt, Push, Call}}, cond.Cond.{Cond, TheVariants.{Ne, Eq, Nc, C, N, Ge, L, Always}}}}
use Rattle.asm_text.specs.{declared.{emulated.Emulated.{Emulated, TheVariants.{Adc, Br, Clr, Clrc, Clrn, Clrz, Dadc, Dec, Decd, Dint, Eint, Inc, Incd, Inv, Nop, Pop, Ret, Rla, Rlc, Sbc, Setc, Setn, Setz, Tst}}, mnemonic.Mnemonic.Mnemonic}}
use Rattle.asm_text.specs.declared.mnemonic.Mnemonic.TheVariants as mnemonic

-- instructions of two operands
abbrev pub op2_name : Op2 → List ℕ
op2_name Mov = codes "mov"
op2_name Add = codes "add"
op2_name Addc = codes "addc"
op2_name Subc = codes "subc"
op2_name Sub = codes "sub"
op2_name Cmp = codes "cmp"
op2_name Dadd = codes "dadd"
op2_name Bit = codes "bit"
op2_name Bic = codes "bic"
op2_name Bis = codes "bis"
op2_name Xor = codes "xor"
op2_name And = codes "and"

-- instructions of one operand
abbrev pub one_name : One → List ℕ
one_name Rrc = codes "rrc"
one_name Swpb = codes "swpb"
one_name Rra = codes "rra"
one_name Sxt = codes "sxt"
one_name Push = codes "push"
one_name Call = codes "call"

-- jumps
abbrev pub jump_name : Cond → List ℕ
jump_name Ne = codes "jne"
jump_name Eq = codes "jeq"
jump_name Nc = codes "jnc"
jump_name C = codes "jc"
jump_name N = codes "jn"
jump_name Ge = codes "jge"
jump_name L = codes "jl"
jump_name Always = codes "jmp"

-- emulated instructions
abbrev pub emulated_name : Emulated → List ℕ
emulated_name Adc = codes "adc"
emulated_name Br = codes "br"
emulated_name Clr = codes "clr"
emulated_name Clrc = codes "clrc"
emulated_name Clrn = codes "clrn"
emulated_name Clrz = codes "clrz"
emulated_name Dadc = codes "dadc"
emulated_name Dec = codes "dec"
emulated_name Decd = codes "decd"
emulated_name Dint = codes "dint"
emulated_name Eint = codes "eint"
emulated_name Inc = codes "inc"
emulated_name Incd = codes "incd"
emulated_name Inv = codes "inv"
emulated_name Nop = codes "nop"
emulated_name Pop = codes "pop"
emulated_name Ret = codes "ret"
emulated_name Rla = codes "rla"
emulated_name Rlc = codes "rlc"
emulated_name Sbc = codes "sbc"
emulated_name Setc = codes "setc"
emulated_name Setn = codes "setn"
emulated_name Setz = codes "setz"
emulated_name Tst = codes "tst"

abbrev pub mnemonic_name : Mnemonic → List ℕ
mnemonic_name (mnemonic.Two op) = op2_name op
mnemonic_name (mnemonic.One op) = one_name op
mnemonic_name mnemonic.Reti = codes "reti"
mnemonic_name (mnemonic.Jump condition) = jump_name condition
mnemonic_name (mnemonic.Emulated emulated) = emulated_name emulated

-- registers
abbrev pub reg_name : Reg → List ℕ
reg_name R0 = codes "r0"
reg_name R1 = codes "r1"
reg_name R2 = codes "r2"
reg_name R3 = codes "r3"
reg_name R4 = codes "r4"
reg_name R5 = codes "r5"
reg_name R6 = codes "r6"
reg_name R7 = codes "r7"
reg_name R8 = codes "r8"
reg_name R9 = codes "r9"
reg_name R10 = codes "r10"
reg_name R11 = codes "r11"
reg_name R12 = codes "r12"
reg_name R13 = codes "r13"
reg_name R14 = codes "r14"
reg_name R15 = codes "r15"

abbrev pub two_operand_names : Names Op2
two_operand_names = record {
  values = Mov ∷ Add ∷ Addc ∷ Subc ∷ Sub ∷ Cmp ∷ Dadd ∷ Bit ∷ Bic ∷ Bis ∷ Xor ∷ And ∷ [];
  name = op2_name;
}

abbrev pub one_operand_names : Names One
one_operand_names =
    record { values = Rrc ∷ Swpb ∷ Rra ∷ Sxt ∷ Push ∷ Call ∷ []; name = one_name }

abbrev pub jump_names : Names Cond
jump_names =
    record { values = Ne ∷ Eq ∷ Nc ∷ C ∷ N ∷ Ge ∷ L ∷ Always ∷ []; name = jump_name }

abbrev pub emulated_names : Names Emulated
emulated_names = record {
  values = Adc ∷ Br ∷ Clr ∷ Clrc ∷ Clrn ∷ Clrz ∷ Dadc ∷ Dec ∷ Decd ∷ Dint ∷ Eint ∷ Inc ∷ Incd
      ∷ Inv ∷ Nop ∷ Pop ∷ Ret ∷ Rla ∷ Rlc ∷ Sbc ∷ Setc ∷ Setn ∷ Setz ∷ Tst ∷ [];
  name = emulated_name;
}

abbrev pub register_names : Names Reg
register_names = record {
  values = R0 ∷ R1 ∷ R2 ∷ R3 ∷ R4 ∷ R5 ∷ R6 ∷ R7 ∷ R8 ∷ R9 ∷ R10 ∷ R11 ∷ R12 ∷ R13 ∷ R14
      ∷ R15 ∷ [];
  name = reg_name;
}

-- four jumps have a second name
abbrev pub jump_of : List ℕ → Option Cond
jump_of word =
    if bytes_eq word (codes "jnz") then Some Ne
    else if bytes_eq word (codes "jz") then Some Eq
    else if bytes_eq word (codes "jlo") then Some Nc
    else if bytes_eq word (codes "jhs") then Some C
    else value_named jump_names word

abbrev pub mnemonic_of : List ℕ → Option Mnemonic
mnemonic_of word =
    option_or (option_or (option_or (option_map mnemonic.Two (value_named two_operand_names word))
    (option_map mnemonic.One (value_named one_operand_names word)))
    (option_map mnemonic.Jump (jump_of word)))
    (if bytes_eq word (codes "reti") then Some mnemonic.Reti
    else option_map mnemonic.Emulated (value_named emulated_names word))

-- three registers have a second name
abbrev pub register_of : List ℕ → Option Reg
register_of word =
    if bytes_eq word (codes "pc") then Some R0
    else if bytes_eq word (codes "sp") then Some R1
    else if bytes_eq word (codes "sr") then Some R2
    else value_named register_names word
