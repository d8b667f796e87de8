-- What an instruction word spells.
use Rattle.std.specs.Prelude.{◌≡◌, ◌<◌, ◌≤◌, ◌⊎◌, ◌+◌, ◌*◌, ◌/◌, ◌%◌, ◌==◌, ◌&&◌, ◌||◌, ℕ, ℤ, pos, negsuc, Bool, true, false, not, nat_lt, IsTrue}
use Rattle.word_arith.specs.{declared.size.Size.{Size, TheVariants.{Byte, Word}}, Number.Word16}
use Rattle.msp_decode.specs.{declared.{one.One.{One, TheVariants.{Swpb, Sxt, Push, Call}}, head.Head.{Head, TheVariants.{Two, One as OneOperand, Reti, Jump}}, source_form.SourceForm.{SourceForm, TheVariants.{Register, Indexed, Indirect, IndirectInc, Immediate, Constant}}}, Table.{reg_number, op2_number, one_number, cond_number, size_number, source_mode, source_register, dest_mode, dest_register, offset_number}}

-- SWPB, SXT and CALL are of words alone
abbrev pub has_byte_form : One → Bool
has_byte_form Swpb = false
has_byte_form Sxt = false
has_byte_form Call = false
has_byte_form op = true

-- an operation that there is in this size
abbrev pub has_size : One → Size → Bool
has_size op Word = true
has_size op Byte = has_byte_form op

-- RRC, SWPB, RRA and SXT write their operand, PUSH and CALL do not
abbrev pub writes_operand : One → Bool
writes_operand Push = false
writes_operand Call = false
writes_operand op = true

-- an immediate or a constant takes no write
abbrev pub takes_result : SourceForm → Bool
takes_result Immediate = false
takes_result (Constant g) = false
takes_result form = true

-- the source is written in its mode: there R2 and R3 give no constant, and R0 no immediate
abbrev pub has_form : SourceForm → Bool
has_form (Register r) = not (reg_number r == 3)
has_form (Indexed r) = not (reg_number r == 3)
has_form (Indirect r) = not (reg_number r == 2) && not (reg_number r == 3)
has_form (IndirectInc r) =
    not (reg_number r == 0) && not (reg_number r == 2) && not (reg_number r == 3)
has_form form = true

-- a jump's offset is from -512 to 511; negsuc n is -(n + 1)
abbrev pub has_range : ℤ → Bool
has_range (pos n) = nat_lt n 512
has_range (negsuc n) = nat_lt n 512

-- the heads that words spell
abbrev pub is_legal : Head → Bool
is_legal (Two op size source dest) = has_form source
is_legal (OneOperand op size source) =
    has_form source && has_size op size && (takes_result source || not (writes_operand op))
is_legal Reti = true
is_legal (Jump cond offset) = has_range offset

-- RETI has no fields
abbrev pub RETI_WORD : Word16
RETI_WORD = 0x1300

-- the word of a head, the sum of its fields
abbrev pub word_of : Head → Word16
word_of (Two op size source dest) =
    op2_number op * 0x1000 + source_register source * 0x100 + dest_mode dest * 0x80
    + size_number size * 0x40 + source_mode source * 0x10 + dest_register dest
word_of (OneOperand op size source) =
    0x1000 + one_number op * 0x80 + size_number size * 0x40 + source_mode source * 0x10
    + source_register source
word_of Reti = RETI_WORD
word_of (Jump cond offset) = 0x2000 + cond_number cond * 0x400 + offset_number offset

-- the word spells the head
abbrev pub Spells : Word16 → Head → Type 0
Spells word head = IsTrue (is_legal head) × (word ≡ word_of head)

-- the opcode of one operand in a word
abbrev pub one_field : Word16 → ℕ
one_field word = word / 0x80 % 8

-- SWPB, SXT or CALL as a byte instruction
abbrev pub IsByteWordOnly : Word16 → Type 0
IsByteWordOnly word =
    (word / 0x40 % 2 ≡ 1) × ((one_field word ≡ 1) ⊎ (one_field word ≡ 3) ⊎ (one_field word ≡ 5))

-- an immediate, or a constant of R2 or R3
abbrev pub IsFixedOperand : Word16 → Type 0
IsFixedOperand word =
    ((word % 16 ≡ 0) × (word / 0x10 % 4 ≡ 3))
    ⊎ ((word % 16 ≡ 2) × (2 ≤ word / 0x10 % 4))
    ⊎ (word % 16 ≡ 3)

-- the illegal words: below 1000; from 1301 to 1FFF; SWPB, SXT and CALL of bytes; RRC, SWPB, RRA and
-- SXT of an immediate or a constant
abbrev pub IsIllegalWord : Word16 → Type 0
IsIllegalWord word =
    (word < 0x1000)
    ⊎ ((0x1300 < word) × (word < 0x2000))
    ⊎ ((0x1000 ≤ word) × (word < 0x1300) × IsByteWordOnly word)
    ⊎ ((0x1000 ≤ word) × (word < 0x1200) × IsFixedOperand word)
