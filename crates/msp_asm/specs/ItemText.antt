-- The text of an item: mnemonics and operands in lower case, as the assembler reads them.
use Rattle.std.specs.Prelude.{◌++◌, ℕ, List, [], codes}
use Rattle.word_arith.specs.{declared.size.Size.{Size, TheVariants.{Byte as ByteSize, Word as WordSize}}}
use Rattle.msp_decode.specs.{declared.{reg.Reg.{Reg, TheVariants.R2}, constant.Gen.{Gen, TheVariants.{Zero, One as PlusOne, Two as PlusTwo, Four, Eight, MinusOne}}, source.Source.{Source, TheVariants.{Reg as Register, Indexed, Indirect, IndirectInc, Immediate, Constant}}, dest.Dest.{Dest, TheVariants.{Reg as DestRegister, Indexed as DestIndexed}}, instr.Instr.{Instr, TheVariants.{Two, One as OneOperand, Reti, Jump}}}}
use Rattle.asm_text.specs.Name.{op2_name, one_name, jump_name, reg_name}
use Rattle.part_definitions.specs.{CpuRegister.plus, Instruction.jump_target}
use Rattle.printed_lines.specs.Line.{byte_digits, word_digits}
use Rattle.msp_asm.specs.{declared.item.Item.{Item, TheVariants.{Byte, Word, Instruction}}}

-- numbers are hexadecimal
abbrev pub word_text : ℕ → List ℕ
word_text word = codes "0x" ++ word_digits word

-- a byte instruction has a suffix
abbrev pub size_suffix : Size → List ℕ
size_suffix ByteSize = codes ".b"
size_suffix WordSize = []

-- indexed by R2 is absolute
abbrev pub indexed_text : Reg → ℕ → List ℕ
indexed_text R2 index = codes "&" ++ word_text index
indexed_text register index = word_text index ++ codes "(" ++ reg_name register ++ codes ")"

-- the constants of the generators
abbrev pub constant_text : Gen → List ℕ
constant_text Zero = codes "#0"
constant_text PlusOne = codes "#1"
constant_text PlusTwo = codes "#2"
constant_text Four = codes "#4"
constant_text Eight = codes "#8"
constant_text MinusOne = codes "#-1"

abbrev pub source_text : Source → List ℕ
source_text (Register register) = reg_name register
source_text (Indexed register index) = indexed_text register index
source_text (Indirect register) = codes "@" ++ reg_name register
source_text (IndirectInc register) = codes "@" ++ reg_name register ++ codes "+"
source_text (Immediate word) = codes "#" ++ word_text word
source_text (Constant constant) = constant_text constant

abbrev pub dest_text : Dest → List ℕ
dest_text (DestRegister register) = reg_name register
dest_text (DestIndexed register index) = indexed_text register index

-- an instruction at a place; a jump has its target
abbrev pub instr_text : ℕ → Instr → List ℕ
instr_text place (Two op size source dest) =
    op2_name op ++ size_suffix size ++ codes " " ++ source_text source ++ codes ","
    ++ dest_text dest
instr_text place (OneOperand op size source) =
    one_name op ++ size_suffix size ++ codes " " ++ source_text source
instr_text place Reti = codes "reti"
instr_text place (Jump condition offset) =
    jump_name condition ++ codes " " ++ word_text (jump_target (plus place 2) offset)

abbrev pub item_text : ℕ → Item → List ℕ
item_text place (Byte byte) = codes ".byte 0x" ++ byte_digits byte
item_text place (Word word) = codes ".word " ++ word_text word
item_text place (Instruction instr) = instr_text place instr
