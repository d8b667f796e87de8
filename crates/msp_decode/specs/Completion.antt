-- Instructions, their heads and their extension words.
use Rattle.std.specs.Prelude.{◌+◌, ◌++◌, ◌==◌, ℕ, List, [], ◌∷◌, if◌then◌else◌}
use Rattle.word_arith.specs.Number.{Word16}
use Rattle.msp_decode.specs.{declared.{source.Source.{Source, TheVariants.{Reg, Indexed, Indirect, IndirectInc, Immediate, Constant}}, dest.Dest.{Dest, TheVariants.{Reg as DestReg, Indexed as DestIndexed}}, source_form.SourceForm.{SourceForm, TheVariants.{Register as RegisterForm, Indexed as IndexedForm, Indirect as IndirectForm, IndirectInc as IndirectIncForm, Immediate as ImmediateForm, Constant as ConstantForm}}, dest_form.DestForm.{DestForm, TheVariants.{Register as DestRegisterForm, Indexed as DestIndexedForm}}, instr.Instr.{Instr, TheVariants.{Two, One, Reti, Jump}}, head.Head.{Head, TheVariants.{Two as TwoHead, One as OneHead, Reti as RetiHead, Jump as JumpHead}}}, Spelling.word_of}

-- how many extension words a source has
abbrev pub source_extensions : SourceForm → ℕ
source_extensions (RegisterForm r) = 0
source_extensions (IndexedForm r) = 1
source_extensions (IndirectForm r) = 0
source_extensions (IndirectIncForm r) = 0
source_extensions ImmediateForm = 1
source_extensions (ConstantForm g) = 0

-- how many extension words a destination has
abbrev pub dest_extensions : DestForm → ℕ
dest_extensions (DestRegisterForm r) = 0
dest_extensions (DestIndexedForm r) = 1

-- how many extension words an instruction has
abbrev pub extension_count : Head → ℕ
extension_count (TwoHead op size source dest) = source_extensions source + dest_extensions dest
extension_count (OneHead op size source) = source_extensions source
extension_count RetiHead = 0
extension_count (JumpHead cond offset) = 0

-- a source with its extension word
abbrev pub source_completion : SourceForm → Word16 → Source
source_completion (RegisterForm r) word = Reg r
source_completion (IndexedForm r) word = Indexed r word
source_completion (IndirectForm r) word = Indirect r
source_completion (IndirectIncForm r) word = IndirectInc r
source_completion ImmediateForm word = Immediate word
source_completion (ConstantForm g) word = Constant g

-- a destination with its extension word
abbrev pub dest_completion : DestForm → Word16 → Dest
dest_completion (DestRegisterForm r) word = DestReg r
dest_completion (DestIndexedForm r) word = DestIndexed r word

-- the instruction with its extension words, the source's before the destination's
abbrev pub completion : Head → Word16 → Word16 → Instr
completion (TwoHead op size source dest) first second =
    Two op size (source_completion source first)
    (dest_completion dest (if source_extensions source == 0 then first else second))
completion (OneHead op size source) first second = One op size (source_completion source first)
completion RetiHead first second = Reti
completion (JumpHead cond offset) first second = Jump cond offset

-- a source without its extension word
abbrev pub source_form : Source → SourceForm
source_form (Reg r) = RegisterForm r
source_form (Indexed r word) = IndexedForm r
source_form (Indirect r) = IndirectForm r
source_form (IndirectInc r) = IndirectIncForm r
source_form (Immediate word) = ImmediateForm
source_form (Constant g) = ConstantForm g

-- a destination without its extension word
abbrev pub dest_form : Dest → DestForm
dest_form (DestReg r) = DestRegisterForm r
dest_form (DestIndexed r word) = DestIndexedForm r

-- the instruction without its extension words
abbrev pub head_part : Instr → Head
head_part (Two op size source dest) = TwoHead op size (source_form source) (dest_form dest)
head_part (One op size source) = OneHead op size (source_form source)
head_part Reti = RetiHead
head_part (Jump cond offset) = JumpHead cond offset

-- the extension word of a source, if it has one
abbrev pub source_words : Source → List Word16
source_words (Reg r) = []
source_words (Indexed r word) = word ∷ []
source_words (Indirect r) = []
source_words (IndirectInc r) = []
source_words (Immediate word) = word ∷ []
source_words (Constant g) = []

-- the extension word of a destination, if it has one
abbrev pub dest_words : Dest → List Word16
dest_words (DestReg r) = []
dest_words (DestIndexed r word) = word ∷ []

-- the extension words of an instruction, the source's before the destination's
abbrev pub extension_words : Instr → List Word16
extension_words (Two op size source dest) = source_words source ++ dest_words dest
extension_words (One op size source) = source_words source
extension_words Reti = []
extension_words (Jump cond offset) = []

-- the words of an instruction
abbrev pub words_of : Instr → List Word16
words_of instr = word_of (head_part instr) ∷ extension_words instr
