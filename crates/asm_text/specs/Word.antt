-- Words: numbers, names, and the operations that they name.
use Rattle.std.specs.{Prelude.{ℕ, ◌==◌, ◌-◌, ◌&&◌, ◌||◌, Bool, not, List, [], ◌∷◌, Option, Some, None, length, take, drop, map, codes, slice_index, if◌then◌else◌, nat_lt, nat_le}, Char.{is_ascii_alphanumeric, is_ascii_digit, is_ascii_hexdigit, to_ascii_lowercase}, List.list_all, Option.option_or, Str.{bytes_eq, Parse.digits_value}}
use Rattle.word_arith.specs.declared.size.Size.TheVariants as sizes
use Rattle.asm_text.specs.{declared.{mnemonic.Mnemonic.Mnemonic, operation.Operation.{Operation, TheVariants.{Instr, Org, Word, Byte, Ascii, Equ}}}, Form.{form_of, has_byte_form}, Name.mnemonic_of}

-- letters, digits and `_` (95)
abbrev pub is_name_character : ℕ → Bool
is_name_character c = is_ascii_alphanumeric c || (c == 95)

-- a word also has `.` (46): before a directive, and before a suffix
abbrev pub is_word_character : ℕ → Bool
is_word_character c = is_name_character c || (c == 46)

abbrev pub ends_word : ℕ → Bool
ends_word c = not (is_word_character c)

-- a name has 1 to 64 characters, of which the first is no digit
abbrev pub is_name : List ℕ → Bool
is_name word =
    nat_lt 0 (length word) && nat_le (length word) 64
    && list_all is_name_character word && not (is_ascii_digit (slice_index word 0))

-- a number of at most 65535
abbrev pub small_number : ℕ → Option ℕ
small_number number = if nat_le number 65535 then Some number else None

-- the number of one digit or more, leading zeros among them
abbrev pub numeral : ℕ → (ℕ → Bool) → List ℕ → Option ℕ
numeral radix is_digit digits =
    if nat_lt 0 (length digits) && list_all is_digit digits
    then small_number (digits_value radix digits)
    else None

-- a decimal, or `0x` and hexadecimal digits of either case
abbrev pub number_of : List ℕ → Option ℕ
number_of word =
    if bytes_eq (take 2 word) (codes "0x") then numeral 16 is_ascii_hexdigit (drop 2 word)
    else numeral 10 is_ascii_digit word

abbrev pub lower_case : List ℕ → List ℕ
lower_case word = map to_ascii_lowercase word

-- the directives, by what stands behind the dot
abbrev pub dot_operation_of : List ℕ → Option Operation
dot_operation_of name =
    if bytes_eq name (codes "org") then Some Org
    else if bytes_eq name (codes "word") then Some Word
    else if bytes_eq name (codes "byte") then Some Byte
    else if bytes_eq name (codes "ascii") then Some Ascii
    else if bytes_eq name (codes "equ") then Some Equ
    else None

abbrev pub directive_of : List ℕ → Option Operation
directive_of [] = None
directive_of (c ∷ name) = if c == 46 then dot_operation_of name else None

abbrev pub word_form : Option Mnemonic → Option Operation
word_form None = None
word_form (Some mnemonic) = Some (Instr mnemonic sizes.Word)

abbrev pub byte_form : Option Mnemonic → Option Operation
byte_form None = None
byte_form (Some mnemonic) =
    if has_byte_form (form_of mnemonic) then Some (Instr mnemonic sizes.Byte) else None

-- the last two characters of a word, and what stands before them
abbrev pub suffix : List ℕ → List ℕ
suffix word = drop (length word - 2) word

abbrev pub stem : List ℕ → List ℕ
stem word = take (length word - 2) word

-- `.b` makes a byte instruction, `.w` or nothing a word instruction
abbrev pub instruction_of : List ℕ → Option Operation
instruction_of word =
    if bytes_eq (suffix word) (codes ".b") then byte_form (mnemonic_of (stem word))
    else if bytes_eq (suffix word) (codes ".w") then word_form (mnemonic_of (stem word))
    else word_form (mnemonic_of word)

-- the operation that a word in lower case names
abbrev pub operation_of : List ℕ → Option Operation
operation_of word = option_or (directive_of word) (instruction_of word)
