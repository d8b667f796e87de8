-- The items of a listing: what stands at a place of an image.
use Rattle.std.specs.Prelude.{◌+◌, ◌*◌, ◌%◌, ◌==◌, ℕ, zero, suc, Option, Some, None, length, nat_le, if◌then◌else◌}
use Rattle.device_types.specs.Map.{vector_region}
use Rattle.msp_decode.specs.{declared.head.Head.Head, Completion.{extension_count, completion, words_of}, Head.head_of}
use Rattle.msp_asm.specs.{declared.item.Item.{Item, TheVariants.{Byte, Word, Instruction}}}

-- the little-endian word at a place, where the image has both of its bytes
abbrev pub word_of_bytes : Option ℕ → Option ℕ → Option ℕ
word_of_bytes (Some low) (Some high) = Some (low + 256 * high)
word_of_bytes low high = None

abbrev pub word_in : (ℕ → Option ℕ) → ℕ → Option ℕ
word_in bytes place = word_of_bytes (bytes place) (bytes (place + 1))

-- vectors are no instructions
abbrev pub FIRST_VECTOR : ℕ
FIRST_VECTOR = vector_region.first

-- an instruction with so many extension words, where the image has them
abbrev pub with_words : Head → ℕ → Option ℕ → Option ℕ → Item → Item
with_words head zero first second otherwise = Instruction (completion head 0 0)
with_words head (suc zero) (Some first) second otherwise = Instruction (completion head first 0)
with_words head (suc (suc zero)) (Some first) (Some second) otherwise =
    Instruction (completion head first second)
with_words head count first second otherwise = otherwise

-- a legal word with its extension words is an instruction
abbrev pub instruction_item : (ℕ → Option ℕ) → ℕ → ℕ → Option Head → Item
instruction_item bytes place word None = Word word
instruction_item bytes place word (Some head) =
    with_words head (extension_count head) (word_in bytes (place + 2)) (word_in bytes (place + 4))
    (Word word)

-- a word among the vectors is a word
abbrev pub word_item : (ℕ → Option ℕ) → ℕ → ℕ → Item
word_item bytes place word =
    if nat_le FIRST_VECTOR place then Word word
    else instruction_item bytes place word (head_of word)

-- a byte at an odd place, or without the next one, is a byte
abbrev pub even_item : (ℕ → Option ℕ) → ℕ → ℕ → Option ℕ → Item
even_item bytes place byte None = Byte byte
even_item bytes place byte (Some word) = word_item bytes place word

abbrev pub byte_item : (ℕ → Option ℕ) → ℕ → ℕ → Item
byte_item bytes place byte =
    if place % 2 == 0 then even_item bytes place byte (word_in bytes place) else Byte byte

-- nothing where the image has no byte
abbrev pub item_from : (ℕ → Option ℕ) → ℕ → Option ℕ → Option Item
item_from bytes place None = None
item_from bytes place (Some byte) = Some (byte_item bytes place byte)

abbrev pub item_at : (ℕ → Option ℕ) → ℕ → Option Item
item_at bytes place = item_from bytes place (bytes place)

-- how many bytes an item is of
abbrev pub item_size : Item → ℕ
item_size (Byte byte) = 1
item_size (Word word) = 2
item_size (Instruction instr) = 2 * length (words_of instr)
