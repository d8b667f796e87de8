-- What a listing's items are where the assembler reads them.
use Rattle.std.specs.Prelude.{◌≡◌, ◌<◌, ◌+◌, ◌*◌, ◌&&◌, ℕ, ℤ, pos, negsuc, Bool, true, nat_le, nat_lt, List, [], ◌∷◌, flat_map, length, slice_index, if◌then◌else◌, Option, Some, None, is_none, Result, Ok, Err}
use Rattle.word_arith.specs.declared.size.Size.{Size}
use Rattle.msp_decode.specs.{declared.{source.Source.{Source, TheVariants.Immediate}, instr.Instr.{Instr, TheVariants.{Two, One, Reti, Jump}}}, Completion.words_of}
use Rattle.text_scan.specs.{declared.fault_kind.FaultKind.{FaultKind, TheVariants.Range}, Reader.◌>>=◌}
use Rattle.asm_text.specs.{declared.body.Body.Body, Source.line_statement}
use Rattle.msp_asm.specs.{Operand.{all_ones, constant_of, immediate}, Statement.{bytes_of, word_bytes}, declared.item.Item.Item, Item.item_size, ItemText.item_text}
use Rattle.msp_asm.specs.declared.item.Item.TheVariants as items

-- an immediate is the constant of its value where a generator gives it; above 00FF it is none of a
-- byte instruction
abbrev pub source_again : Size → Source → Result Source FaultKind
source_again size (Immediate word) = immediate size (constant_of size (pos word)) (pos word)
source_again size source = Ok source

-- a jump's target, so many words behind the next word, is one of the 65,536 places
abbrev pub stays_within : ℕ → ℤ → Bool
stays_within place (pos n) = nat_lt (place + 2 + 2 * n) 65536
stays_within place (negsuc n) = nat_le (2 * (n + 1)) (place + 2)

-- the instruction that is assembled from the text of one
abbrev pub instr_again : ℕ → Instr → Result Instr FaultKind
instr_again place (Two op size source dest) = do
  from ← source_again size source
  Ok (Two op size from dest)
instr_again place (One op size source) = do
  from ← source_again size source
  Ok (One op size from)
instr_again place Reti = Ok Reti
instr_again place (Jump condition offset) =
    if stays_within place offset then Ok (Jump condition offset) else Err Range

-- the bytes that are assembled from the text of an item, or the fault
abbrev pub bytes_again : ℕ → Item → Result (List ℕ) FaultKind
bytes_again place (items.Byte byte) = Ok (byte ∷ [])
bytes_again place (items.Word word) = Ok (word_bytes word)
bytes_again place (items.Instruction instr) = do
  again ← instr_again place instr
  Ok (flat_map word_bytes (words_of again))

-- an immediate that no generator gives and that fits its size, or another source
abbrev pub is_plain_source : Size → Source → Bool
is_plain_source size (Immediate word) =
    is_none (constant_of size (pos word)) && nat_le word (all_ones size)
is_plain_source size source = true

abbrev pub is_plain_instr : ℕ → Instr → Bool
is_plain_instr place (Two op size source dest) = is_plain_source size source
is_plain_instr place (One op size source) = is_plain_source size source
is_plain_instr place Reti = true
is_plain_instr place (Jump condition offset) = stays_within place offset

-- the items whose text assembles to the bytes that they are of
abbrev pub is_plain : ℕ → Item → Bool
is_plain place (items.Byte byte) = true
is_plain place (items.Word word) = true
is_plain place (items.Instruction instr) = is_plain_instr place instr

-- the text of an item is a statement without a label, as each line of a source, and at the item's
-- place it has these bytes under all names
pub record IsReadAs (place : ℕ) (item : Item) : Type 0 where
  pub body : Body
  pub read : (number : ℕ) → line_statement number (item_text place item)
      ≡ Ok (record { line = number; label = None; body = body })
  pub bytes : (names : List ℕ → Option ℤ)
      → bytes_of (record { names = names; here = place }) body ≡ bytes_again place item

-- the image has these bytes from a place on
abbrev pub AreAt : (ℕ → Option ℕ) → ℕ → List ℕ → Type 0
AreAt image place bytes =
    (k : ℕ) → k < length bytes → image (place + k) ≡ Some (slice_index bytes k)

-- what is assembled from the text of an item are the bytes that the image has there
pub record AreSameBytes (image : ℕ → Option ℕ) (place : ℕ) (item : Item) : Type 0 where
  pub bytes : List ℕ
  pub again : bytes_again place item ≡ Ok bytes
  pub count : length bytes ≡ item_size item
  pub at : AreAt image place bytes
