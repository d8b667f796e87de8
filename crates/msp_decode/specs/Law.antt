-- The laws of spellings.
use Rattle.std.specs.Prelude.{◌≡◌, ◌↔◌, ◌<◌, ◌^◌, ◌+◌, List, [], ◌∷◌, take, length, slice_index, Some, None, IsNone}
use Rattle.word_arith.specs.Number.{Word16}
use Rattle.msp_decode.specs.{declared.{head.Head.Head, instr.Instr.Instr}, Spelling.{Spells, IsIllegalWord}, Head.head_of, Completion.{completion, extension_count, head_part, words_of}, EncodeFault.first_fault}

-- the function that computes a head and the relation agree, both ways
abbrev pub HeadsAreSpelled : Type 0
HeadsAreSpelled =
    (word : Word16) (head : Head) → word < 2 ^ 16 → (head_of word ≡ Some head) ↔ Spells word head

-- words are read as an instruction: by the head that the first spells, by their number, and by the
-- extension words after it
pub record AreReadAs (words : List Word16) (instr : Instr) : Type 0 where
  pub head : head_of (slice_index words 0) ≡ Some (head_part instr)
  pub count : length words ≡ 1 + extension_count (head_part instr)
  pub back : completion (head_part instr) (slice_index words 1) (slice_index words 2) ≡ instr

-- the words of an instruction without a fault are read as that instruction
abbrev pub WordsAreRead : Type 0
WordsAreRead =
    (instr : Instr) → first_fault (head_part instr) ≡ None → AreReadAs (words_of instr) instr

-- a legal word and its extension words are the words of the instruction that they are read as
abbrev pub WordsAreWritten : Type 0
WordsAreWritten =
    (word first second : Word16) (head : Head)
    → Spells word head
    → (first_fault (head_part (completion head first second)) ≡ None)
    × (words_of (completion head first second) ≡ word ∷ take (extension_count head)
    (first ∷ second ∷ []))

-- the illegal words are those that spell nothing
abbrev pub IllegalWordsSpellNothing : Type 0
IllegalWordsSpellNothing =
    (word : Word16) → word < 2 ^ 16 → IsNone (head_of word) ↔ IsIllegalWord word
