-- An instruction is read back from its words, and the words are written back from the instruction.
use Rattle.std.{proofs.{Common.{◌≡◌, ℕ, ◌<◌, ◌^◌, [], ◌∷◌, length, take, refl, ap, ◌∙◌, arith, None}, lemmas.Bool.Decides.nat_tests}, specs.Prelude.{IsTrue, slice_index}}
use Rattle.msp_decode.{specs.{declared.{instr.Instr.Instr, head.Head.Head}, Spelling.{is_legal, word_of}, Completion.{extension_count, completion, head_part, extension_words, words_of}, EncodeFault.first_fault, Law.{WordsAreRead, WordsAreWritten}}, proofs.{TableLemmas.{op2_number-lt, one_number-lt, cond_number-lt, size_number-lt, source_mode-lt, source_register-lt, dest_mode-lt, dest_register-lt, offset_number-lt}, HeadLemmas.head_complete}}

-- the word of a legal head is a word
word_of-lt : (head : Head) → IsTrue (is_legal head) → word_of head < 2 ^ 16
word_of-lt head legal =
    grind (
      arith,
      op2_number-lt,
      one_number-lt,
      cond_number-lt,
      size_number-lt,
      source_mode-lt,
      source_register-lt,
      dest_mode-lt,
      dest_register-lt,
      offset_number-lt,
    )

-- a head is legal exactly where it has no fault
legal_where_faultless : (head : Head) → first_fault head ≡ None → IsTrue (is_legal head)
legal_where_faultless head none = grind (arith, nat_tests)

faultless_where_legal : (head : Head) → IsTrue (is_legal head) → first_fault head ≡ None
faultless_where_legal head legal = grind (arith, nat_tests)

-- how many extension words there are
length-extension_words : (instr : Instr)
    → length (extension_words instr) ≡ extension_count (head_part instr)
length-extension_words instr = grind arith

-- head and extension words make up the instruction
completion-words_of : (instr : Instr)
    → completion (head_part instr) (slice_index (words_of instr) 1) (slice_index (words_of instr) 2)
    ≡ instr
completion-words_of instr = grind arith

-- the head of an instruction that is made from a head
head_part-completion : (head : Head) (first second : ℕ)
    → head_part (completion head first second) ≡ head
head_part-completion head first second = grind arith

-- its extension words
extension_words-completion : (head : Head) (first second : ℕ)
    → extension_words (completion head first second)
    ≡ take (extension_count head) (first ∷ second ∷ [])
extension_words-completion head first second = grind arith

pub words_are_read : WordsAreRead
words_are_read instr none =
    let legal : IsTrue (is_legal (head_part instr)) =
    legal_where_faultless (head_part instr) none in
    record {
      head = head_complete (word_of (head_part instr)) (head_part instr)
          (word_of-lt (head_part instr) legal) (legal, refl);
      count = omega (arith, length-extension_words instr);
      back = completion-words_of instr;
    }

pub words_are_written : WordsAreWritten
words_are_written word first second head spells = (
  ap first_fault (head_part-completion head first second) ∙ faultless_where_legal head (spells.0),
  (rw (
    head_part-completion head first second,
    extension_words-completion head first second,
    spells.1,
  ) refl),
)
