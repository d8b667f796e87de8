-- Which items assemble to the bytes that they are of.
use Rattle.std.{proofs.{Common.{◌≡◌, ◌∙◌, ap, sym, refl, ℕ, ◌+◌, ◌*◌, arith, Bool, true, false, List, length, length-append, ℤ, pos, Option, Some, None, Result, Ok, Err, subst, zero, suc, ◌/◌, ◌%◌, [], ◌∷◌, take}, lemmas.Bool.{and_parts, false≢true}}, specs.Prelude.{◌&&◌, nat_le, flat_map, is_none, if◌then◌else◌, IsTrue, ◌↔◌}}
use Rattle.word_arith.specs.declared.{op2.Op2.Op2, size.Size.Size}
use Rattle.msp_decode.specs.{declared.{dest.Dest.Dest, one.One.One as OneOp, cond.Cond.Cond, constant.Gen.Gen, instr.Instr.Instr, source.Source.Source}, Completion.{words_of, source_words, dest_words, extension_count, completion}, Law.{HeadsAreSpelled, WordsAreWritten}}
use Rattle.text_scan.specs.{declared.fault_kind.FaultKind.{FaultKind, TheVariants.Range}, Reader.◌>>=◌}
use Rattle.msp_asm.{specs.{Operand.{all_ones, constant_of, immediate}, Statement.word_bytes, declared.item.Item.Item, Item.{item_at, word_of_bytes, item_size}}, proofs.StatementSize.length-word_bytes}
use Rattle.mem_map.specs.ImagePlace.{IsImage}
use Rattle.text_round_trip.{specs.Listing.{source_again, stays_within, instr_again, bytes_again, is_plain_source, is_plain_instr, is_plain, AreSameBytes, AreAt}, proofs.ListedPlace.{item-holds, WordsAt}}
use Rattle.msp_decode.specs.declared.instr.Instr.TheVariants as instrs
use Rattle.msp_decode.specs.declared.source.Source.TheVariants as source
use Rattle.word_arith.specs.declared.size.Size.TheVariants as sizes
use Rattle.msp_asm.specs.declared.item.Item.TheVariants as items
use Rattle.text_round_trip.proofs.listing.plain_items_assemble_to_their_bytes.Goals as goal

-- The bytes of what stands at a place.

-- the bytes of an item are those that the image has there

abbrev item_bytes : Item → List ℕ
item_bytes (items.Byte byte) = byte ∷ []
item_bytes (items.Word word) = word_bytes word
item_bytes (items.Instruction instr) = flat_map word_bytes (words_of instr)

low-high : (image : ℕ → Option ℕ) (place word : ℕ) (low high : Option ℕ) → IsImage image
    → image place ≡ low → image (place + 1) ≡ high → word_of_bytes low high ≡ Some word
    → (image place ≡ Some (word % 256)) × (image (place + 1) ≡ Some (word / 256))
low-high image place word None high is first next answer = absurd (cc answer)
low-high image place word (Some low) None is first next answer = absurd (cc answer)
low-high image place word (Some low) (Some high) is first next answer =
    let same : low + 256 * high ≡ word = cc answer in
    let small = (is place low first).1 in
    let one : low ≡ word % 256 = omega (arith, same, small) in
    let two : high ≡ word / 256 = omega (arith, same, small) in
    (first ∙ ap (λ (n : ℕ). Some n) one, next ∙ ap (λ (n : ℕ). Some n) two)

words-at : (image : ℕ → Option ℕ) (place : ℕ) (words : List ℕ) → IsImage image
    → WordsAt image place words → AreAt image place (flat_map word_bytes words)
unfolding WordsAt
words-at image place [] is at k below = absurd (omega arith)
words-at image place (word ∷ words) is at zero below =
    let here : place ≡ place + 0 = omega arith in
    ap image (sym here)
    ∙ (low-high image place word (image place) (image (place + 1)) is refl refl at.0).0
words-at image place (word ∷ words) is at (suc zero) below =
    (low-high image place word (image place) (image (place + 1)) is refl refl at.0).1
words-at image place (word ∷ words) is at (suc (suc k)) below =
    let there : place + 2 + k ≡ place + suc (suc k) = omega arith in
    ap image (sym there) ∙ words-at image (place + 2) words is at.1 k (omega arith)

record HasBytes (image : ℕ → Option ℕ) (place : ℕ) (item : Item) : Type 0 where
  pub count : length (item_bytes item) ≡ item_size item
  pub at : AreAt image place (item_bytes item)

byte-bytes : (image : ℕ → Option ℕ) (place byte : ℕ) → image place ≡ Some byte
    → AreAt image place (byte ∷ [])
byte-bytes image place byte answer zero below =
    let here : place ≡ place + 0 = omega arith in ap image (sym here) ∙ answer
byte-bytes image place byte answer (suc k) below = absurd (omega arith)

item-bytes : HeadsAreSpelled → WordsAreWritten → (image : ℕ → Option ℕ) (place : ℕ)
    (item : Item) → IsImage image → item_at image place ≡ Some item → HasBytes image place item
unfolding WordsAt
item-bytes law writes image place item is stands =
    item-holds law (HasBytes image place) image place (record {
      byte = λ byte answer. record { count = refl; at = byte-bytes image place byte answer };
      word = λ word answer.
          record { count = refl; at = words-at image place (word ∷ []) is (answer, tt) };
      instr = λ word first second head is_listed. record {
        count = length-word_bytes (words_of (completion head first second));
        at = subst (λ (words : List ℕ). AreAt image place (flat_map word_bytes words))
            (sym (writes word first second head (is_listed.legal, is_listed.spelled)).1)
            (words-at image place (word ∷ take (extension_count head) (first ∷ second ∷ [])) is
            is_listed.words);
      };
    }) is item stands

-- a plain source is read as itself

plain-none : (size : Size) (word : ℕ) (constant : Option Gen) → is_none constant ≡ true
    → nat_le word (all_ones size) ≡ true
    → immediate size constant (pos word) ≡ Ok (source.Immediate word)
plain-none size word (Some constant) none fits = absurd (false≢true none)
plain-none sizes.Byte word None none fits = rw fits refl
plain-none sizes.Word word None none fits = rw fits refl

plain-source : (size : Size) (source : Source) → is_plain_source size source ≡ true
    → source_again size source ≡ Ok source
plain-source size (source.Immediate word) is =
    let parts =
    and_parts (is_none (constant_of size (pos word))) (nat_le word (all_ones size)) is in
    plain-none size word (constant_of size (pos word)) parts.0 parts.1
plain-source size source is = refl

plain-instr : (place : ℕ) (instr : Instr) → is_plain_instr place instr ≡ true
    → instr_again place instr ≡ Ok instr
plain-instr place (instrs.Two op size source dest) is = rw (plain-source size source is) refl
plain-instr place (instrs.One op size source) is = rw (plain-source size source is) refl
plain-instr place instrs.Reti is = refl
plain-instr place (instrs.Jump condition offset) is = rw is refl

plain-bytes : (place : ℕ) (item : Item) → is_plain place item ≡ true
    → bytes_again place item ≡ Ok (item_bytes item)
plain-bytes place (items.Byte byte) is = refl
plain-bytes place (items.Word word) is = refl
plain-bytes place (items.Instruction instr) is = rw (plain-instr place instr is) refl

same-bytes : HeadsAreSpelled → WordsAreWritten → (image : ℕ → Option ℕ) (place : ℕ)
    (item : Item) → IsImage image → item_at image place ≡ Some item → is_plain place item ≡ true
    → AreSameBytes image place item
same-bytes law writes image place item is stands plain =
    let has = item-bytes law writes image place item is stands in record {
      bytes = item_bytes item;
      again = plain-bytes place item plain;
      count = has.count;
      at = has.at;
    }

-- an immediate that is read as a constant takes a word less, and one that does not fit is a fault

-- an instruction with a source has so many words behind the source's
abbrev IsSized : (Source → Instr) → ℕ → Type 0
IsSized make count =
    (source : Source) → length (words_of (make source)) ≡ 1 + length (source_words source) + count

abbrev made_bytes : (Source → Instr) → Result Source FaultKind → Result (List ℕ) FaultKind
made_bytes make outcome = do
  from ← outcome
  Ok (flat_map word_bytes (words_of (make from)))

constant-shorter : (make : Source → Instr) (bytes : List ℕ) (word count : ℕ) (constant : Gen)
    → IsSized make count
    → made_bytes make (Ok (source.Constant constant)) ≡ Ok bytes
    → length bytes ≡ 2 * length (words_of (make (source.Immediate word))) → ⊥
constant-shorter make bytes word count constant is_sized again long =
    let same : flat_map word_bytes (words_of (make (source.Constant constant))) ≡ bytes =
    cc again in
    omega (
      arith,
      ap length same,
      length-word_bytes (words_of (make (source.Constant constant))),
      is_sized (source.Constant constant),
      is_sized (source.Immediate word),
      long,
    )

word-fits : (make : Source → Instr) (size : Size) (word : ℕ) (bytes : List ℕ) (within : Bool)
    → nat_le word (all_ones size) ≡ within
    → made_bytes make (immediate size None (pos word)) ≡ Ok bytes → within ≡ true
word-fits make size word bytes true is again = refl
word-fits make sizes.Byte word bytes false is again =
    absurd (cc (ap (λ (test : Bool). made_bytes make ((if test then Ok word else Err Range)
    >>= (λ answer. Ok (source.Immediate answer)))) (sym is) ∙ again))
word-fits make sizes.Word word bytes false is again =
    absurd (cc (ap (λ (test : Bool). made_bytes make ((if test then Ok word else Err Range)
    >>= (λ answer. Ok (source.Immediate answer)))) (sym is) ∙ again))

immediate-plain : (make : Source → Instr) (size : Size) (word count : ℕ) (bytes : List ℕ)
    (constant : Option Gen)
    → IsSized make count
    → made_bytes make (immediate size constant (pos word)) ≡ Ok bytes
    → length bytes ≡ 2 * length (words_of (make (source.Immediate word)))
    → (is_none constant && nat_le word (all_ones size)) ≡ true
immediate-plain make size word count bytes None is_sized again long =
    word-fits make size word bytes (nat_le word (all_ones size)) refl again
immediate-plain make size word count bytes (Some constant) is_sized again long =
    absurd (constant-shorter make bytes word count constant is_sized again long)

source-plain : (make : Source → Instr) (size : Size) (source : Source) (count : ℕ)
    (bytes : List ℕ)
    → IsSized make count
    → made_bytes make (source_again size source) ≡ Ok bytes
    → length bytes ≡ 2 * length (words_of (make source)) → is_plain_source size source ≡ true
source-plain make size (source.Immediate word) count bytes is_sized again long =
    immediate-plain make size word count bytes (constant_of size (pos word)) is_sized again long
source-plain make size source count bytes is_sized again long = refl

jump-plain : (place : ℕ) (condition : Cond) (offset : ℤ) (bytes : List ℕ) (within : Bool)
    → stays_within place offset ≡ within
    → bytes_again place (items.Instruction (instrs.Jump condition offset)) ≡ Ok bytes
    → within ≡ true
jump-plain place condition offset bytes true is again = refl
jump-plain place condition offset bytes false is again =
    absurd (cc (ap (λ (test : Bool). (if test then Ok (instrs.Jump condition offset) else Err Range)
    >>= (λ answer. Ok (flat_map word_bytes (words_of answer)))) (sym is) ∙ again))

two-sized : (op : Op2) (size : Size) (dest : Dest) (source : Source)
    → length (words_of (instrs.Two op size source dest))
    ≡ 1 + length (source_words source) + length (dest_words dest)
two-sized op size dest source =
    omega (arith, length-append (source_words source) (dest_words dest))

one-sized : (op : OneOp) (size : Size) (source : Source)
    → length (words_of (instrs.One op size source)) ≡ 1 + length (source_words source) + 0
one-sized op size source = omega arith

two-made : (op : Op2) (size : Size) (dest : Dest) (outcome : Result Source FaultKind)
    → made_bytes (λ from. instrs.Two op size from dest) outcome
    ≡ ((outcome >>= (λ from. Ok (instrs.Two op size from dest)))
    >>= (λ answer. Ok (flat_map word_bytes (words_of answer))))
two-made op size dest (Ok from) = refl
two-made op size dest (Err kind) = refl

one-made : (op : OneOp) (size : Size) (outcome : Result Source FaultKind)
    → made_bytes (λ from. instrs.One op size from) outcome
    ≡ ((outcome >>= (λ from. Ok (instrs.One op size from)))
    >>= (λ answer. Ok (flat_map word_bytes (words_of answer))))
one-made op size (Ok from) = refl
one-made op size (Err kind) = refl

again-plain : (image : ℕ → Option ℕ) (place : ℕ) (item : Item) → AreSameBytes image place item
    → is_plain place item ≡ true
again-plain image place (items.Instruction (instrs.Two op size source dest)) same =
    source-plain (λ from. instrs.Two op size from dest) size source (length (dest_words dest))
    same.bytes (two-sized op size dest)
    (two-made op size dest (source_again size source) ∙ same.again) same.count
again-plain image place (items.Instruction (instrs.One op size source)) same =
    source-plain (λ from. instrs.One op size from) size source 0 same.bytes (one-sized op size)
    (one-made op size (source_again size source) ∙ same.again) same.count
again-plain image place (items.Instruction (instrs.Jump condition offset)) same =
    jump-plain place condition offset same.bytes (stays_within place offset) refl same.again
again-plain image place item same = refl

same_bytes-plain : HeadsAreSpelled → WordsAreWritten → (image : ℕ → Option ℕ) (place : ℕ)
    (item : Item) → IsImage image → item_at image place ≡ Some item
    → AreSameBytes image place item ↔ IsTrue (is_plain place item)
same_bytes-plain law writes image place item is stands = (
  again-plain image place item,
  same-bytes law writes image place item is stands,
)

pub returns : goal.returns
returns c = same_bytes-plain c.heads_are_spelled.ensures c.words_are_written.ensures
