-- What stands at a place of an image, read again.
use Rattle.std.{proofs.{Common.{◌≡◌, ◌∙◌, ap, sym, refl, subst, ℕ, zero, suc, ◌+◌, ◌*◌, ◌%◌, ◌<◌, arith, Bool, true, false, List, [], ◌∷◌, take, Option, Some, None}, lemmas.Bool.{and_parts, eqb-true, leb-false}}, specs.Prelude.{◌==◌, ◌&&◌, ◌||◌, not, nat_le, if◌then◌else◌, IsTrue}}
use Rattle.msp_decode.specs.{declared.{dest_form.DestForm.DestForm, head.Head.{Head, TheVariants.{Two, One, Reti, Jump}}, source_form.SourceForm.SourceForm}, Completion.{source_completion, dest_completion, source_extensions, extension_count, completion, source_form}, Law.HeadsAreSpelled, Head.head_of, Spelling.{has_form, has_size, takes_result, writes_operand, is_legal, word_of}}
use Rattle.msp_decode.specs.declared.dest_form.DestForm.TheVariants as dests
use Rattle.msp_decode.specs.declared.source_form.SourceForm.TheVariants as sources
use Rattle.mem_map.specs.ImagePlace.{IsImage}
use Rattle.msp_asm.specs.{declared.item.Item.Item, Item.{FIRST_VECTOR, word_of_bytes, word_in, with_words, instruction_item, even_item, byte_item, item_from, item_at}}
use Rattle.msp_asm.specs.declared.item.Item.TheVariants as items
use Rattle.text_round_trip.{specs.Listing.IsReadAs, proofs.{ListedInstruction.{two-again, one-again}, ListedItem.{reti-again, word-again, byte-again}, ListedJump.jump-again, ListedOperand.{FitsSource, FitsDest}}}

source-fits : (source : SourceForm) (word : ℕ) → word < 65536
    → FitsSource (source_completion source word)
source-fits (sources.Indexed register) word below = below
source-fits sources.Immediate word below = below
source-fits source word below = tt

source-same : (source : SourceForm) (word : ℕ)
    → source_form (source_completion source word) ≡ source
source-same (sources.Register register) word = refl
source-same source word = refl

dest-fits : (dest : DestForm) (word : ℕ) → word < 65536 → FitsDest (dest_completion dest word)
dest-fits (dests.Register register) word below = tt
dest-fits (dests.Indexed register) word below = below

either-below : (test : Bool) (first second : ℕ) → first < 65536 → second < 65536
    → (if test then first else second) < 65536
either-below true first second one two = one
either-below false first second one two = two

-- words stand at a place of an image, one behind the other
unfoldable pub WordsAt : (ℕ → Option ℕ) → ℕ → List ℕ → Type 0
WordsAt image place [] = Unit {0}
WordsAt image place (word ∷ words) =
    (word_in image place ≡ Some word) × WordsAt image (place + 2) words

-- a word at a place spells a head, and so many words follow as it has extension words
pub record IsListed (image : ℕ → Option ℕ) (place word first second : ℕ) (head : Head)
    : Type 0 where
  pub even : place % 2 ≡ 0
  pub below : place < 0xFFE0
  pub legal : IsTrue (is_legal head)
  pub spelled : word ≡ word_of head
  pub one : first < 65536
  pub two : second < 65536
  pub words : WordsAt image place (word ∷ take (extension_count head) (first ∷ second ∷ []))

completion-again : (image : ℕ → Option ℕ) (place word first second : ℕ) (head : Head)
    → IsListed image place word first second head
    → IsReadAs place (items.Instruction (completion head first second))
completion-again image place word first second (Two op size source dest) is =
    two-again place op size (source_completion source first)
    (dest_completion dest (if source_extensions source == 0 then first else second))
    (source-fits source first is.one)
    (dest-fits dest (if source_extensions source == 0 then first else second)
    (either-below (source_extensions source == 0) first second is.one is.two))
    (ap has_form (source-same source first) ∙ is.legal)
completion-again image place word first second (One op size source) is =
    let parts = and_parts (has_form source && has_size op size)
    (takes_result source || not (writes_operand op)) is.legal in
    let form = and_parts (has_form source) (has_size op size) parts.0 in
    one-again place op size (source_completion source first) (source-fits source first is.one)
    (ap has_form (source-same source first) ∙ form.0) form.1
    (ap (λ (answer : SourceForm). takes_result answer || not (writes_operand op))
    (source-same source first) ∙ parts.1)
completion-again image place word first second Reti is = reti-again place
completion-again image place word first second (Jump condition offset) is =
    jump-again place condition offset is.legal is.even is.below

-- a word of bytes fits
bytes-word : (low high : Option ℕ) → ((byte : ℕ) → low ≡ Some byte → byte < 256)
    → ((byte : ℕ) → high ≡ Some byte → byte < 256) → (word : ℕ)
    → word_of_bytes low high ≡ Some word → word < 65536
bytes-word None high one two word is = absurd (cc is)
bytes-word (Some low) None one two word is = absurd (cc is)
bytes-word (Some low) (Some high) one two word is =
    let same : low + 256 * high ≡ word = cc is in
    omega (arith, one low refl, two high refl, same)

image-word : (image : ℕ → Option ℕ) (place word : ℕ) → IsImage image
    → word_in image place ≡ Some word → word < 65536
image-word image place word is stands =
    bytes-word (image place) (image (place + 1)) (λ byte answer. (is place byte answer).1)
    (λ byte answer. (is (place + 1) byte answer).1) word stands

-- what holds of each item, by what stands there
pub record HoldsOfEach (image : ℕ → Option ℕ) (place : ℕ) (P : Item → Type 0) : Type 0 where
  pub byte : (byte : ℕ) → image place ≡ Some byte → P (items.Byte byte)
  pub word : (word : ℕ) → word_in image place ≡ Some word → P (items.Word word)
  pub instr : (word first second : ℕ) (head : Head)
      → IsListed image place word first second head
      → P (items.Instruction (completion head first second))

with_words-holds : (P : Item → Type 0) (image : ℕ → Option ℕ) (place word : ℕ) (head : Head)
    (count : ℕ) (first second : Option ℕ) → HoldsOfEach image place P → IsImage image
    → place % 2 ≡ 0 → place < 0xFFE0 → IsTrue (is_legal head) → word ≡ word_of head
    → word_in image place ≡ Some word → count ≡ extension_count head
    → word_in image (place + 2) ≡ first → word_in image (place + 4) ≡ second
    → P (with_words head count first second (items.Word word))
unfolding WordsAt
with_words-holds P image place word head zero first second each is even below legal spells
    stands count one two = each.instr word 0 0 head record {
      even = even;
      below = below;
      legal = legal;
      spelled = spells;
      one = omega arith;
      two = omega arith;
      words = (
        stands,
        subst (λ (n : ℕ). WordsAt image (place + 2) (take n (0 ∷ 0 ∷ []))) count
            tt,
      );
    }
with_words-holds P image place word head (suc zero) None second each is even below legal spells
    stands count one two = each.word word stands
with_words-holds P image place word head (suc zero) (Some a) second each is even below legal spells
    stands count one two = each.instr word a 0 head record {
      even = even;
      below = below;
      legal = legal;
      spelled = spells;
      one = image-word image (place + 2) a is one;
      two = omega arith;
      words = (
        stands,
        subst (λ (n : ℕ). WordsAt image (place + 2) (take n (a ∷ 0 ∷ []))) count
            (one, tt),
      );
    }
with_words-holds P image place word head (suc (suc zero)) None second each is even below legal
    spells stands count one two = each.word word stands
with_words-holds P image place word head (suc (suc zero)) (Some a) None each is even below legal
    spells stands count one two = each.word word stands
with_words-holds P image place word head (suc (suc zero)) (Some a) (Some b) each is even below legal
    spells stands count one two =
    let there : place + 4 ≡ place + 2 + 2 = omega arith in each.instr word a b head record {
      even = even;
      below = below;
      legal = legal;
      spelled = spells;
      one = image-word image (place + 2) a is one;
      two = image-word image (place + 4) b is two;
      words = (
        stands,
        subst (λ (n : ℕ). WordsAt image (place + 2) (take n (a ∷ b ∷ []))) count
            (one, (ap (word_in image) (sym there) ∙ two, tt)),
      );
    }
with_words-holds P image place word head (suc (suc (suc count))) first second each is even below
    legal spells stands counts one two = each.word word stands

module _ (law : HeadsAreSpelled) (P : Item → Type 0) (image : ℕ → Option ℕ) (place : ℕ)
    (each : HoldsOfEach image place P) (is : IsImage image) where
  head-holds : (word : ℕ) (answer : Option Head) → place % 2 ≡ 0 → place < 0xFFE0
      → word_in image place ≡ Some word → head_of word ≡ answer
      → P (instruction_item image place word answer)
  head-holds word None even below stands outcome = each.word word stands
  head-holds word (Some head) even below stands outcome =
      let fits = image-word image place word is stands in
      let spells = (law word head (omega arith)).0 outcome in
      with_words-holds P image place word head (extension_count head) (word_in image (place + 2))
      (word_in image (place + 4)) each is even below spells.0 spells.1 stands refl refl refl

  word_item-holds : (word : ℕ) (is_vector : Bool) → nat_le FIRST_VECTOR place ≡ is_vector
      → place % 2 ≡ 0 → word_in image place ≡ Some word
      → P (if is_vector then items.Word word
      else instruction_item image place word (head_of word))
  word_item-holds word true vector even stands = each.word word stands
  word_item-holds word false vector even stands =
      head-holds word (head_of word) even (leb-false FIRST_VECTOR place vector) stands refl

  even_item-holds : (byte : ℕ) (answer : Option ℕ) → place % 2 ≡ 0 → image place ≡ Some byte
      → word_in image place ≡ answer → P (even_item image place byte answer)
  even_item-holds byte None even outcome stands = each.byte byte outcome
  even_item-holds byte (Some word) even outcome stands =
      word_item-holds word (nat_le FIRST_VECTOR place) refl even stands

  byte_item-holds : (byte : ℕ) (is_even : Bool) → (place % 2 == 0) ≡ is_even
      → image place ≡ Some byte
      → P (if is_even then even_item image place byte (word_in image place) else items.Byte byte)
  byte_item-holds byte false even outcome = each.byte byte outcome
  byte_item-holds byte true even outcome =
      even_item-holds byte (word_in image place) (eqb-true (place % 2) 0 even) outcome refl

  found-holds : (item : Item) (answer : Option ℕ) → image place ≡ answer
      → item_from image place answer ≡ Some item → P item
  found-holds item None outcome stands = absurd (cc stands)
  found-holds item (Some byte) outcome stands =
      let same : byte_item image place byte ≡ item = cc stands in
      subst P same (byte_item-holds byte (place % 2 == 0) refl outcome)

  pub item-holds : (item : Item) → item_at image place ≡ Some item → P item
  item-holds item stands = found-holds item (image place) refl stands

pub item-again : HeadsAreSpelled → (image : ℕ → Option ℕ) (place : ℕ) (item : Item)
    → IsImage image → item_at image place ≡ Some item → IsReadAs place item
item-again law image place item is stands =
    item-holds law (IsReadAs place) image place (record {
      byte = λ byte answer. byte-again place byte (is place byte answer).1;
      word = λ word answer. word-again place word (image-word image place word is answer);
      instr = completion-again image place;
    }) is item stands
