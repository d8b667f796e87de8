-- The words of a call with the key's and those of the kept counter among them hidden.
use Rattle.std.{proofs.{Common.{◌≡◌, ℕ, zero, suc, ◌+◌, ◌<◌, ◌≤◌, Bool, true, false, List, [], ◌∷◌, ◌++◌, length, refl, ap, ◌∙◌, arith}, lemmas.Bool.Decides.nat_tests}, specs.Prelude.{◌||◌, ◌&&◌, nat_le, nat_lt, slice_index, if◌then◌else◌}}
use Rattle.part_definitions.{specs.Attestation.{KEY_WORDS, METADATA_WORDS, REQUEST_WORDS, bounds_read, region_words, decision_read, call_item}, proofs.CallItems.item_after}
use Rattle.key_isolation.proofs.Bytes.{zero_either}

-- which words are hidden
abbrev pub hides_word : ℕ → Bool
hides_word place =
    nat_lt place KEY_WORDS
    || (nat_le (KEY_WORDS + METADATA_WORDS) place && nat_lt place REQUEST_WORDS)

abbrev pub hidden_word : ℕ → ℕ → ℕ
hidden_word place word = if hides_word place then 0 else word

pub key_hidden : (place : ℕ) → place < 32 → hides_word place ≡ true
key_hidden place below = grind (arith, nat_tests)

pub kept_hidden : (place : ℕ) → 72 ≤ place → place < 74 → hides_word place ≡ true
kept_hidden place above below = grind (arith, nat_tests)

pub metadata_shown : (place : ℕ) → 32 ≤ place → place < 72 → hides_word place ≡ false
metadata_shown place above below = grind (arith, nat_tests)

pub rest_shown : (place : ℕ) → 74 ≤ place → hides_word place ≡ false
rest_shown place above = grind (arith, nat_tests)

pub zero_hidden : (place : ℕ) → hidden_word place 0 ≡ 0
zero_hidden place = zero_either (hides_word place)

-- of words that begin at a place
pub hide_from : ℕ → List ℕ → List ℕ
hide_from place [] = []
hide_from place (word ∷ words) = hidden_word place word ∷ hide_from (suc place) words

abbrev pub hide_words : List ℕ → List ℕ
hide_words words = hide_from 0 words

pub hide_words-none : hide_words [] ≡ []
unfolding hide_from
hide_words-none = refl

length-hide_from : (place : ℕ) (words : List ℕ) → length (hide_from place words) ≡ length words
unfolding hide_from
length-hide_from place [] = refl
length-hide_from place (word ∷ words) =
    ap (λ (n : ℕ). suc n) (length-hide_from (suc place) words)

pub length-hide_words : (words : List ℕ) → length (hide_words words) ≡ length words
length-hide_words words = length-hide_from 0 words

-- a word that is shown stays
shown : (test : Bool) (word : ℕ) → test ≡ false → (if test then 0 else word) ≡ word
shown true word off = absurd (cc)
shown false word off = refl

word-hide_from : (first : ℕ) (words : List ℕ) (i : ℕ)
    → hides_word (first + i) ≡ false → slice_index (hide_from first words) i ≡ slice_index words i
unfolding hide_from
word-hide_from first [] i off = refl
word-hide_from first (word ∷ words) zero off =
    let same : first ≡ first + 0 = omega arith in
    shown (hides_word first) word (ap hides_word same ∙ off)
word-hide_from first (word ∷ words) (suc i) off =
    let same : suc first + i ≡ first + suc i = omega arith in
    word-hide_from (suc first) words i (ap hides_word same ∙ off)

-- a word more
more-hide_from : (first : ℕ) (words : List ℕ) (word : ℕ)
    → hide_from first (words ++ word ∷ [])
    ≡ hide_from first words ++ hidden_word (first + length words) word ∷ []
unfolding hide_from
more-hide_from first [] word =
    let same : first ≡ first + 0 = omega arith in
    ap (λ (place : ℕ). hidden_word place word ∷ []) same
more-hide_from first (other ∷ words) word =
    let same : suc first + length words ≡ first + suc (length words) = omega arith in
    ap (λ (rest : List ℕ). hidden_word first other ∷ rest)
    (more-hide_from (suc first) words word
    ∙ ap (λ (place : ℕ). hide_from (suc first) words ++ hidden_word place word ∷ []) same)

pub hide_words-more : (words : List ℕ) (word : ℕ)
    → hide_words (words ++ word ∷ []) ≡ hide_words words ++ hidden_word (length words) word ∷ []
hide_words-more words word =
    let same : 0 + length words ≡ length words = omega arith in
    more-hide_from 0 words word
    ∙ ap (λ (place : ℕ). hide_words words ++ hidden_word place word ∷ []) same

-- so bounds, decision and item of a call stay
pub bounds_read-hide : (words : List ℕ) → bounds_read (hide_words words) ≡ bounds_read words
bounds_read-hide words =
    λ i. record {
      er_min = word-hide_from 0 words 48 refl i;
      er_max = word-hide_from 0 words 49 refl i;
      or_min = word-hide_from 0 words 50 refl i;
      or_max = word-hide_from 0 words 51 refl i;
    }

pub decision_read-hide : (words : List ℕ) → decision_read (hide_words words) ≡ decision_read words
decision_read-hide words = word-hide_from 0 words 76 refl

pub call_item-hide : (words : List ℕ) → call_item (hide_words words) ≡ call_item words
call_item-hide words =
    λ i. item_after (region_words (bounds_read-hide words i)) (decision_read-hide words i)
    (length-hide_words words i)
