-- The kept counter in memory, before and after an access of a call.
use Rattle.std.{proofs.{Common.{◌≡◌, ℕ, ◌+◌, ◌*◌, ◌/◌, ◌%◌, ◌<◌, ◌≤◌, true, false, List, [], ◌∷◌, ◌++◌, take, drop, length, Option, Some, refl, ap, sym, ◌∙◌, arith}, lemmas.Bool.{cond-true, cond-false, le-ltb, lt-ltb, ne_eqb, Decides.nat_tests}}, specs.Prelude.{nat_lt, slice_index}}
use Rattle.word_arith.specs.declared.size.Size.TheVariants.{Word}
use Rattle.device_types.specs.declared.access.Access.{Access}
use Rattle.part_definitions.specs.{BusAccess.write_at, Attestation.word_of_bytes, Memory.{MemoryWrite, PowerOn, ShownFlags, byte_at, first_byte, is_flag_word, takes_write, with_access}, Metadata.kept_bytes}
use Rattle.trace_facts.proofs.BoundsStay.{MissesPlace, last_written-missed}
use Rattle.mac_coverage.{specs.Coverage.kept_within, proofs.WordPlan.IsCounter}

-- in memories that are equal at its four places
pub kept-same : (left right : ℕ → ℕ)
    → ((i : ℕ) → i < 4 → left (0x4060 + i) ≡ right (0x4060 + i))
    → kept_bytes left ≡ kept_bytes right
kept-same left right same =
    let first : left 0x4060 ≡ right 0x4060 = same 0 (omega arith) in
    let second : left 0x4061 ≡ right 0x4061 = same 1 (omega arith) in
    let third : left 0x4062 ≡ right 0x4062 = same 2 (omega arith) in
    let fourth : left 0x4063 ≡ right 0x4063 = same 3 (omega arith) in
    λ j. first j ∷ second j ∷ third j ∷ fourth j ∷ []

off_flags : (i : ℕ) → i < 4 → is_flag_word (0x4060 + i) ≡ false
off_flags i within = grind (arith, nat_tests)

pub takes : (i : ℕ) → i < 4 → takes_write (0x4060 + i) ≡ true
takes i within = grind (arith, nat_tests)

pub kept-alike : (left right : ℕ → ℕ) → ((p : ℕ) → is_flag_word p ≡ false → left p ≡ right p)
    → kept_bytes left ≡ kept_bytes right
kept-alike left right alike =
    kept-same left right (λ i within. alike (0x4060 + i) (off_flags i within))

-- after an access that does not write there
pub kept-missed : (power : PowerOn) (flags : ShownFlags) (writes : List MemoryWrite)
    (access : Option Access)
    → ((i : ℕ) → i < 4 → MissesPlace access (0x4060 + i))
    → kept_bytes (byte_at power flags (with_access access writes))
    ≡ kept_bytes (byte_at power flags writes)
kept-missed power flags writes access misses =
    kept-same (byte_at power flags (with_access access writes)) (byte_at power flags writes)
    (λ i within.
    cond-true (takes_write (0x4060 + i)) _ _ (takes i within)
    ∙ (last_written-missed access writes (0x4060 + i) (first_byte power (0x4060 + i))
    (misses i within)
    ∙ sym (cond-true (takes_write (0x4060 + i)) _ _ (takes i within))))

-- as that of a word of the digests on the stack, and of one of the MAC
pub word-misses : (place number i : ℕ) → i < 4
    → (place / 2 * 2 / 2 * 2 ≡ 0x4060 + i → ⊥) → (place / 2 * 2 / 2 * 2 + 1 ≡ 0x4060 + i → ⊥)
    → MissesPlace (Some (write_at Word place number)) (0x4060 + i)
word-misses place number i within off off_next = (
  ne_eqb (place / 2 * 2 / 2 * 2) (0x4060 + i) off,
  ne_eqb (place / 2 * 2 / 2 * 2 + 1) (0x4060 + i) off_next,
)

-- four bytes
pub four : (list : List ℕ) → length list ≡ 4
    → list
    ≡ slice_index list 0 ∷ slice_index list 1 ∷ slice_index list 2 ∷ slice_index list 3 ∷ []
four [] size = absurd (omega (arith, size))
four (a ∷ []) size = absurd (omega (arith, size))
four (a ∷ b ∷ []) size = absurd (omega (arith, size))
four (a ∷ b ∷ c ∷ []) size = absurd (omega (arith, size))
four (a ∷ b ∷ c ∷ d ∷ []) size = refl
four (a ∷ b ∷ c ∷ d ∷ e ∷ list) size = absurd (omega (arith, size))

low_part : (number low high : ℕ) → number ≡ low + 256 * high → low < 256 → number % 256 ≡ low
low_part number low high is small = omega (arith, is, small)

high_part : (number low high : ℕ) → number ≡ low + 256 * high → low < 256 → high < 256
    → number / 256 % 256 ≡ high
high_part number low high is small small_high = omega (arith, is, small, small_high)

-- after the high word is written
pub high-put : (power : PowerOn) (flags : ShownFlags) (writes : List MemoryWrite) (number : ℕ)
    (kept left : List ℕ)
    → IsCounter left → number ≡ word_of_bytes left 1
    → kept_bytes (byte_at power flags writes) ≡ kept
    → kept_bytes (byte_at power flags (with_access (Some (write_at Word 0x4062 number)) writes))
    ≡ take 2 kept ++ drop 2 left
high-put power flags writes number kept left counter is before =
    let low : number % 256 ≡ slice_index left 2 =
    low_part number (slice_index left 2) (slice_index left 3) is (counter.bytes 2) in
    let high : number / 256 % 256 ≡ slice_index left 3 =
    high_part number (slice_index left 2) (slice_index left 3) is (counter.bytes 2)
    (counter.bytes 3) in
    let front = ap (take 2) before in
    let back : number % 256 ∷ number / 256 % 256 ∷ [] ≡ drop 2 left =
    (λ j. low j ∷ high j ∷ []) ∙ ap (drop 2) (sym (four left counter.size)) in
    λ j. front j ++ back j

-- and after the low word
pub low-put : (power : PowerOn) (flags : ShownFlags) (writes : List MemoryWrite) (number : ℕ)
    (kept left : List ℕ)
    → IsCounter kept → IsCounter left → number ≡ word_of_bytes left 0
    → kept_bytes (byte_at power flags writes) ≡ take 2 kept ++ drop 2 left
    → kept_bytes (byte_at power flags (with_access (Some (write_at Word 0x4060 number)) writes))
    ≡ left
low-put power flags writes number kept left counter counter_left is before =
    let low : number % 256 ≡ slice_index left 0 =
    low_part number (slice_index left 0) (slice_index left 1) is (counter_left.bytes 0) in
    let high : number / 256 % 256 ≡ slice_index left 1 =
    high_part number (slice_index left 0) (slice_index left 1) is (counter_left.bytes 0)
    (counter_left.bytes 1) in
    let front : number % 256 ∷ number / 256 % 256 ∷ [] ≡ take 2 left =
    (λ j. low j ∷ high j ∷ []) ∙ ap (take 2) (sym (four left counter_left.size)) in
    let back : drop 2 (take 2 kept ++ drop 2 left) ≡ drop 2 left =
    ap (λ (list : List ℕ). drop 2 (take 2 list ++ drop 2 left)) (four kept counter.size) in
    let upper = ap (drop 2) before ∙ back in
    (λ j. front j ++ upper j)
    ∙ (ap (λ (list : List ℕ). take 2 list ++ drop 2 list) (four left counter_left.size)
    ∙ sym (four left counter_left.size))

-- up to the first write, and from the second on
pub kept-early : (kept left : List ℕ) (steps : ℕ) → steps < 75 → kept_within kept left steps ≡ kept
kept-early kept left steps early =
    cond-true (nat_lt steps 75) kept _ (lt-ltb steps 75 early)

pub kept-late : (kept left : List ℕ) (steps : ℕ) → 76 ≤ steps → kept_within kept left steps ≡ left
kept-late kept left steps late =
    cond-false (nat_lt steps 75) kept _ (le-ltb steps 75 (omega (arith, late)))
    ∙ cond-false (nat_lt steps 76) _ left (le-ltb steps 76 late)
