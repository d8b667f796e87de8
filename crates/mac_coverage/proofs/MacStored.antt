-- The words that a call wrote to the MAC stand in memory.
use Rattle.std.{proofs.{Common.{◌≡◌, ℕ, zero, suc, ◌+◌, ◌*◌, ◌/◌, ◌%◌, ◌<◌, ◌≤◌, true, false, List, [], ◌∷◌, inl, inr, Some, length, refl, ap, sym, ◌∙◌, arith}, lemmas.Bool.{cases_eq, cases_lt, cond-true, cond-false, eq-eqb, ne_eqb, Decides.nat_tests}}, specs.Prelude.{◌==◌, slice_index, if◌then◌else◌}}
use Rattle.word_arith.specs.declared.size.Size.TheVariants.{Word}
use Rattle.part_definitions.specs.{BusAccess.write_at, Attestation.word_of_bytes, Memory.{MemoryWrite, PowerOn, ShownFlags, byte_at, bytes_from, first_byte, is_flag_word, last_written, takes_write, with_access, with_bytes}}
use Rattle.mac_coverage.proofs.Words.{AreBytes}

-- the first words of these bytes stand there, so many
abbrev pub MacStands : (ℕ → ℕ) → List ℕ → ℕ → Type 0
MacStands bytes tag count = (i : ℕ) → i < 2 * count → bytes (0x200 + i) ≡ slice_index tag i

off_flags : (i : ℕ) → i < 32 → is_flag_word (0x200 + i) ≡ false
off_flags i within = grind (arith, nat_tests)

takes : (i : ℕ) → i < 32 → takes_write (0x200 + i) ≡ true
takes i within = grind (arith, nat_tests)

-- in memories that are equal where no flag shows
pub mac-alike : (left right : ℕ → ℕ) (tag : List ℕ) (count : ℕ) → count ≤ 16
    → ((p : ℕ) → is_flag_word p ≡ false → left p ≡ right p)
    → MacStands right tag count → MacStands left tag count
mac-alike left right tag count few alike stands i within =
    alike (0x200 + i) (off_flags i (omega (arith, few, within))) ∙ stands i within

-- a byte after a word was written to the MAC
written_word-last : (j number place before : ℕ) (writes : List MemoryWrite)
    → last_written (with_access (Some (write_at Word (0x200 + 2 * j) number)) writes) place before
    ≡ (if 0x200 + 2 * j + 1 == place then number / 256 % 256
    else if 0x200 + 2 * j == place then number % 256
    else last_written writes place before)
written_word-last j number place before writes =
    let same : (0x200 + 2 * j) / 2 * 2 / 2 * 2 ≡ 0x200 + 2 * j = omega arith in
    ap (λ (at : ℕ). last_written (with_bytes Word at number writes) place before) same

-- the byte of a number at a place of the MAC, where a word begins at place 2 * j
byte_put : (j i number before : ℕ) (writes : List MemoryWrite) (tag : List ℕ)
    → AreBytes tag → number ≡ word_of_bytes tag j
    → i < 2 * (j + 1)
    → (i < 2 * j → last_written writes (0x200 + i) before ≡ slice_index tag i)
    → last_written (with_access (Some (write_at Word (0x200 + 2 * j) number)) writes)
    (0x200 + i) before ≡ slice_index tag i
byte_put j i number before writes tag small is within earlier =
    written_word-last j number (0x200 + i) before writes
    ∙ elim (cases_eq i (2 * j + 1)) [
      | inl high ↦
          cond-true (0x200 + 2 * j + 1 == 0x200 + i) _ _
          (eq-eqb (0x200 + 2 * j + 1) (0x200 + i) (omega (arith, high)))
          ∙ (ap (λ (n : ℕ). n / 256 % 256) is
          ∙ (high_part (slice_index tag (2 * j)) (slice_index tag (2 * j + 1)) (small (2 * j))
          (small (2 * j + 1))
          ∙ ap (slice_index tag) (sym high)))
      | inr other ↦
          cond-false (0x200 + 2 * j + 1 == 0x200 + i) _ _
          (ne_eqb (0x200 + 2 * j + 1) (0x200 + i)
          (λ same. other (omega (arith, same))))
          ∙ elim (cases_eq i (2 * j)) [
            | inl low ↦
                cond-true (0x200 + 2 * j == 0x200 + i) _ _
                (eq-eqb (0x200 + 2 * j) (0x200 + i) (omega (arith, low)))
                ∙ (ap (λ (n : ℕ). n % 256) is
                ∙ (low_part (slice_index tag (2 * j)) (slice_index tag (2 * j + 1)) (small (2 * j))
                ∙ ap (slice_index tag) (sym low)))
            | inr apart ↦
                cond-false (0x200 + 2 * j == 0x200 + i) _ _
                (ne_eqb (0x200 + 2 * j) (0x200 + i) (λ same. apart (omega (arith, same))))
                ∙ earlier (before_word i j within other apart)
          ]
    ]
  where
    low_part : (low high : ℕ) → low < 256 → (low + 256 * high) % 256 ≡ low
    low_part low high small = omega (arith, small)

    high_part : (low high : ℕ) → low < 256 → high < 256 → (low + 256 * high) / 256 % 256 ≡ high
    high_part low high small small_high = omega (arith, small, small_high)

    before_word : (i j : ℕ) → i < 2 * (j + 1) → (i ≡ 2 * j + 1 → ⊥) → (i ≡ 2 * j → ⊥) → i < 2 * j
    before_word i j within other apart =
        elim (cases_lt i (2 * j)) [
          | inl below ↦ below
          | inr above ↦
              elim (cases_lt i (2 * j + 1)) [
                | inl first ↦ absurd (apart (omega (arith, above, first)))
                | inr second ↦ absurd (other (omega (arith, within, second)))
              ]
        ]

stored_byte : (power : PowerOn) (flags : ShownFlags) (writes : List MemoryWrite) (i : ℕ) → i < 32
    → byte_at power flags writes (0x200 + i)
    ≡ last_written writes (0x200 + i) (first_byte power (0x200 + i))
stored_byte power flags writes i within = cond-true (takes_write (0x200 + i)) _ _ (takes i within)

-- one word more
pub mac-more : (power : PowerOn) (flags : ShownFlags) (writes : List MemoryWrite) (tag : List ℕ)
    (j number : ℕ)
    → j < 16 → AreBytes tag → number ≡ word_of_bytes tag j
    → MacStands (byte_at power flags writes) tag j
    → MacStands
    (byte_at power flags (with_access (Some (write_at Word (0x200 + 2 * j) number)) writes)) tag
    (j + 1)
mac-more power flags writes tag j number few small is stands i within =
    let in_mac : i < 32 = omega (arith, few, within) in
    stored_byte power flags (with_access (Some (write_at Word (0x200 + 2 * j) number)) writes) i
    in_mac
    ∙ byte_put j i number (first_byte power (0x200 + i)) writes tag small is within
    (λ earlier. sym (stored_byte power flags writes i in_mac) ∙ stands i earlier)

-- all of them
bytes_from-is : (bytes : ℕ → ℕ) (place count : ℕ) (list : List ℕ) → length list ≡ count
    → ((i : ℕ) → i < count → bytes (place + i) ≡ slice_index list i)
    → bytes_from bytes place count ≡ list
bytes_from-is bytes place zero [] size same = refl
bytes_from-is bytes place zero (byte ∷ list) size same = absurd (omega (arith, size))
bytes_from-is bytes place (suc count) [] size same = absurd (omega (arith, size))
bytes_from-is bytes place (suc count) (byte ∷ list) size same =
    let at_first : place ≡ place + 0 = omega arith in
    let first : bytes place ≡ byte = ap bytes at_first ∙ same 0 (omega arith) in
    let rest : bytes_from bytes (place + 1) count ≡ list =
    bytes_from-is bytes (place + 1) count list (omega (arith, size))
    (λ i within.
    ap bytes (let moves : place + 1 + i ≡ place + suc i = omega arith in moves)
    ∙ same (suc i) (omega (arith, within))) in
    λ j. first j ∷ rest j

pub mac-is : (bytes : ℕ → ℕ) (tag : List ℕ) → length tag ≡ 32 → MacStands bytes tag 16
    → bytes_from bytes 0x200 32 ≡ tag
mac-is bytes tag size stands =
    bytes_from-is bytes 0x200 32 tag size (λ i within. stands i (omega (arith, within)))
