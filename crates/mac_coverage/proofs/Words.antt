-- Bytes and words as lists.
use Rattle.std.{proofs.{Common.{◌≡◌, ℕ, zero, suc, ◌+◌, ◌*◌, ◌/◌, ◌%◌, ◌<◌, ◌≤◌, List, [], ◌∷◌, take, length, inl, inr, refl, ap, sym, ◌∙◌, arith}, lemmas.{Bool.cases_lt, List.get_or_past}}, specs.Prelude.{All, slice_index}}
use Rattle.part_definitions.specs.{Attestation.{bytes_of_words, word_of_bytes}, Memory.bytes_from}

-- every number is a byte
abbrev pub AreBytes : List ℕ → Type 0
AreBytes bytes = (i : ℕ) → slice_index bytes i < 256

pub are_bytes : (list : List ℕ) → All (λ byte. byte < 256) list → AreBytes list
are_bytes list bytes i =
    elim (cases_lt i (length list)) [
      | inl within ↦ bytes i 0 within
      | inr past ↦ (let none = get_or_past list i 0 past in omega (arith, none))
    ]

-- the bytes of a memory from a place upwards
pub byte-bytes_from : (bytes : ℕ → ℕ) (place count i : ℕ) → i < count
    → slice_index (bytes_from bytes place count) i ≡ bytes (place + i)
byte-bytes_from bytes place zero i within = absurd (omega (arith, within))
byte-bytes_from bytes place (suc count) zero within =
    ap bytes (let same : place ≡ place + zero = omega arith in same)
byte-bytes_from bytes place (suc count) (suc i) within =
    byte-bytes_from bytes (place + 1) count i (omega (arith, within))
    ∙ ap bytes (let same : place + 1 + i ≡ place + suc i = omega arith in same)

pub bytes_from-are : (bytes : ℕ → ℕ) (place count : ℕ) → ((p : ℕ) → bytes p < 256)
    → AreBytes (bytes_from bytes place count)
bytes_from-are bytes place zero small i = omega arith
bytes_from-are bytes place (suc count) small zero = small place
bytes_from-are bytes place (suc count) small (suc i) =
    bytes_from-are bytes (place + 1) count small i

pub bytes_from-same : (left right : ℕ → ℕ) (place count : ℕ)
    → ((i : ℕ) → i < count → left (place + i) ≡ right (place + i))
    → bytes_from left place count ≡ bytes_from right place count
bytes_from-same left right place zero same = refl
bytes_from-same left right place (suc count) same =
    let at_first : place + 0 ≡ place = omega arith in
    let first : left place ≡ right place =
    ap left (sym at_first) ∙ (same 0 (omega arith) ∙ ap right at_first) in
    let rest : bytes_from left (place + 1) count ≡ bytes_from right (place + 1) count =
    bytes_from-same left right (place + 1) count
    (λ i within.
    let moves : place + 1 + i ≡ place + suc i = omega arith in
    ap left moves ∙ (same (suc i) (omega (arith, within)) ∙ ap right (sym moves))) in
    λ j. first j ∷ rest j

pub take-bytes_from : (bytes : ℕ → ℕ) (place few count : ℕ) → few ≤ count
    → take few (bytes_from bytes place count) ≡ bytes_from bytes place few
take-bytes_from bytes place zero count within = refl
take-bytes_from bytes place (suc few) zero within = absurd (omega (arith, within))
take-bytes_from bytes place (suc few) (suc count) within =
    ap (λ (rest : List ℕ). bytes place ∷ rest)
    (take-bytes_from bytes (place + 1) few count (omega (arith, within)))

-- a word of them
pub word-bytes_from : (bytes : ℕ → ℕ) (place count i : ℕ) → 2 * i + 1 < count
    → word_of_bytes (bytes_from bytes place count) i
    ≡ bytes (place + 2 * i) + 256 * bytes (place + 2 * i + 1)
word-bytes_from bytes place count i within =
    let low : slice_index (bytes_from bytes place count) (2 * i) ≡ bytes (place + 2 * i) =
    byte-bytes_from bytes place count (2 * i) (omega (arith, within)) in
    let moves : place + (2 * i + 1) ≡ place + 2 * i + 1 = omega arith in
    let high : slice_index (bytes_from bytes place count) (2 * i + 1) ≡ bytes (place + 2 * i + 1) =
    byte-bytes_from bytes place count (2 * i + 1) within ∙ ap bytes moves in
    λ j. low j + 256 * high j

-- words that were read of bytes give the bytes
low_byte : (low high : ℕ) → low < 256 → (low + 256 * high) % 256 ≡ low
low_byte low high small = omega (arith, small)

high_byte : (low high : ℕ) → low < 256 → (low + 256 * high) / 256 ≡ high
high_byte low high small = omega (arith, small)

pub bytes_of_words-read : (words bytes : List ℕ)
    → length bytes ≡ 2 * length words → AreBytes bytes
    → ((i : ℕ) → i < length words → slice_index words i ≡ word_of_bytes bytes i)
    → bytes_of_words words ≡ bytes
bytes_of_words-read [] [] even small answer = refl
bytes_of_words-read [] (low ∷ bytes) even small answer = absurd (omega (arith, even))
bytes_of_words-read (word ∷ words) [] even small answer = absurd (omega (arith, even))
bytes_of_words-read (word ∷ words) (low ∷ []) even small answer = absurd (omega (arith, even))
bytes_of_words-read (word ∷ words) (low ∷ high ∷ bytes) even small answer =
    let first : word ≡ low + 256 * high = answer 0 (omega arith) in
    let is_low : word % 256 ≡ low =
    ap (λ (w : ℕ). w % 256) first ∙ low_byte low high (small 0) in
    let is_high : word / 256 ≡ high =
    ap (λ (w : ℕ). w / 256) first ∙ high_byte low high (small 0) in
    let rest : bytes_of_words words ≡ bytes =
    bytes_of_words-read words bytes (omega (arith, even)) (λ i. small (suc (suc i)))
    (λ i within. answer (suc i) (omega (arith, within)) ∙ moves low high bytes i) in
    λ j. is_low j ∷ is_high j ∷ rest j
  where
    moves : (low high : ℕ) (bytes : List ℕ) (i : ℕ)
        → word_of_bytes (low ∷ high ∷ bytes) (suc i) ≡ word_of_bytes bytes i
    moves low high bytes i =
        let at_low : 2 * suc i ≡ suc (suc (2 * i)) = omega arith in
        let at_high : 2 * suc i + 1 ≡ suc (suc (2 * i + 1)) = omega arith in
        let low_same : slice_index (low ∷ high ∷ bytes) (2 * suc i) ≡ slice_index bytes (2 * i) =
        ap (slice_index (low ∷ high ∷ bytes)) at_low in
        let high_same : slice_index (low ∷ high ∷ bytes) (2 * suc i + 1)
        ≡ slice_index bytes (2 * i + 1) =
        ap (slice_index (low ∷ high ∷ bytes)) at_high in
        λ j. low_same j + 256 * high_same j
