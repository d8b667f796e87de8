-- What is attested in a memory, its sizes and its words.
use Rattle.std.{proofs.{Common.{◌≡◌, ℕ, zero, suc, ◌+◌, ◌-◌, ◌*◌, ◌/◌, ◌%◌, ◌<◌, ◌≤◌, Bool, true, false, List, [], ◌∷◌, ◌++◌, length, inl, inr, refl, ap, sym, ◌∙◌, arith}, lemmas.{Bool.{cases_lt, cond-true, cond-false, lt-ltb, le-ltb}, List.{length-append, get_or_append_left, get_or-append_right}}}, specs.Prelude.{slice_index, nat_lt, if◌then◌else◌}}
use Rattle.device_types.{specs.{declared.bounds.Bounds.Bounds, Bounds.are_valid, Map.metadata_region}, proofs.ValidRange.{AreValidRanges, IsValidRange, are_valid-ranges}}
use Rattle.part_definitions.{specs.{Attestation.{executable_words, region_place, region_words, word_of_bytes, words_between}, Metadata.bounds_in, Region.{bounded_bytes, bytes_between, output_bytes}}, proofs.BytesFrom.length-bytes_from}
use Rattle.mac_coverage.{specs.AttestedBytes.attested_bytes_in, proofs.{WordPlan.{IsAttested, attested_bounds}, ValidPlaces.{IsFreePlace, range-free}, Words.{AreBytes, bytes_from-are, word-bytes_from}}}

-- how many bytes and words there are from one word to another
range-size : (first last : ℕ) → IsValidRange metadata_region first last
    → last + 2 - first ≡ 2 * words_between first last
range-size first last range =
    let first_even = range.first_even in
    let last_even = range.last_even in
    let in_order = range.ordered in
    even_distance first last first_even last_even in_order
  where
    even_distance : (first last : ℕ) → first % 2 ≡ 0 → last % 2 ≡ 0 → first ≤ last
        → last + 2 - first ≡ 2 * ((last - first) / 2 + 1)
    even_distance first last first_even last_even in_order =
        omega (arith, first_even, last_even, in_order)

append-are : (left right : List ℕ) → AreBytes left → AreBytes right → AreBytes (left ++ right)
append-are [] right small small_right i = small_right i
append-are (byte ∷ left) right small small_right zero = small 0
append-are (byte ∷ left) right small small_right (suc i) =
    append-are left right (λ j. small (suc j)) small_right i

-- the word at an even place of a memory
pub record IsWordAt (bytes : ℕ → ℕ) (word place : ℕ) : Type 0 where
  pub is : word ≡ bytes place + 256 * bytes (place + 1)
  pub even : place % 2 ≡ 0
  pub above : 0x200 ≤ place

range-word : (bytes : ℕ → ℕ) (first last i : ℕ) → IsValidRange metadata_region first last
    → i < words_between first last
    → IsWordAt bytes (word_of_bytes (bytes_between bytes first last) i) (first + 2 * i)
range-word bytes first last i range within =
    let size : last + 2 - first ≡ 2 * words_between first last = range-size first last range in
    let first_even = range.first_even in
    let free : IsFreePlace (first + 2 * i) =
    range-free first last (first + 2 * i) range (omega arith) (omega (arith, size, within)) in
    record {
      is = word-bytes_from bytes first (last + 2 - first) i (omega (arith, size, within));
      even = omega (arith, first_even);
      above = free.above;
    }

-- of the two regions, one after the other
left_word : (left right : List ℕ) (i : ℕ) → 2 * i + 1 < length left
    → word_of_bytes (left ++ right) i ≡ word_of_bytes left i
left_word left right i within =
    let low = get_or_append_left left right 0 (2 * i) (omega (arith, within)) in
    let high = get_or_append_left left right 0 (2 * i + 1) within in
    λ j. low j + 256 * high j

right_word : (left right : List ℕ) (n i : ℕ) → length left ≡ 2 * n → n ≤ i
    → word_of_bytes (left ++ right) i ≡ word_of_bytes right (i - n)
right_word left right n i size past =
    let low_place : 2 * i - 2 * n ≡ 2 * (i - n) = omega (arith, past) in
    let high_place : 2 * i + 1 - 2 * n ≡ 2 * (i - n) + 1 = omega (arith, past) in
    let low = get_or-append_right left right (2 * n) (2 * i) 0 size (omega (arith, past))
    ∙ ap (slice_index right) low_place in
    let high = get_or-append_right left right (2 * n) (2 * i + 1) 0 size (omega (arith, past))
    ∙ ap (slice_index right) high_place in
    λ j. low j + 256 * high j

both-word : (bytes : ℕ → ℕ) (bounds : Bounds) (i : ℕ) → AreValidRanges metadata_region bounds
    → i < executable_words bounds + words_between bounds.or_min bounds.or_max
    → IsWordAt bytes
    (word_of_bytes (bytes_between bytes bounds.er_min bounds.er_max
    ++ output_bytes bytes bounds) i)
    (region_place bounds i)
both-word bytes bounds i ranges within =
    let code : List ℕ = bytes_between bytes bounds.er_min bounds.er_max in
    let output : List ℕ = output_bytes bytes bounds in
    let size : length code ≡ 2 * executable_words bounds =
    length-bytes_from bytes bounds.er_min (bounds.er_max + 2 - bounds.er_min)
    ∙ range-size bounds.er_min bounds.er_max ranges.executable in
    elim (cases_lt i (executable_words bounds)) [
      | inl early ↦
          let at = range-word bytes bounds.er_min bounds.er_max i ranges.executable early in
          let place : region_place bounds i ≡ bounds.er_min + 2 * i =
          cond-true (nat_lt i (executable_words bounds)) (bounds.er_min + 2 * i) _
          (lt-ltb i (executable_words bounds) early) in
          moves bytes _ _ _ _ (left_word code output i (omega (arith, size, early))) place at
      | inr past ↦
          let at = range-word bytes bounds.or_min bounds.or_max (i - executable_words bounds)
          ranges.output (omega (arith, past, within)) in
          let place : region_place bounds i
          ≡ bounds.or_min + 2 * (i - executable_words bounds) =
          cond-false (nat_lt i (executable_words bounds)) (bounds.er_min + 2 * i) _
          (le-ltb i (executable_words bounds) past) in
          let word = right_word code output (executable_words bounds) i size past in
          moves bytes _ _ _ _ word place at
    ]
  where
    moves : (bytes : ℕ → ℕ) (word other place spot : ℕ) → word ≡ other → place ≡ spot
        → IsWordAt bytes other spot → IsWordAt bytes word place
    moves bytes word other place spot same same_place at =
        let pair : (place : ℕ) → ℕ = λ p. bytes p + 256 * bytes (p + 1) in
        record {
          is = same ∙ (at.is ∙ ap pair (sym same_place));
          even = ap (λ (p : ℕ). p % 2) same_place ∙ at.even;
          above = (let above = at.above in omega (arith, above, same_place));
        }

pub rest-word : (bytes : ℕ → ℕ) (bounds : Bounds) (i : ℕ) → i < region_words bounds
    → IsWordAt bytes (word_of_bytes (bounded_bytes bytes bounds) i) (region_place bounds i)
rest-word bytes bounds i within =
    by_case (are_valid bounds) refl within
  where
    by_case : (test : Bool) → are_valid bounds ≡ test
        → i
        < (if test
        then executable_words bounds + words_between bounds.or_min bounds.or_max
        else 0)
        → IsWordAt bytes
        (word_of_bytes (if test
        then bytes_between bytes bounds.er_min bounds.er_max ++ output_bytes bytes bounds
        else []) i)
        (region_place bounds i)
    by_case true valid within =
        both-word bytes bounds i (are_valid-ranges metadata_region bounds valid) within
    by_case false invalid within = absurd (omega (arith, within))

adds : (m n : ℕ) {a b c : ℕ} → a ≡ 2 * m → b ≡ 2 * n → c ≡ a + b → c ≡ 2 * (m + n)
adds m n first second sum = omega (arith, first, second, sum)

rest-size : (bytes : ℕ → ℕ) (bounds : Bounds)
    → length (bounded_bytes bytes bounds) ≡ 2 * region_words bounds
rest-size bytes bounds = by_case (are_valid bounds) refl
  where
    by_case : (test : Bool) → are_valid bounds ≡ test
        → length (if test
        then bytes_between bytes bounds.er_min bounds.er_max ++ output_bytes bytes bounds else [])
        ≡ 2 * (if test
        then executable_words bounds + words_between bounds.or_min bounds.or_max
        else 0)
    by_case true valid =
        let ranges : AreValidRanges metadata_region bounds =
        are_valid-ranges metadata_region bounds valid in
        let code = length-bytes_from bytes bounds.er_min (bounds.er_max + 2 - bounds.er_min)
        ∙ range-size bounds.er_min bounds.er_max ranges.executable in
        let output = length-bytes_from bytes bounds.or_min (bounds.or_max + 2 - bounds.or_min)
        ∙ range-size bounds.or_min bounds.or_max ranges.output in
        let sum = length-append (bytes_between bytes bounds.er_min bounds.er_max)
        (output_bytes bytes bounds) in
        adds (executable_words bounds) (words_between bounds.or_min bounds.or_max) code output sum
    by_case false invalid = refl

rest-are : (bytes : ℕ → ℕ) (bounds : Bounds) → ((p : ℕ) → bytes p < 256)
    → AreBytes (bounded_bytes bytes bounds)
rest-are bytes bounds small = by_case (are_valid bounds)
  where
    by_case : (test : Bool) → AreBytes (if test
        then bytes_between bytes bounds.er_min bounds.er_max ++ output_bytes bytes bounds else [])
    by_case true =
        append-are (bytes_between bytes bounds.er_min bounds.er_max) (output_bytes bytes bounds)
        (bytes_from-are bytes bounds.er_min (bounds.er_max + 2 - bounds.er_min) small)
        (bytes_from-are bytes bounds.or_min (bounds.or_max + 2 - bounds.or_min) small)
    by_case false = λ i. omega arith

-- the bounds are words of the metadata
pub bounds-attested : (bytes : ℕ → ℕ) → attested_bounds (attested_bytes_in bytes) ≡ bounds_in bytes
bounds-attested bytes = refl

pub attested_bytes_in-is : (bytes : ℕ → ℕ) → ((p : ℕ) → bytes p < 256)
    → IsAttested (attested_bytes_in bytes)
attested_bytes_in-is bytes small =
    record {
      metadata_size = length-bytes_from bytes 0x240 80;
      rest_size = rest-size bytes (bounds_in bytes);
      metadata_bytes = bytes_from-are bytes 0x240 80 small;
      rest_bytes = rest-are bytes (bounds_in bytes) small;
    }
