-- The words that pass in a call, as what is attested and the kept counter determine them.
use Rattle.std.{proofs.{Common.{◌≡◌, ℕ, ◌+◌, ◌-◌, ◌*◌, ◌<◌, ◌≤◌, Bool, true, false, List, [], ◌∷◌, ◌++◌, take, drop, length, inl, inr, refl, ap, sym, ◌∙◌, arith}, lemmas.{Bool.cases_lt, List.{length-drop, length-take-le, get_or-take, get_or-drop, get_or_append_left, get_or_past, get_or_push, length_push, FromFn.map-range_with_len_more}}}, specs.{Prelude.{◌==◌, map, slice_index, if◌then◌else◌}, List.range_with_len}}
use Rattle.device_types.specs.declared.bounds.Bounds.{Bounds}
use Rattle.part_definitions.{specs.{Attestation.{CallItem, KeyRead, MetadataRead, KeptRead, KeptWrite, DecisionWrite, DerivedKeyWrite, RegionRead, InnerDigestWrite, MacWrite, ReturnRead, attestation_tag, bounds_read, bytes_of_words, call_item, counter_word, decision_in, decision_read, kept_read, key_read, metadata_read, region_read, region_words, tag_in, word_of_bytes}, Metadata.counter_in, Request.{ATTESTS, request_decision}}, proofs.CallItems.item_after}
use Rattle.mac_coverage.{specs.AttestedBytes.{AttestedBytes, counter_left, decision_of, tag_of}, proofs.{CallItems.{decision_item, item_after-early, kept_item, key_item, metadata_item, region_item}, Device.Device, Words.{AreBytes, bytes_of_words-read}}}

-- the bounds in the metadata, and how many words of the region they name
abbrev pub attested_bounds : AttestedBytes → Bounds
attested_bounds contents =
    record {
      er_min = word_of_bytes contents.metadata 16;
      er_max = word_of_bytes contents.metadata 17;
      or_min = word_of_bytes contents.metadata 18;
      or_max = word_of_bytes contents.metadata 19;
    }

abbrev pub attested_words : AttestedBytes → ℕ
attested_words contents = region_words (attested_bounds contents)

-- what determines the words of a call: the device, what is attested, and the counter kept before
pub record Plan : Type 0 where
  pub device : Device
  pub contents : AttestedBytes
  pub kept : List ℕ

abbrev pub planned_region : Plan → ℕ
planned_region plan = attested_words plan.contents

abbrev pub planned_decision : Plan → ℕ
planned_decision plan = decision_of plan.device.digest plan.device.key plan.contents plan.kept

abbrev pub planned_counter : Plan → List ℕ
planned_counter plan = counter_left plan.device.digest plan.device.key plan.contents plan.kept

abbrev pub planned_tag : Plan → List ℕ
planned_tag plan = tag_of plan.device.digest plan.device.key plan.contents

-- the word that passes with an item, and after so many words
abbrev pub planned_item : Plan → CallItem → ℕ
planned_item plan (KeyRead i) = word_of_bytes plan.device.key i
planned_item plan (MetadataRead i) = word_of_bytes plan.contents.metadata i
planned_item plan (KeptRead i) = word_of_bytes plan.kept i
planned_item plan (KeptWrite i) = 0
planned_item plan DecisionWrite = planned_decision plan
planned_item plan (DerivedKeyWrite i) = 0
planned_item plan (RegionRead i) = word_of_bytes plan.contents.rest i
planned_item plan (InnerDigestWrite i) = 0
planned_item plan (MacWrite i) = word_of_bytes (planned_tag plan) i
planned_item plan ReturnRead = 0

abbrev pub planned_word : Plan → ℕ → ℕ
planned_word plan i =
    planned_item plan (item_after (planned_region plan) (planned_decision plan) i)

abbrev pub ArePlanned : Plan → List ℕ → Type 0
ArePlanned plan words =
    (i : ℕ) → i < length words → slice_index words i ≡ planned_word plan i

-- the words of the MAC, so many
abbrev pub first_mac_words : Plan → ℕ → List ℕ
first_mac_words plan count = map (word_of_bytes (planned_tag plan)) (range_with_len 0 count)

-- one word more
pub planned-more : (plan : Plan) (words : List ℕ) (word : ℕ)
    → ArePlanned plan words → word ≡ planned_word plan (length words)
    → ArePlanned plan (words ++ word ∷ [])
planned-more plan words word by_plan is i within =
    elim (cases_lt i (length words)) [
      | inl earlier ↦
          get_or_append_left words (word ∷ []) 0 i earlier ∙ by_plan i earlier
      | inr last ↦
          let fits : i < length words + 1 =
          (let size = length_push words word in omega (arith, size, within)) in
          let same : length words ≡ i = omega (arith, fits, last) in
          get_or_push words word 0 i same ∙ (is ∙ ap (planned_word plan) same)
    ]

-- what is attested: its sizes, and that it is of bytes
pub record IsAttested (contents : AttestedBytes) : Type 0 where
  pub metadata_size : length contents.metadata ≡ 80
  pub rest_size : length contents.rest ≡ 2 * attested_words contents
  pub metadata_bytes : AreBytes contents.metadata
  pub rest_bytes : AreBytes contents.rest

-- four bytes of a counter
pub record IsCounter (counter : List ℕ) : Type 0 where
  pub size : length counter ≡ 4
  pub bytes : AreBytes counter

-- a word that passed is the one of its item
planned_at : (plan : Plan) (words : List ℕ) (i : ℕ) (item : CallItem)
    → ArePlanned plan words → i < length words
    → item_after (planned_region plan) (planned_decision plan) i ≡ item
    → slice_index words i ≡ planned_item plan item
planned_at plan words i item by_plan within is = by_plan i within ∙ ap (planned_item plan) is

-- the bounds that a call has read, and the decision that it has written
pub bounds_read-planned : (plan : Plan) (words : List ℕ)
    → ArePlanned plan words → 77 ≤ length words
    → bounds_read words ≡ attested_bounds plan.contents
bounds_read-planned plan words by_plan past =
    let word : (i : ℕ) → i < 40
    → slice_index words (32 + i) ≡ word_of_bytes plan.contents.metadata i =
    λ i within.
    planned_at plan words (32 + i) (MetadataRead i) by_plan (omega (arith, within, past))
    (metadata_item (planned_region plan) (planned_decision plan) i within) in
    λ j. record {
      er_min = word 16 (omega arith) j;
      er_max = word 17 (omega arith) j;
      or_min = word 18 (omega arith) j;
      or_max = word 19 (omega arith) j;
    }

pub decision_read-planned : (plan : Plan) (words : List ℕ)
    → ArePlanned plan words → 77 ≤ length words → decision_read words ≡ planned_decision plan
decision_read-planned plan words by_plan past =
    planned_at plan words 76 DecisionWrite by_plan (omega (arith, past))
    (decision_item (planned_region plan) (planned_decision plan))

-- so its next access is the planned one
pub call_item-planned : (plan : Plan) (words : List ℕ) → ArePlanned plan words
    → call_item words ≡ item_after (planned_region plan) (planned_decision plan) (length words)
call_item-planned plan words by_plan =
    elim (cases_lt (length words) 77) [
      | inl early ↦
          item_after-early (region_words (bounds_read words)) (planned_region plan)
          (decision_read words) (planned_decision plan) (length words) early
      | inr past ↦
          let bounds = bounds_read-planned plan words by_plan past in
          let decision = decision_read-planned plan words by_plan past in
          λ j. item_after (region_words (bounds j)) (decision j) (length words)
    ]

-- what a call makes of the words when all reads are done
words_read : (words bytes : List ℕ) (first count : ℕ)
    → first + count ≤ length words → length bytes ≡ 2 * count → AreBytes bytes
    → ((i : ℕ) → i < count → slice_index words (first + i) ≡ word_of_bytes bytes i)
    → bytes_of_words (take count (drop first words)) ≡ bytes
words_read words bytes first count within size small answer =
    let rest : length (drop first words) ≡ length words - first = length-drop first words in
    let takes : length (take count (drop first words)) ≡ count =
    length-take-le count (drop first words) (omega (arith, rest, within)) in
    bytes_of_words-read (take count (drop first words)) bytes
    (size ∙ ap (λ (n : ℕ). 2 * n) (sym takes)) small
    (λ i inside.
    let below : i < count = omega (arith, inside, takes) in
    get_or-take count (drop first words) i 0 below
    ∙ (get_or-drop first words i 0 ∙ answer i below))

pub key_read-planned : (plan : Plan) (words : List ℕ)
    → ArePlanned plan words → 74 ≤ length words → key_read words ≡ plan.device.key
key_read-planned plan words by_plan past =
    words_read words plan.device.key 0 32 (omega (arith, past)) plan.device.key_size
    plan.device.key_bytes
    (λ i within.
    let number : 0 + i ≡ i = omega arith in
    ap (slice_index words) number
    ∙ planned_at plan words i (KeyRead i) by_plan (omega (arith, past, within))
    (key_item (planned_region plan) (planned_decision plan) i within))

pub metadata_read-planned : (plan : Plan) (words : List ℕ)
    → ArePlanned plan words → IsAttested plan.contents → 74 ≤ length words
    → metadata_read words ≡ plan.contents.metadata
metadata_read-planned plan words by_plan is past =
    words_read words plan.contents.metadata 32 40 (omega (arith, past)) is.metadata_size
    is.metadata_bytes
    (λ i within.
    planned_at plan words (32 + i) (MetadataRead i) by_plan (omega (arith, past, within))
    (metadata_item (planned_region plan) (planned_decision plan) i within))

pub kept_read-planned : (plan : Plan) (words : List ℕ)
    → ArePlanned plan words → IsCounter plan.kept → 74 ≤ length words
    → kept_read words ≡ plan.kept
kept_read-planned plan words by_plan counter past =
    words_read words plan.kept 72 2 (omega (arith, past)) counter.size counter.bytes
    (λ i within.
    planned_at plan words (72 + i) (KeptRead i) by_plan (omega (arith, past, within))
    (kept_item (planned_region plan) (planned_decision plan) i within))

-- so its decision
pub decision_in-planned : (plan : Plan) (words : List ℕ)
    → ArePlanned plan words → IsAttested plan.contents → IsCounter plan.kept → 74 ≤ length words
    → decision_in plan.device.digest words ≡ planned_decision plan
decision_in-planned plan words by_plan is counter past =
    let key_same = key_read-planned plan words by_plan past in
    let metadata_same = metadata_read-planned plan words by_plan is past in
    let kept_same = kept_read-planned plan words by_plan counter past in
    λ j. request_decision plan.device.digest (key_same j) (metadata_same j) (kept_same j)

-- and the counter that it leaves
request_word : (metadata : List ℕ) (i : ℕ) → i < 2
    → word_of_bytes metadata (22 + i) ≡ word_of_bytes (counter_in metadata) i
request_word metadata i within =
    let low = byte (2 * i) (omega (arith, within)) in
    let high = byte (2 * i + 1) (omega (arith, within)) in
    let at_low : 2 * (22 + i) ≡ 44 + 2 * i = omega arith in
    let at_high : 2 * (22 + i) + 1 ≡ 44 + (2 * i + 1) = omega arith in
    (λ j. slice_index metadata (at_low j) + 256 * slice_index metadata (at_high j))
    ∙ (λ j. low j + 256 * high j)
  where
    byte : (k : ℕ) → k < 4 → slice_index metadata (44 + k) ≡ slice_index (counter_in metadata) k
    byte k within = sym (get_or-take 4 (drop 44 metadata) k 0 within ∙ get_or-drop 44 metadata k 0)

pub counter_word-planned : (plan : Plan) (words : List ℕ) (i : ℕ)
    → ArePlanned plan words → IsAttested plan.contents → IsCounter plan.kept → 74 ≤ length words
    → i < 2
    → counter_word words (decision_in plan.device.digest words) i
    ≡ word_of_bytes (planned_counter plan) i
counter_word-planned plan words i by_plan is counter past within =
    let decision = decision_in-planned plan words by_plan is counter past in
    let asked : slice_index words (32 + (22 + i))
    ≡ word_of_bytes (counter_in plan.contents.metadata) i =
    planned_at plan words (32 + (22 + i)) (MetadataRead (22 + i)) by_plan
    (omega (arith, past, within))
    (metadata_item (planned_region plan) (planned_decision plan) (22 + i) (omega (arith, within)))
    ∙ request_word plan.contents.metadata i within in
    let stays : slice_index words (72 + i) ≡ word_of_bytes plan.kept i =
    planned_at plan words (72 + i) (KeptRead i) by_plan (omega (arith, past, within))
    (kept_item (planned_region plan) (planned_decision plan) i within) in
    (λ j. if decision j == ATTESTS then asked j else stays j)
    ∙ choice (planned_decision plan == ATTESTS) (counter_in plan.contents.metadata) plan.kept
  where
    choice : (test : Bool) (first second : List ℕ)
        → (if test then word_of_bytes first i else word_of_bytes second i)
        ≡ word_of_bytes (if test then first else second) i
    choice true first second = refl
    choice false first second = refl

pub planned_counter-is : (plan : Plan)
    → IsAttested plan.contents → IsCounter plan.kept → IsCounter (planned_counter plan)
planned_counter-is plan is counter = by_case (planned_decision plan == ATTESTS)
  where
    by_case : (test : Bool)
        → IsCounter (if test then counter_in plan.contents.metadata else plan.kept)
    by_case true = record { size = size_left; bytes = bytes_left }
      where
        rest : length (drop 44 plan.contents.metadata) ≡ 36
        rest =
            length-drop 44 plan.contents.metadata ∙ ap (λ (n : ℕ). n - 44) is.metadata_size

        size_left : length (take 4 (drop 44 plan.contents.metadata)) ≡ 4
        size_left = length-take-le 4 (drop 44 plan.contents.metadata) (omega (arith, rest))

        bytes_left : AreBytes (take 4 (drop 44 plan.contents.metadata))
        bytes_left i =
            elim (cases_lt i 4) [
              | inl within ↦
                  (let same = get_or-take 4 (drop 44 plan.contents.metadata) i 0 within
                  ∙ get_or-drop 44 plan.contents.metadata i 0 in
                  let below = is.metadata_bytes (44 + i) in
                  omega (arith, same, below))
              | inr past ↦
                  (let none = get_or_past (take 4 (drop 44 plan.contents.metadata)) i 0
                  (omega (arith, past, size_left)) in
                  omega (arith, none))
            ]
    by_case false = counter

pub tag_in-planned : (plan : Plan) (words : List ℕ)
    → ArePlanned plan words → IsAttested plan.contents → planned_decision plan ≡ ATTESTS
    → 93 + planned_region plan ≤ length words
    → tag_in plan.device.digest words ≡ planned_tag plan
tag_in-planned plan words by_plan is attests past =
    let region : ℕ = planned_region plan in
    let key_same = key_read-planned plan words by_plan (omega (arith, past)) in
    let metadata_same = metadata_read-planned plan words by_plan is (omega (arith, past)) in
    let count : region_words (bounds_read words) ≡ region =
    ap region_words (bounds_read-planned plan words by_plan (omega (arith, past))) in
    let rest_same : region_read words ≡ plan.contents.rest =
    ap (λ (n : ℕ). bytes_of_words (take n (drop 93 words))) count
    ∙ words_read words plan.contents.rest 93 region past is.rest_size is.rest_bytes
    (λ i within.
    planned_at plan words (93 + i) (RegionRead i) by_plan (omega (arith, past, within))
    (ap (λ (d : ℕ). item_after region d (93 + i)) attests ∙ region_item region i within)) in
    λ j. attestation_tag plan.device.digest (key_same j) (metadata_same j) (rest_same j)

-- one word of the MAC more
pub first_mac_words-more : (plan : Plan) (count : ℕ)
    → first_mac_words plan (count + 1)
    ≡ first_mac_words plan count ++ word_of_bytes (planned_tag plan) count ∷ []
first_mac_words-more plan count =
    map-range_with_len_more (word_of_bytes (planned_tag plan)) 0 count count (omega arith)
