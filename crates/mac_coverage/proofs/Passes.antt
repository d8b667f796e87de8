-- The word that passes in a step of a call is the planned one.
use Rattle.std.{proofs.{Common.{◌≡◌, ℕ, zero, suc, ◌+◌, ◌-◌, ◌*◌, ◌/◌, ◌<◌, ◌≤◌, true, false, List, [], ◌∷◌, ◌++◌, length, Some, inl, inr, refl, ap, sym, subst, ◌∙◌, arith}, lemmas.{Bool.{cases_lt, cond-true, cond-false, le-ltb, lt-ltb, Decides.nat_tests}, List.append_assoc}}, specs.Prelude.{nat_lt, if◌then◌else◌}}
use Rattle.word_arith.specs.declared.size.Size.TheVariants.{Word}
use Rattle.device_types.specs.{declared.{access.Access.Access, bounds.Bounds.Bounds}, Map.{lies_in, mac_region}}
use Rattle.part_definitions.specs.{BusAccess.{read_at, write_at}, Attestation.{CallItem, KeyRead, MetadataRead, KeptRead, KeptWrite, DecisionWrite, DerivedKeyWrite, RegionRead, InnerDigestWrite, MacWrite, ReturnRead, bounds_read, is_return, item_access, region_place, word_of_bytes, written_word, word_passed}, Memory.{MemoryWrite, PowerOn, ShownFlags, byte_at, with_access}, Metadata.{bounds_in, kept_bytes}, Region.bounded_bytes}
use Rattle.device_trace.specs.{Logs.{Logs, logged_byte, with_released_word}, Signals.value_read}
use Rattle.mac_coverage.{specs.{AttestedBytes.{AttestedBytes, attested_bytes_in}, Coverage.kept_within}, proofs.{AttestedIs.{IsWordAt, bounds-attested, rest-word}, Device.{start_of, key_word-read, word-read}, KeptStored.{high-put, kept-early, kept-late, kept-missed, low-put, word-misses}, MacStored.{MacStands, mac-more}, WordPlan.{ArePlanned, IsAttested, IsCounter, Plan, attested_bounds, attested_words, bounds_read-planned, counter_word-planned, decision_in-planned, first_mac_words, first_mac_words-more, planned_counter, planned_counter-is, planned_decision, planned_item, planned_region, planned_tag, tag_in-planned}, Words.{AreBytes, word-bytes_from}}}
use Rattle.trace_facts.proofs.{CallPlaces.{mac_place, IsItemAt}, BoundsStay.MissesPlace}

-- how many words of the MAC are written when so many words passed
abbrev pub mac_count : Plan → ℕ → ℕ
mac_count plan index = index - (109 + planned_region plan)

-- the decision, when it is written
abbrev pub decision_words : Plan → ℕ → List ℕ
decision_words plan index = if nat_lt index 77 then [] else planned_decision plan ∷ []

-- the words that a call has written to the MAC when so many words passed
abbrev pub words_written : Plan → ℕ → List ℕ
words_written plan index =
    decision_words plan index ++ first_mac_words plan (mac_count plan index)

-- the kept counter then
abbrev pub kept_at : Plan → ℕ → List ℕ
kept_at plan index = kept_within plan.kept (planned_counter plan) index

-- an access with the value that it read: its word is the item's, the words of the MAC go on, and
-- the kept counter too
pub record Passes (plan : Plan) (index : ℕ) (item : CallItem) (access : Access)
    (value : ℕ) : Type 0 where
  pub word : word_passed (Some access) value ≡ planned_item plan item
  pub released : (prefix : List ℕ)
      → prefix ≡ words_written plan index
      → with_released_word (Some access) prefix ≡ words_written plan (index + 1)
  pub stored : (power : PowerOn) (flags : ShownFlags) (writes : List MemoryWrite)
      → AreBytes (planned_tag plan)
      → MacStands (byte_at power flags writes) (planned_tag plan) (mac_count plan index)
      → MacStands (byte_at power flags (with_access (Some access) writes))
      (planned_tag plan) (mac_count plan (index + 1))
  pub counter : (power : PowerOn) (flags : ShownFlags) (writes : List MemoryWrite)
      → kept_bytes (byte_at power flags writes) ≡ kept_at plan index
      → kept_bytes (byte_at power flags (with_access (Some access) writes))
      ≡ kept_at plan (index + 1)

-- where each item writes
stack_word : (i : ℕ) → i < 16 → lies_in mac_region ((0x4000 + 2 * i) / 2 * 2) ≡ false
stack_word i within = grind (arith, nat_tests)

inner_word : (i : ℕ) → i < 16 → lies_in mac_region ((0x4020 + 2 * i) / 2 * 2) ≡ false
inner_word i within = grind (arith, nat_tests)

kept_word : (i : ℕ) → i < 2 → lies_in mac_region ((0x4060 + 2 * i) / 2 * 2) ≡ false
kept_word i within = grind (arith, nat_tests)

-- which items do not write to the MAC, nor to the kept counter
abbrev IsQuiet : Plan → ℕ → Type 0
IsQuiet plan index = (index < 109 + planned_region plan) × (index ≡ 76 → ⊥)

abbrev IsOffKept : ℕ → Type 0
IsOffKept index = (index ≡ 74 → ⊥) × (index ≡ 75 → ⊥)

no_decision_yet : (plan : Plan) (index : ℕ) → (index ≡ 76 → ⊥)
    → decision_words plan index ≡ decision_words plan (index + 1)
no_decision_yet plan index other =
    let written : List ℕ = planned_decision plan ∷ [] in
    elim (cases_lt index 76) [
      | inl early ↦
          cond-true (nat_lt index 77) [] written (lt-ltb index 77 (omega (arith, early)))
          ∙ sym (cond-true (nat_lt (index + 1) 77) [] written
          (lt-ltb (index + 1) 77 (omega (arith, early))))
      | inr past ↦
          let later : 77 ≤ index = beyond index past other in
          cond-false (nat_lt index 77) [] written (le-ltb index 77 later)
          ∙ sym (cond-false (nat_lt (index + 1) 77) [] written
          (le-ltb (index + 1) 77 (omega (arith, later))))
    ]
  where
    beyond : (index : ℕ) → 76 ≤ index → (index ≡ 76 → ⊥) → 77 ≤ index
    beyond index past other =
        elim (cases_lt index 77) [
          | inl below ↦ absurd (other (omega (arith, past, below)))
          | inr above ↦ above
        ]

no_word_yet : (plan : Plan) (index : ℕ) → IsQuiet plan index
    → words_written plan index ≡ words_written plan (index + 1)
no_word_yet plan index quiet =
    let early = quiet.0 in
    let none : mac_count plan index ≡ mac_count plan (index + 1) = omega (arith, early) in
    let decision = no_decision_yet plan index quiet.1 in
    λ j. decision j ++ first_mac_words plan (none j)

no_byte_yet : (plan : Plan) (index i : ℕ) → index < 109 + planned_region plan
    → i < 2 * mac_count plan (index + 1) → ⊥
no_byte_yet plan index i early within = omega (arith, early, within)

kept_stays : (plan : Plan) (index : ℕ) → IsOffKept index
    → kept_at plan index ≡ kept_at plan (index + 1)
kept_stays plan index off =
    let left : List ℕ = planned_counter plan in
    elim (cases_lt index 74) [
      | inl early ↦
          kept-early plan.kept left index (omega (arith, early))
          ∙ sym (kept-early plan.kept left (index + 1) (omega (arith, early)))
      | inr past ↦
          let later : 76 ≤ index = beyond index past off.0 off.1 in
          kept-late plan.kept left index later
          ∙ sym (kept-late plan.kept left (index + 1) (omega (arith, later)))
    ]
  where
    beyond : (index : ℕ) → 74 ≤ index → (index ≡ 74 → ⊥) → (index ≡ 75 → ⊥) → 76 ≤ index
    beyond index past first second =
        elim (cases_lt index 75) [
          | inl below ↦ absurd (first (omega (arith, past, below)))
          | inr above ↦
              elim (cases_lt index 76) [
                | inl next ↦ absurd (second (omega (arith, above, next)))
                | inr later ↦ later
              ]
        ]

missed-kept : (plan : Plan) (index : ℕ) (access : Access)
    → IsOffKept index → ((i : ℕ) → i < 4 → MissesPlace (Some access) (0x4060 + i))
    → (power : PowerOn) (flags : ShownFlags) (writes : List MemoryWrite)
    → kept_bytes (byte_at power flags writes) ≡ kept_at plan index
    → kept_bytes (byte_at power flags (with_access (Some access) writes)) ≡ kept_at plan (index + 1)
missed-kept plan index access off misses power flags writes before =
    kept-missed power flags writes (Some access) misses
    ∙ (before ∙ kept_stays plan index off)

read-passes : (plan : Plan) (logs : Logs) (index place : ℕ) (item : CallItem)
    → IsQuiet plan index → IsOffKept index
    → value_read (start_of plan.device) logs (Some (read_at Word place)) ≡ planned_item plan item
    → Passes plan index item (read_at Word place)
    (value_read (start_of plan.device) logs (Some (read_at Word place)))
read-passes plan logs index place item quiet off is =
    record {
      word = is;
      released = λ prefix so_far. so_far ∙ no_word_yet plan index quiet;
      stored = λ power flags writes small stands i within.
          absurd (no_byte_yet plan index i quiet.0 within);
      counter =
          missed-kept plan index (read_at Word place) off (λ i within. tt);
    }

stack_write-passes : (plan : Plan) (index place number value : ℕ) (item : CallItem)
    → IsQuiet plan index
    → lies_in mac_region (place / 2 * 2) ≡ false
    → planned_item plan item ≡ 0
    → ((power : PowerOn) (flags : ShownFlags) (writes : List MemoryWrite)
    → kept_bytes (byte_at power flags writes) ≡ kept_at plan index
    → kept_bytes (byte_at power flags (with_access (Some (write_at Word place number)) writes))
    ≡ kept_at plan (index + 1))
    → Passes plan index item (write_at Word place number) value
stack_write-passes plan index place number value item quiet off none counts =
    record {
      word = cond-false (lies_in mac_region (place / 2 * 2)) number 0 off ∙ sym none;
      released = λ prefix so_far.
          cond-false (lies_in mac_region (place / 2 * 2)) (prefix ++ number ∷ []) prefix off
          ∙ (so_far ∙ no_word_yet plan index quiet);
      stored = λ power flags writes small stands i within.
          absurd (no_byte_yet plan index i quiet.0 within);
      counter = counts;
    }

-- the two words of the kept counter
kept_write-counts : (plan : Plan) (index number i : ℕ)
    → index + i ≡ 75 → i < 2
    → IsCounter plan.kept → IsCounter (planned_counter plan)
    → number ≡ word_of_bytes (planned_counter plan) i
    → (power : PowerOn) (flags : ShownFlags) (writes : List MemoryWrite)
    → kept_bytes (byte_at power flags writes) ≡ kept_at plan index
    → kept_bytes
    (byte_at power flags (with_access (Some (write_at Word (0x4060 + 2 * i) number)) writes))
    ≡ kept_at plan (index + 1)
kept_write-counts plan index number zero at below counter left is power flags writes before =
    let here : index ≡ 75 = omega (arith, at) in
    let now : kept_bytes (byte_at power flags writes) ≡ kept_at plan 75 =
    before ∙ ap (kept_at plan) here in
    low-put power flags writes number plan.kept (planned_counter plan) counter left is now
    ∙ ap (λ (n : ℕ). kept_at plan (n + 1)) (sym here)
kept_write-counts plan index number (suc zero) at below counter left is
    power flags writes before =
    let here : index ≡ 74 = omega (arith, at) in
    let now : kept_bytes (byte_at power flags writes) ≡ kept_at plan 74 =
    before ∙ ap (kept_at plan) here in
    high-put power flags writes number plan.kept (planned_counter plan) left is now
    ∙ ap (λ (n : ℕ). kept_at plan (n + 1)) (sym here)
kept_write-counts plan index number (suc (suc i)) at below counter left is
    power flags writes before = absurd (omega (arith, below))

-- the decision
decision_write-passes : (plan : Plan) (index number value : ℕ)
    → index ≡ 76 → number ≡ planned_decision plan
    → Passes plan index DecisionWrite (write_at Word 0x200 number) value
decision_write-passes plan index number value at is =
    let none : mac_count plan index ≡ 0 = omega (arith, at) in
    let none_after : mac_count plan (index + 1) ≡ 0 = omega (arith, at) in
    let before : words_written plan index ≡ [] =
    (λ j. decision_words plan (at j) ++ first_mac_words plan (none j)) in
    let after : words_written plan (index + 1) ≡ planned_decision plan ∷ [] =
    (λ j. decision_words plan (at j + 1) ++ first_mac_words plan (none_after j)) in
    record {
      word = is;
      released = λ prefix so_far.
          (λ j. (so_far ∙ before) j ++ is j ∷ []) ∙ sym after;
      stored = λ power flags writes small stands i within.
          absurd (omega (arith, within, none_after));
      counter =
          missed-kept plan index (write_at Word 0x200 number)
          (λ wrong. omega (arith, at, wrong), λ wrong. omega (arith, at, wrong))
          (λ i within. word-misses 0x200 number i within (λ wrong. omega (arith, wrong))
          (λ wrong. omega (arith, wrong)));
    }

mac_write-passes : (plan : Plan) (index number value i : ℕ)
    → 109 + planned_region plan + i ≡ index
    → i < 16
    → number ≡ word_of_bytes (planned_tag plan) i
    → Passes plan index (MacWrite i) (write_at Word (0x200 + 2 * i) number) value
mac_write-passes plan index number value i at below is =
    let place : ℕ = (0x200 + 2 * i) / 2 * 2 in
    let inside : lies_in mac_region place ≡ true = mac_place i below in
    let count : mac_count plan index ≡ i = omega (arith, at) in
    let more : i + 1 ≡ mac_count plan (index + 1) = omega (arith, at) in
    let decision : decision_words plan index ≡ decision_words plan (index + 1) =
    no_decision_yet plan index (λ wrong. omega (arith, at, wrong)) in
    record {
      word = cond-true (lies_in mac_region place) number 0 inside ∙ is;
      released = λ prefix so_far.
          cond-true (lies_in mac_region place) (prefix ++ number ∷ []) prefix inside
          ∙ one_more (decision_words plan index) (decision_words plan (index + 1)) prefix
          (mac_count plan index) (mac_count plan (index + 1)) so_far decision count more;
      stored = λ power flags writes small stands.
          let before : MacStands (byte_at power flags writes) (planned_tag plan) i =
          subst (MacStands (byte_at power flags writes) (planned_tag plan)) count stands
          in
          subst
          (MacStands
          (byte_at power flags (with_access (Some (write_at Word (0x200 + 2 * i) number)) writes))
          (planned_tag plan)) more
          (mac-more power flags writes (planned_tag plan) i number below small is before);
      counter =
          missed-kept plan index (write_at Word (0x200 + 2 * i) number)
          (λ wrong. omega (arith, at, wrong), λ wrong. omega (arith, at, wrong))
          (λ k within. word-misses (0x200 + 2 * i) number k within
          (λ wrong. omega (arith, wrong, below)) (λ wrong. omega (arith, wrong, below)));
    }
  where
    one_more : (first second prefix : List ℕ) (n m : ℕ)
        → prefix ≡ first ++ first_mac_words plan n
        → first ≡ second → n ≡ i → i + 1 ≡ m
        → prefix ++ number ∷ [] ≡ second ++ first_mac_words plan m
    one_more first second prefix n m so_far same at_count at_more =
        (λ j. so_far j ++ is j ∷ [])
        ∙ ((λ j. (same j ++ first_mac_words plan (at_count j))
        ++ word_of_bytes (planned_tag plan) i ∷ [])
        ∙ (append_assoc second (first_mac_words plan i)
        (word_of_bytes (planned_tag plan) i ∷ [])
        ∙ (ap (λ (words : List ℕ). second ++ words)
        (sym (first_mac_words-more plan i))
        ∙ ap (λ (k : ℕ). second ++ first_mac_words plan k) at_more)))

-- a word of the metadata, one of the kept counter and one of the region, of what stands in memory
metadata-read : (plan : Plan) (logs : Logs) (i : ℕ) → i < 40
    → attested_bytes_in (logged_byte (start_of plan.device) logs) ≡ plan.contents
    → value_read (start_of plan.device) logs (Some (read_at Word (0x240 + 2 * i)))
    ≡ word_of_bytes plan.contents.metadata i
metadata-read plan logs i within stands =
    word-read (start_of plan.device) logs (0x240 + 2 * i) (omega arith) (omega arith)
    ∙ (sym (word-bytes_from (logged_byte (start_of plan.device) logs) 0x240 80 i
    (omega (arith, within)))
    ∙ ap (λ (a : AttestedBytes). word_of_bytes a.metadata i) stands)

kept-read : (plan : Plan) (logs : Logs) (i : ℕ) → i < 2
    → kept_bytes (logged_byte (start_of plan.device) logs) ≡ plan.kept
    → value_read (start_of plan.device) logs (Some (read_at Word (0x4060 + 2 * i)))
    ≡ word_of_bytes plan.kept i
kept-read plan logs i within stands =
    word-read (start_of plan.device) logs (0x4060 + 2 * i) (omega arith) (omega arith)
    ∙ (sym (word-bytes_from (logged_byte (start_of plan.device) logs) 0x4060 4 i
    (omega (arith, within)))
    ∙ ap (λ (bytes : List ℕ). word_of_bytes bytes i) stands)

region-read : (plan : Plan) (logs : Logs) (bounds : Bounds) (i : ℕ)
    → i < planned_region plan
    → attested_bytes_in (logged_byte (start_of plan.device) logs) ≡ plan.contents
    → bounds ≡ attested_bounds plan.contents
    → value_read (start_of plan.device) logs (Some (read_at Word (region_place bounds i)))
    ≡ word_of_bytes plan.contents.rest i
region-read plan logs bounds i within stands same =
    let bytes : ℕ → ℕ = logged_byte (start_of plan.device) logs in
    let in_memory : attested_bounds plan.contents ≡ bounds_in bytes =
    ap attested_bounds (sym stands) ∙ bounds-attested bytes in
    let place : region_place bounds i ≡ region_place (bounds_in bytes) i =
    ap (λ (b : Bounds). region_place b i) (same ∙ in_memory) in
    let count : planned_region plan ≡ attested_words (attested_bytes_in bytes) =
    ap attested_words (sym stands) in
    let word : IsWordAt bytes (word_of_bytes (bounded_bytes bytes (bounds_in bytes)) i)
    (region_place (bounds_in bytes) i) =
    rest-word bytes (bounds_in bytes) i (omega (arith, within, count)) in
    ap (λ (p : ℕ). value_read (start_of plan.device) logs (Some (read_at Word p))) place
    ∙ (word-read (start_of plan.device) logs (region_place (bounds_in bytes) i) word.even word.above
    ∙ (sym word.is ∙ ap (λ (a : AttestedBytes). word_of_bytes a.rest i) stands))

-- what a call knows at a step
pub record Knows (plan : Plan) (logs : Logs) (words : List ℕ) : Type 0 where
  pub planned : ArePlanned plan words
  pub is : IsAttested plan.contents
  pub kept_is : IsCounter plan.kept
  pub stands : 1 ≤ length words
      → attested_bytes_in (logged_byte (start_of plan.device) logs) ≡ plan.contents
  pub counter : length words < 75
      → kept_bytes (logged_byte (start_of plan.device) logs) ≡ plan.kept

-- of each item but the return
pub item-passes : (plan : Plan) (logs : Logs) (words : List ℕ) (sp : ℕ) (item : CallItem)
    → IsItemAt (planned_region plan) (planned_decision plan) (length words) item
    → is_return item ≡ false → Knows plan logs words
    → Passes plan (length words) item
    (item_access sp (bounds_read words) item (written_word plan.device.digest words item))
    (value_read (start_of plan.device) logs
    (Some (item_access sp (bounds_read words) item
    (written_word plan.device.digest words item))))
item-passes plan logs words sp (KeyRead i) at goes_on knows =
    read-passes plan logs (length words) (0x6A00 + 2 * i) (KeyRead i)
    (omega arith, λ wrong. omega arith) (λ wrong. omega arith, λ wrong. omega arith)
    (key_word-read plan.device logs i at.1)
item-passes plan logs words sp (MetadataRead i) at goes_on knows =
    read-passes plan logs (length words) (0x240 + 2 * i) (MetadataRead i)
    (omega arith, λ wrong. omega arith) (λ wrong. omega arith, λ wrong. omega arith)
    (metadata-read plan logs i at.1 (knows.stands (omega arith)))
item-passes plan logs words sp (KeptRead i) at goes_on knows =
    read-passes plan logs (length words) (0x4060 + 2 * i) (KeptRead i)
    (omega arith, λ wrong. omega arith) (λ wrong. omega arith, λ wrong. omega arith)
    (kept-read plan logs i at.1 (knows.counter (omega arith)))
item-passes plan logs words sp (KeptWrite i) at goes_on knows =
    stack_write-passes plan (length words) (0x4060 + 2 * i) _ _ (KeptWrite i)
    (omega arith, λ wrong. omega arith) (kept_word i at.1) refl
    (kept_write-counts plan (length words) _ i at.0 at.1 knows.kept_is
    (planned_counter-is plan knows.is knows.kept_is)
    (counter_word-planned plan words i knows.planned knows.is knows.kept_is (omega arith) at.1))
item-passes plan logs words sp DecisionWrite at goes_on knows =
    decision_write-passes plan (length words) _ _ at
    (decision_in-planned plan words knows.planned knows.is knows.kept_is (omega arith))
item-passes plan logs words sp (DerivedKeyWrite i) at goes_on knows =
    let below = at.1 in
    let number : ℕ = written_word plan.device.digest words (DerivedKeyWrite i) in
    stack_write-passes plan (length words) (0x4000 + 2 * i) number _ (DerivedKeyWrite i)
    (omega arith, λ wrong. omega arith) (stack_word i below) refl
    (missed-kept plan (length words) (write_at Word (0x4000 + 2 * i) number)
    (λ wrong. omega arith, λ wrong. omega arith)
    (λ k within. word-misses (0x4000 + 2 * i) number k within (λ wrong. omega arith)
    (λ wrong. omega arith)))
item-passes plan logs words sp (RegionRead i) at goes_on knows =
    read-passes plan logs (length words) (region_place (bounds_read words) i) (RegionRead i)
    (omega arith, λ wrong. omega arith) (λ wrong. omega arith, λ wrong. omega arith)
    (region-read plan logs (bounds_read words) i at.1 (knows.stands (omega arith))
    (bounds_read-planned plan words knows.planned (omega arith)))
item-passes plan logs words sp (InnerDigestWrite i) at goes_on knows =
    let below = at.1 in
    let number : ℕ = written_word plan.device.digest words (InnerDigestWrite i) in
    stack_write-passes plan (length words) (0x4020 + 2 * i) number _ (InnerDigestWrite i)
    (omega arith, λ wrong. omega arith) (inner_word i below) refl
    (missed-kept plan (length words) (write_at Word (0x4020 + 2 * i) number)
    (λ wrong. omega arith, λ wrong. omega arith)
    (λ k within. word-misses (0x4020 + 2 * i) number k within (λ wrong. omega arith)
    (λ wrong. omega arith)))
item-passes plan logs words sp (MacWrite i) at goes_on knows =
    mac_write-passes plan (length words) _ _ i at.0 at.1
    (ap (λ (bytes : List ℕ). word_of_bytes bytes i)
    (tag_in-planned plan words knows.planned knows.is at.2 (omega arith)))
item-passes plan logs words sp ReturnRead at goes_on knows = absurd (cc)
