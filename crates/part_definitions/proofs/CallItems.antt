-- The access of a call after so many words, by cases of that number.
use Rattle.std.{proofs.{Common.{◌≡◌, ℕ, zero, suc, ◌+◌, ◌-◌, ◌≤◌, Bool, true, false, List, [], ◌∷◌, ◌++◌, get_or, inl, inr, append_assoc, refl, ap, sym, ◌∙◌, arith}, lemmas.{Bool.{cases_lt, cond-true, cond-false, lt-ltb, le-ltb, Decides.nat_tests}, List.{get_or_append_left, get_or-append_right, FromFn.{get_or-map-range_with_len, length-map-range_with_len}}}}, specs.Prelude.{◌==◌, nat_lt, if◌then◌else◌}}
use Rattle.device_types.specs.Map.{ROM_ENTRY}
use Rattle.part_definitions.specs.{Attestation.{CallItem, KeyRead, MetadataRead, KeptRead, KeptWrite, DecisionWrite, DerivedKeyWrite, RegionRead, InnerDigestWrite, MacWrite, ReturnRead, series, attestation_items, call_item, call_items, item_pc}, Request.ATTESTS}

-- the item after so many words, in a call that reads so many of the region and has this decision
abbrev pub item_after : ℕ → ℕ → ℕ → CallItem
item_after region decision count = get_or (call_items region decision) count ReturnRead

-- and by cases of the number: up to the decision
abbrev pub item_until_decision : ℕ → CallItem
item_until_decision count =
    if nat_lt count 32 then KeyRead count
    else if nat_lt count 72 then MetadataRead (count - 32)
    else if nat_lt count 74 then KeptRead (count - 72)
    else if nat_lt count 76 then KeptWrite (75 - count)
    else DecisionWrite

-- behind it
abbrev pub item_of_attestation : ℕ → ℕ → CallItem
item_of_attestation region count =
    if nat_lt count 93 then DerivedKeyWrite (count - 77)
    else if nat_lt count (93 + region) then RegionRead (count - 93)
    else if nat_lt count (109 + region) then InnerDigestWrite (count - (93 + region))
    else if nat_lt count (125 + region) then MacWrite (count - (109 + region))
    else ReturnRead

-- and in all
abbrev pub item_at : ℕ → ℕ → ℕ → CallItem
item_at region decision count =
    if nat_lt count 77 then item_until_decision count
    else if decision == ATTESTS then item_of_attestation region count
    else ReturnRead

-- items of one sort from one number to another, and then the others
series-then : (item : ℕ → CallItem) (size : ℕ) (rest : List CallItem) (first limit count : ℕ)
    (other : CallItem)
    → first + size ≡ limit
    → first ≤ count
    → (limit ≤ count → get_or rest (count - limit) ReturnRead ≡ other)
    → get_or (series item size ++ rest) (count - first) ReturnRead
    ≡ (if nat_lt count limit then item (count - first) else other)
series-then item size rest first limit count other ends from behind =
    elim (cases_lt count limit) [
      | inl below ↦
          get_or_append_left (series item size) rest ReturnRead (count - first)
          (omega (arith, below, from, ends, length-map-range_with_len item 0 size))
          ∙ get_or-map-range_with_len item 0 size (count - first) (count - first) ReturnRead
          (omega (arith, below, from, ends)) (omega arith)
          ∙ sym (cond-true (nat_lt count limit) _ other (lt-ltb count limit below))
      | inr past ↦
          get_or-append_right (series item size) rest size (count - first) ReturnRead
          (length-map-range_with_len item 0 size) (omega (arith, past, ends))
          ∙ ap (λ (i : ℕ). get_or rest i ReturnRead) (omega (arith, past, ends))
          ∙ behind past
          ∙ sym (cond-false (nat_lt count limit) _ other (le-ltb count limit past))
    ]

-- the two writes of the kept counter, and the decision
writes-then : (rest : List CallItem) (count : ℕ) (other : CallItem)
    → 74 ≤ count
    → (77 ≤ count → get_or rest (count - 77) ReturnRead ≡ other)
    → get_or (KeptWrite 1 ∷ KeptWrite 0 ∷ DecisionWrite ∷ rest) (count - 74) ReturnRead
    ≡ (if nat_lt count 76 then KeptWrite (75 - count)
    else if nat_lt count 77 then DecisionWrite
    else other)
writes-then rest count other from behind =
    at_write (count - 74) (omega arith)
  where
    at_write : (i : ℕ) → 74 + i ≡ count
        → get_or (KeptWrite 1 ∷ KeptWrite 0 ∷ DecisionWrite ∷ rest) i ReturnRead
        ≡ (if nat_lt count 76 then KeptWrite (75 - count)
        else if nat_lt count 77 then DecisionWrite
        else other)
    at_write zero is = grind (arith, nat_tests)
    at_write (suc zero) is = grind (arith, nat_tests)
    at_write (suc (suc zero)) is = grind (arith, nat_tests)
    at_write (suc (suc (suc i))) is =
        ap (λ (j : ℕ). get_or rest j ReturnRead) (omega arith)
        ∙ behind (omega arith)
        ∙ grind (arith, nat_tests)

attestation-then : (region count : ℕ)
    → 77 ≤ count
    → get_or (attestation_items region) (count - 77) ReturnRead
    ≡ item_of_attestation region count
attestation-then region count from =
    series-then DerivedKeyWrite 16
    (series RegionRead region ++ series InnerDigestWrite 16 ++ series MacWrite 16) 77 93 count _
    refl from
    (λ from_region.
    ap (λ (items : List CallItem). get_or items (count - 93) ReturnRead)
    (append_assoc (series RegionRead region) (series InnerDigestWrite 16) (series MacWrite 16))
    ∙ series-then RegionRead region (series InnerDigestWrite 16 ++ series MacWrite 16) 93
    (93 + region) count _ refl from_region
    (λ from_inner.
    series-then InnerDigestWrite 16 (series MacWrite 16) (93 + region) (109 + region) count _
    (omega arith) from_inner
    (λ from_mac.
    series-then MacWrite 16 [] (109 + region) (125 + region) count ReturnRead (omega arith) from_mac
    (λ from_return. refl))))

decided-then : (region decision count : ℕ)
    → 77 ≤ count
    → get_or (if decision == ATTESTS then attestation_items region else []) (count - 77) ReturnRead
    ≡ (if decision == ATTESTS then item_of_attestation region count else ReturnRead)
decided-then region decision count from =
    by_test (decision == ATTESTS)
  where
    by_test : (attests : Bool)
        → get_or (if attests then attestation_items region else []) (count - 77) ReturnRead
        ≡ (if attests then item_of_attestation region count else ReturnRead)
    by_test true = attestation-then region count from
    by_test false = refl

in_turn : (region decision count : ℕ)
    → item_after region decision (count - 0)
    ≡ (if nat_lt count 32 then KeyRead (count - 0)
    else if nat_lt count 72 then MetadataRead (count - 32)
    else if nat_lt count 74 then KeptRead (count - 72)
    else if nat_lt count 76 then KeptWrite (75 - count)
    else if nat_lt count 77 then DecisionWrite
    else if decision == ATTESTS then item_of_attestation region count
    else ReturnRead)
unfolding call_items
in_turn region decision count =
    let decided : List CallItem = if decision == ATTESTS then attestation_items region else [] in
    let writes : List CallItem = KeptWrite 1 ∷ KeptWrite 0 ∷ DecisionWrite ∷ decided in
    series-then KeyRead 32 (series MetadataRead 40 ++ (series KeptRead 2 ++ writes)) 0 32
    count _ refl
    (omega arith)
    (λ from_metadata.
    series-then MetadataRead 40 (series KeptRead 2 ++ writes) 32 72 count _ refl from_metadata
    (λ from_kept.
    series-then KeptRead 2 writes 72 74 count _ refl from_kept
    (λ from_writes.
    writes-then decided count _ from_writes (decided-then region decision count))))

pub item_after-is : (region decision count : ℕ)
    → item_after region decision count ≡ item_at region decision count
item_after-is region decision count =
    let same : count - 0 ≡ count = omega arith in
    ap (item_after region decision) (sym same)
    ∙ (in_turn region decision count ∙ grind (arith, nat_tests))

-- a call begins at the entry of the ROM
pub first_pc : item_pc (call_item []) ≡ ROM_ENTRY
unfolding call_items
first_pc = refl
