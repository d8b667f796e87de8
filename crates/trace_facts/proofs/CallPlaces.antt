-- Where the accesses of a call lie.
use Rattle.std.{proofs.{Common.{◌≡◌, ℕ, ◌+◌, ◌-◌, ◌*◌, ◌/◌, ◌<◌, ◌≤◌, true, false, ◌⊎◌, arith, inl, inr, refl, subst, sym}, lemmas.Bool.{cond_both, ltb-true, ltb-false, eqb-true, eqb-false, Decides.nat_tests}}, specs.Prelude.{nat_lt, ◌==◌, if◌then◌else◌}}
use Rattle.word_arith.specs.declared.size.Size.TheVariants.{Word}
use Rattle.device_types.{specs.{declared.{access.Access.TheVariants.Read, bounds.Bounds.Bounds}, Bounds.are_valid, Map.{lies_in, mac_region, metadata_region}}, proofs.ValidRange.{IsValidRange, are_valid-ranges}}
use Rattle.part_definitions.{specs.{Attestation.{CallItem, KeyRead, MetadataRead, KeptRead, KeptWrite, DecisionWrite, DerivedKeyWrite, RegionRead, InnerDigestWrite, MacWrite, ReturnRead, words_between, executable_words, region_words, region_place}, Request.ATTESTS}, proofs.CallItems.{item_after, item_after-is, item_until_decision, item_of_attestation}}
use Rattle.device_trace.specs.Blank.{touches_secrets}

-- The item of a call after so many words, and its number.

-- the item and its number after so many words, where a call reads so many words of the region and
-- wrote this decision
abbrev pub IsItemAt : ℕ → ℕ → ℕ → CallItem → Type 0
IsItemAt region decision count (KeyRead i) = (i ≡ count) × (i < 32)
IsItemAt region decision count (MetadataRead i) = (32 + i ≡ count) × (i < 40)
IsItemAt region decision count (KeptRead i) = (72 + i ≡ count) × (i < 2)
IsItemAt region decision count (KeptWrite i) = (count + i ≡ 75) × (i < 2)
IsItemAt region decision count DecisionWrite = count ≡ 76
IsItemAt region decision count (DerivedKeyWrite i) =
    (77 + i ≡ count) × (i < 16) × (decision ≡ ATTESTS)
IsItemAt region decision count (RegionRead i) =
    (93 + i ≡ count) × (i < region) × (decision ≡ ATTESTS)
IsItemAt region decision count (InnerDigestWrite i) =
    (93 + region + i ≡ count) × (i < 16) × (decision ≡ ATTESTS)
IsItemAt region decision count (MacWrite i) =
    (109 + region + i ≡ count) × (i < 16) × (decision ≡ ATTESTS)
IsItemAt region decision count ReturnRead =
    (77 ≤ count) × (decision ≡ ATTESTS → 125 + region ≤ count)

-- an item below a limit, and another one from there on
by_limit : (At : CallItem → Type 0) (count limit : ℕ) (below above : CallItem)
    → (count < limit → At below)
    → (limit ≤ count → At above)
    → At (if nat_lt count limit then below else above)
by_limit At count limit below above is_below is_above =
    cond_both (nat_lt count limit) below above At
    (λ under. is_below (ltb-true count limit under))
    (λ over. is_above (ltb-false count limit over))

until_decision-at : (region decision count : ℕ) → count < 77
    → IsItemAt region decision count (item_until_decision count)
until_decision-at region decision count before =
    let At : CallItem → Type 0 = IsItemAt region decision count in
    by_limit At count 32 (KeyRead count) _ (λ key. (refl, key))
    (λ from_key.
    by_limit At count 72 (MetadataRead (count - 32)) _
    (λ below. (omega (arith, from_key), omega (arith, below)))
    (λ from_metadata.
    by_limit At count 74 (KeptRead (count - 72)) _
    (λ below. (omega (arith, from_metadata), omega (arith, below, from_metadata)))
    (λ from_kept.
    by_limit At count 76 (KeptWrite (75 - count)) DecisionWrite
    (λ below. (omega (arith, from_kept, below), omega (arith, below, from_kept)))
    (λ from_write. omega (arith, from_write, before)))))

attestation-at : (region decision count : ℕ) → 77 ≤ count → decision ≡ ATTESTS
    → IsItemAt region decision count (item_of_attestation region count)
attestation-at region decision count after attests =
    let At : CallItem → Type 0 = IsItemAt region decision count in
    by_limit At count 93 (DerivedKeyWrite (count - 77)) _
    (λ below. (omega (arith, after), omega (arith, below), attests))
    (λ from_derived.
    by_limit At count (93 + region) (RegionRead (count - 93)) _
    (λ below. (omega (arith, from_derived), omega (arith, below, from_derived), attests))
    (λ from_region.
    by_limit At count (109 + region) (InnerDigestWrite (count - (93 + region))) _
    (λ below. (omega (arith, from_region), omega (arith, below, from_region), attests))
    (λ from_inner.
    by_limit At count (125 + region) (MacWrite (count - (109 + region))) ReturnRead
    (λ below. (omega (arith, from_inner), omega (arith, below, from_inner), attests))
    (λ from_mac. (after, λ is_one. from_mac)))))

pub item_after-at : (region decision count : ℕ)
    → IsItemAt region decision count (item_after region decision count)
item_after-at region decision count =
    let At : CallItem → Type 0 = IsItemAt region decision count in
    subst At (sym (item_after-is region decision count))
    (by_limit At count 77 (item_until_decision count) _
    (until_decision-at region decision count)
    (λ after.
    cond_both (decision == ATTESTS) (item_of_attestation region count) ReturnRead At
    (λ attests.
    attestation-at region decision count after (eqb-true decision ATTESTS attests))
    (λ denies. (after, λ attests. absurd (eqb-false decision ATTESTS denies attests)))))

-- the item after so many words that passed, and its number
abbrev pub ItemFits : ℕ → ℕ → CallItem → Type 0
ItemFits region count (KeyRead i) = (i < 32) × (count < 32)
ItemFits region count (MetadataRead i) = (i < 40) × (32 ≤ count) × (count < 72)
ItemFits region count (KeptRead i) = (i < 2) × (72 ≤ count) × (count < 74)
ItemFits region count (KeptWrite i) = (i < 2) × (74 ≤ count)
ItemFits region count DecisionWrite = 74 ≤ count
ItemFits region count (DerivedKeyWrite i) = (i < 16) × (74 ≤ count)
ItemFits region count (RegionRead i) = (i < region) × (74 ≤ count)
ItemFits region count (InnerDigestWrite i) = (i < 16) × (74 ≤ count)
ItemFits region count (MacWrite i) = (i < 16) × (74 ≤ count)
ItemFits region count ReturnRead = 74 ≤ count

item-fits : (region decision count : ℕ) (item : CallItem)
    → IsItemAt region decision count item → ItemFits region count item
item-fits region decision count (KeyRead i) at = (at.1, omega (arith, at.0, at.1))
item-fits region decision count (MetadataRead i) at =
    (at.1, omega (arith, at.0), omega (arith, at.0, at.1))
item-fits region decision count (KeptRead i) at =
    (at.1, omega (arith, at.0), omega (arith, at.0, at.1))
item-fits region decision count (KeptWrite i) at = (at.1, omega (arith, at.0, at.1))
item-fits region decision count DecisionWrite at = omega (arith, at)
item-fits region decision count (DerivedKeyWrite i) at = (at.1, omega (arith, at.0))
item-fits region decision count (RegionRead i) at = (at.1, omega (arith, at.0))
item-fits region decision count (InnerDigestWrite i) at = (at.1, omega (arith, at.0))
item-fits region decision count (MacWrite i) at = (at.1, omega (arith, at.0))
item-fits region decision count ReturnRead at = omega (arith, at.0)

pub item_after-fits : (region decision count : ℕ)
    → ItemFits region count (item_after region decision count)
item_after-fits region decision count =
    item-fits region decision count (item_after region decision count)
    (item_after-at region decision count)

-- words of RAM and of the program are no secrets
open_word : (place : ℕ)
    → ((0x200 ≤ place) × (place ≤ 0x21FE)) ⊎ ((0xC000 ≤ place) × (place ≤ 0xFFDE))
    → touches_secrets (Read (place / 2 * 2) Word) ≡ false
open_word place (inl ram) = let low = ram.0 in let high = ram.1 in grind (arith, nat_tests)
open_word place (inr program) = let low = program.0 in let high =
    program.1 in grind (arith, nat_tests)

pub metadata_off : (i : ℕ) → i < 40 → touches_secrets (Read ((0x240 + 2 * i) / 2 * 2) Word) ≡ false
metadata_off i within = open_word (0x240 + 2 * i) (inl (omega arith, omega arith))

word_of_region : (first last j : ℕ) → IsValidRange metadata_region first last
    → j < words_between first last
    → touches_secrets (Read ((first + 2 * j) / 2 * 2) Word) ≡ false
word_of_region first last j range within =
    let in_order : first ≤ last = range.ordered in
    elim range.place [
      | inl ram ↦
          let low : 0x200 ≤ first = ram.0 in
          let high : last + 1 ≤ 0x21FF = ram.1 in
          open_word (first + 2 * j) (inl (omega arith, omega arith))
      | inr program ↦
          let low : 0xC000 ≤ first = program.0 in
          let high : last + 1 ≤ 0xFFDF = program.1 in
          open_word (first + 2 * j) (inr (omega arith, omega arith))
    ]

valid_place_off : (bounds : Bounds) (i : ℕ) → are_valid bounds ≡ true
    → i < executable_words bounds + words_between bounds.or_min bounds.or_max
    → touches_secrets (Read (region_place bounds i / 2 * 2) Word) ≡ false
valid_place_off bounds i valid within =
    let ranges = are_valid-ranges metadata_region bounds valid in
    cond_both (nat_lt i (executable_words bounds)) (bounds.er_min + 2 * i)
    (bounds.or_min + 2 * (i - executable_words bounds))
    (λ place. touches_secrets (Read (place / 2 * 2) Word) ≡ false)
    (λ executable. word_of_region bounds.er_min bounds.er_max i ranges.executable
    (ltb-true i (executable_words bounds) executable))
    (λ output.
    let past : executable_words bounds ≤ i = ltb-false i (executable_words bounds) output in
    word_of_region bounds.or_min bounds.or_max (i - executable_words bounds) ranges.output
    (omega (arith, past, within)))

pub region_off : (bounds : Bounds) (i : ℕ) → i < region_words bounds
    → touches_secrets (Read (region_place bounds i / 2 * 2) Word) ≡ false
region_off bounds i =
    cond_both (are_valid bounds)
    (executable_words bounds + words_between bounds.or_min bounds.or_max) 0
    (λ count. i < count → touches_secrets (Read (region_place bounds i / 2 * 2) Word) ≡ false)
    (λ valid within. valid_place_off bounds i valid within)
    (λ invalid within. absurd (omega (arith, within)))

-- the words that the ROM writes last are the MAC's
pub mac_place : (i : ℕ) → i < 16 → lies_in mac_region ((0x200 + 2 * i) / 2 * 2) ≡ true
mac_place i within = grind (arith, nat_tests)
