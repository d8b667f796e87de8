-- The access of a call after so many words that passed, and its number.
use Rattle.std.{proofs.{Common.{◌≡◌, ℕ, ◌+◌, ◌<◌, ◌≤◌, true, false, refl, ap, arith}, lemmas.Bool.{cond_both, cond-false, ne_eqb, Decides.nat_tests}}, specs.Prelude.◌==◌}
use Rattle.device_types.specs.Map.{ROM_ENTRY, ROM_BODY, ROM_EXIT}
use Rattle.part_definitions.{specs.{Attestation.{CallItem, KeyRead, MetadataRead, KeptRead, KeptWrite, DecisionWrite, DerivedKeyWrite, RegionRead, InnerDigestWrite, MacWrite, ReturnRead, item_pc, is_return}, Request.ATTESTS}, proofs.CallItems.{item_after, item_after-is}}
use Rattle.trace_facts.proofs.CallPlaces.{IsItemAt, item_after-at}

-- items from their numbers
pub key_item : (region decision i : ℕ) → i < 32 → item_after region decision i ≡ KeyRead i
key_item region decision i within = grind (arith, nat_tests, item_after-is)

pub metadata_item : (region decision i : ℕ) → i < 40
    → item_after region decision (32 + i) ≡ MetadataRead i
metadata_item region decision i within = grind (arith, nat_tests, item_after-is)

pub kept_item : (region decision i : ℕ) → i < 2
    → item_after region decision (72 + i) ≡ KeptRead i
kept_item region decision i within = grind (arith, nat_tests, item_after-is)

pub high_word_item : (region decision : ℕ) → item_after region decision 74 ≡ KeptWrite 1
high_word_item region decision = item_after-is region decision 74

pub decision_item : (region decision : ℕ) → item_after region decision 76 ≡ DecisionWrite
decision_item region decision = item_after-is region decision 76

pub region_item : (region i : ℕ) → i < region → item_after region ATTESTS (93 + i) ≡ RegionRead i
region_item region i within = grind (arith, nat_tests, item_after-is)

-- before the decision is written neither it nor the size of the region matters
pub item_after-early : (region other decision second count : ℕ) → count < 77
    → item_after region decision count ≡ item_after other second count
item_after-early region other decision second count early = grind (arith, nat_tests, item_after-is)

-- the ROM is entered with the first word alone, and left with the return read alone
pub only_first_enters : (region decision count : ℕ) → 1 ≤ count
    → (item_pc (item_after region decision count) == ROM_ENTRY) ≡ false
only_first_enters region decision count later =
    enters (item_after region decision count) (item_after-at region decision count)
  where
    enters : (item : CallItem) → IsItemAt region decision count item
        → (item_pc item == ROM_ENTRY) ≡ false
    enters (KeyRead i) at =
        let other : (i == 0) ≡ false = ne_eqb i 0 (λ zero_word. omega (arith, at.0, zero_word)) in
        ap (λ (pc : ℕ). pc == ROM_ENTRY) (cond-false (i == 0) ROM_ENTRY ROM_BODY other)
    enters item at = refl

pub exit_returns : (item : CallItem) → (item_pc item == ROM_EXIT) ≡ true → is_return item ≡ true
exit_returns (KeyRead i) exit =
    absurd (cond_both (i == 0) ROM_ENTRY ROM_BODY (λ (pc : ℕ). (pc == ROM_EXIT) ≡ true → ⊥)
    (λ first wrong. absurd (cc)) (λ other wrong. absurd (cc)) exit)
exit_returns ReturnRead exit = refl
exit_returns item exit = absurd (cc)

-- before the return there are fewer words, and at the return all have passed
pub not_last : (region decision count : ℕ) (item : CallItem) → IsItemAt region decision count item
    → is_return item ≡ false → count < 125 + region
not_last region decision count ReturnRead at goes_on = absurd (cc)
not_last region decision count item at goes_on = omega arith

pub is_last : (region decision count : ℕ) (item : CallItem) → IsItemAt region decision count item
    → is_return item ≡ true → (77 ≤ count) × ((decision ≡ ATTESTS) → 125 + region ≤ count)
is_last region decision count ReturnRead at returns = at
is_last region decision count item at returns = absurd (cc)

-- after the decision only a call that attests goes on
pub goes_on-attests : (region decision count : ℕ) (item : CallItem)
    → IsItemAt region decision count item → is_return item ≡ false → 77 ≤ count
    → decision ≡ ATTESTS
goes_on-attests region decision count (DerivedKeyWrite i) at goes_on past = at.2
goes_on-attests region decision count (RegionRead i) at goes_on past = at.2
goes_on-attests region decision count (InnerDigestWrite i) at goes_on past = at.2
goes_on-attests region decision count (MacWrite i) at goes_on past = at.2
goes_on-attests region decision count ReturnRead at goes_on past = absurd (cc)
goes_on-attests region decision count item at goes_on past = absurd (omega arith)
