-- A step of a call that is not refused, with and without the key.
use Rattle.std.{proofs.{Common.{◌≡◌, ℕ, ◌+◌, ◌*◌, ◌/◌, ◌<◌, ◌≤◌, true, false, List, [], ◌∷◌, ◌++◌, length, Some, refl, ap, sym, ◌∙◌, arith}, lemmas.Bool.{cond-true, cond-false, Decides.nat_tests}}, specs.Prelude.{◌==◌, ◌&&◌, ◌||◌, slice_index, if◌then◌else◌}}
use Rattle.word_arith.specs.declared.size.Size.TheVariants.{Word}
use Rattle.device_types.specs.{declared.{access.Access.{Access, TheVariants.{Read, Write}}, bounds.Bounds.Bounds}, Access.some_reads, Map.{lies_in, touches, some_touches, mac_region, key_region, stack_region, peripheral_region, ROM_EXIT}}
use Rattle.part_definitions.specs.Attestation.{CallItem, KeyRead, MetadataRead, KeptRead, KeptWrite, DecisionWrite, DerivedKeyWrite, RegionRead, InnerDigestWrite, MacWrite, ReturnRead, region_words, item_access, item_pc, word_passed}
use Rattle.device_trace.specs.{Blank.{touches_secrets, blank_access, blank_value}, Logs.{Logs, flags_of, logged_byte, with_released_word}, Signals.value_read, Start.{Start, mac_word}}
use Rattle.key_isolation.proofs.{Bytes.{key_byte-hide, stack_byte-hide, zero_either}, Numbers.{key_word-zero, kept_word-zero}, Hiding.{open_start, hide}, HiddenWords.{hides_word, hidden_word, key_hidden, kept_hidden, metadata_shown, rest_shown, zero_hidden}, Reading.value_read-hide}
use Rattle.trace_facts.proofs.CallPlaces.{ItemFits, mac_place, metadata_off, region_off}

-- the real access of a call and the one without the key, after so many words
pub record SameItem (start : Start) (free : List ℕ) (logs : Logs) (count : ℕ)
    (real view : Access) : Type 0 where
  pub access : blank_access (Some real) ≡ Some view
  pub value :
      blank_value (Some real) (value_read start logs (Some real))
      ≡ value_read (open_start free start) (hide logs) (Some view)
  pub passed :
      word_passed (Some view) (value_read (open_start free start) (hide logs) (Some view))
      ≡ hidden_word count (word_passed (Some real) (value_read start logs (Some real)))

read_off : (start : Start) (free : List ℕ) (logs : Logs) (count place : ℕ)
    → hides_word count ≡ false → touches_secrets (Read place Word) ≡ false
    → SameItem start free logs count (Read place Word) (Read place Word)
read_off start free logs count place shown off =
    let same = value_read-hide start free logs (Read place Word) off in
    record {
      access = refl;
      value =
          cond-false (touches_secrets (Read place Word)) 0
          (value_read start logs (Some (Read place Word))) off ∙ sym same;
      passed =
          same
          ∙ sym (cond-false (hides_word count) 0 (value_read start logs (Some (Read place Word)))
          shown);
    }

-- a word of a secret
read_secret : (start : Start) (free : List ℕ) (logs : Logs) (count place : ℕ)
    → hides_word count ≡ true → touches_secrets (Read place Word) ≡ true
    → value_read (open_start free start) (hide logs) (Some (Read place Word)) ≡ 0
    → SameItem start free logs count (Read place Word) (Read place Word)
read_secret start free logs count place hidden touched zero_word =
    record {
      access = refl;
      value =
          cond-true (touches_secrets (Read place Word)) 0
          (value_read start logs (Some (Read place Word))) touched
          ∙ sym zero_word;
      passed =
          zero_word
          ∙ sym (cond-true (hides_word count) 0 (value_read start logs (Some (Read place Word)))
          hidden);
    }

-- of the key
key_touched : (i : ℕ) → i < 32 → touches_secrets (Read ((0x6A00 + 2 * i) / 2 * 2) Word) ≡ true
key_touched i within = grind (arith, nat_tests)

key_off_peripherals : (i : ℕ) → i < 32
    → lies_in peripheral_region ((0x6A00 + 2 * i) / 2 * 2) ≡ false
key_off_peripherals i within = grind (arith, nat_tests)

read_key : (start : Start) (free : List ℕ) (logs : Logs) (count i : ℕ)
    → i < 32 → hides_word count ≡ true
    → SameItem start free logs count (Read ((0x6A00 + 2 * i) / 2 * 2) Word)
    (Read ((0x6A00 + 2 * i) / 2 * 2) Word)
read_key start free logs count i within hidden =
    read_secret start free logs count _ hidden (key_touched i within)
    (cond-false (lies_in peripheral_region ((0x6A00 + 2 * i) / 2 * 2)) _ _
    (key_off_peripherals i within)
    ∙ key_word-zero (logged_byte (open_start free start) (hide logs))
    (λ place key. key_byte-hide start.power (flags_of (open_start free start) (hide logs))
    (hide logs).memory place key) i within)

-- of the kept counter
kept_touched : (i : ℕ) → i < 2 → touches_secrets (Read ((0x4060 + 2 * i) / 2 * 2) Word) ≡ true
kept_touched i within = grind (arith, nat_tests)

kept_off_peripherals : (i : ℕ) → i < 2
    → lies_in peripheral_region ((0x4060 + 2 * i) / 2 * 2) ≡ false
kept_off_peripherals i within = grind (arith, nat_tests)

read_kept : (start : Start) (free : List ℕ) (logs : Logs) (count i : ℕ)
    → i < 2 → hides_word count ≡ true
    → SameItem start free logs count (Read ((0x4060 + 2 * i) / 2 * 2) Word)
    (Read ((0x4060 + 2 * i) / 2 * 2) Word)
read_kept start free logs count i within hidden =
    read_secret start free logs count _ hidden (kept_touched i within)
    (cond-false (lies_in peripheral_region ((0x4060 + 2 * i) / 2 * 2)) _ _
    (kept_off_peripherals i within)
    ∙ kept_word-zero (logged_byte (open_start free start) (hide logs))
    (λ place stack. stack_byte-hide start.power (flags_of (open_start free start) (hide logs))
    logs.memory place stack) i within)

-- a word of the exclusive stack
write_stack : (start : Start) (free : List ℕ) (logs : Logs) (count place number : ℕ)
    → touches (Read place Word) stack_region ≡ true
    → lies_in mac_region place ≡ false
    → SameItem start free logs count (Write place Word number) (Write place Word 0)
write_stack start free logs count place number stack off_mac =
    record {
      access =
          ap (λ (n : ℕ). Some (Write place Word n))
          (cond-true (touches (Read place Word) stack_region) 0 number stack);
      value = zero_either (touches_secrets (Read place Word));
      passed =
          cond-false (lies_in mac_region place) 0 0 off_mac
          ∙ sym (ap (hidden_word count) (cond-false (lies_in mac_region place) number 0 off_mac)
          ∙ zero_hidden count);
    }

-- a word of the MAC
write_mac : (start : Start) (free : List ℕ) (logs : Logs) (count place number other : ℕ)
    → hides_word count ≡ false
    → touches (Read place Word) stack_region ≡ false
    → other ≡ number
    → SameItem start free logs count (Write place Word number) (Write place Word other)
write_mac start free logs count place number other shown off same =
    record {
      access =
          ap (λ (n : ℕ). Some (Write place Word n))
          (cond-false (touches (Read place Word) stack_region) 0 number off ∙ sym same);
      value = zero_either (touches_secrets (Read place Word));
      passed =
          ap (λ (n : ℕ). if lies_in mac_region place then n else 0) same
          ∙ sym (cond-false (hides_word count) 0 (if lies_in mac_region place then number else 0)
          shown);
    }

derived_in_stack : (i : ℕ) → i < 16
    → touches (Read ((0x4000 + 2 * i) / 2 * 2) Word) stack_region ≡ true
derived_in_stack i within = grind (arith, nat_tests)

kept_in_stack : (i : ℕ) → i < 2
    → touches (Read ((0x4060 + 2 * i) / 2 * 2) Word) stack_region ≡ true
kept_in_stack i within = grind (arith, nat_tests)

inner_in_stack : (i : ℕ) → i < 16
    → touches (Read ((0x4020 + 2 * i) / 2 * 2) Word) stack_region ≡ true
inner_in_stack i within = grind (arith, nat_tests)

above_mac : (place : ℕ) → 0x4000 ≤ place → lies_in mac_region (place / 2 * 2) ≡ false
above_mac place above = grind (arith, nat_tests)

mac_off_stack : (i : ℕ) → i < 16
    → touches (Read ((0x200 + 2 * i) / 2 * 2) Word) stack_region ≡ false
mac_off_stack i within = grind (arith, nat_tests)

-- the word that comes next is the one that is released
next_number : (old : List ℕ) (number : ℕ) (more : List ℕ)
    → slice_index ((old ++ number ∷ []) ++ more) (length old) ≡ number
next_number [] number more = refl
next_number (first ∷ old) number more = next_number old number more

next_released : (old free more : List ℕ) (place number : ℕ)
    → lies_in mac_region place ≡ true
    → free ≡ with_released_word (Some (Write place Word number)) old ++ more
    → slice_index free (length old) ≡ number
next_released old free more place number mac split =
    ap (λ (words : List ℕ). slice_index words (length old))
    (split ∙ ap (λ (words : List ℕ). words ++ more)
    (cond-true (lies_in mac_region place) (old ++ number ∷ []) old mac))
    ∙ next_number old number more

-- the return read touches no secret where rule A4 is not broken
return_off : (place : ℕ)
    → (some_touches (Some (Read place Word)) key_region
    || some_touches (Some (Read place Word)) stack_region) ≡ false
    → touches_secrets (Read place Word) ≡ false
return_off place off = off

pub same_item : (start : Start) (free more : List ℕ) (logs : Logs) (sp count number : ℕ)
    (bounds : Bounds) (item : CallItem)
    → ItemFits (region_words bounds) count item
    → ((item_pc item == ROM_EXIT) && some_reads (Some (item_access sp bounds item number))
    && (some_touches (Some (item_access sp bounds item number)) key_region
    || some_touches (Some (item_access sp bounds item number)) stack_region)) ≡ false
    → free ≡ with_released_word (Some (item_access sp bounds item number)) logs.released_words
    ++ more
    → SameItem start free logs count (item_access sp bounds item number)
    (item_access sp bounds item (mac_word free (length logs.released_words) item))
same_item start free more logs sp count number bounds (KeyRead i) fits a4 split =
    read_key start free logs count i fits.0 (key_hidden count fits.1)
same_item start free more logs sp count number bounds (MetadataRead i) fits a4 split =
    read_off start free logs count _ (metadata_shown count fits.1 fits.2)
    (metadata_off i fits.0)
same_item start free more logs sp count number bounds (KeptRead i) fits a4 split =
    read_kept start free logs count i fits.0 (kept_hidden count fits.1 fits.2)
same_item start free more logs sp count number bounds (KeptWrite i) fits a4 split =
    write_stack start free logs count _ number (kept_in_stack i fits.0)
    (above_mac (0x4060 + 2 * i) (omega arith))
same_item start free more logs sp count number bounds DecisionWrite fits a4 split =
    write_mac start free logs count 0x200 number _ (rest_shown count fits) refl
    (next_released logs.released_words free more 0x200 number refl split)
same_item start free more logs sp count number bounds (DerivedKeyWrite i) fits a4 split =
    write_stack start free logs count _ number (derived_in_stack i fits.0)
    (above_mac (0x4000 + 2 * i) (omega arith))
same_item start free more logs sp count number bounds (RegionRead i) fits a4 split =
    read_off start free logs count _ (rest_shown count fits.1) (region_off bounds i fits.0)
same_item start free more logs sp count number bounds (InnerDigestWrite i) fits a4 split =
    write_stack start free logs count _ number (inner_in_stack i fits.0)
    (above_mac (0x4020 + 2 * i) (omega arith))
same_item start free more logs sp count number bounds (MacWrite i) fits a4 split =
    write_mac start free logs count _ number _ (rest_shown count fits.1) (mac_off_stack i fits.0)
    (next_released logs.released_words free more ((0x200 + 2 * i) / 2 * 2) number
    (mac_place i fits.0) split)
same_item start free more logs sp count number bounds ReturnRead fits a4 split =
    read_off start free logs count _ (rest_shown count fits) (return_off (sp / 2 * 2) a4)
