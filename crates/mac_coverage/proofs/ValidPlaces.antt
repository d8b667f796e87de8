-- The places of a valid region: the ROM does not write there, and neither the metadata nor the code
-- of the ROM are there.
use Rattle.std.{proofs.{Common.{◌≡◌, ℕ, ◌+◌, ◌%◌, ◌^◌, ◌<◌, ◌≤◌, Bool, true, false, not, List, [], ◌∷◌, ◌⊎◌, inl, inr, refl, sym, ◌∙◌, arith}, lemmas.Bool.{and_parts, or_cases, or_parts, or_from, not-false, leb-true, lt-leb, and_left, and_right, false_from_ne_true}}, specs.{Prelude.{◌&&◌, nat_le}, List.list_any}}
use Rattle.device_types.{specs.{declared.access.Access.Access, Access.bytes_of, Bounds.words_region, Map.{lies_in, touches, mac_region, metadata_region, stack_region}}, proofs.ValidRange.IsValidRange}
use Rattle.part_definitions.specs.{Memory.is_flag_word, MonitorRule.{in_rom, is_written_by_rom}}

-- of a place in a valid region
pub record IsFreePlace (place : ℕ) : Type 0 where
  pub unwritten : is_written_by_rom place ≡ false
  pub off_metadata : lies_in metadata_region place ≡ false
  pub off_exec : is_flag_word place ≡ false
  pub off_rom : in_rom place ≡ false
  pub above : 0x200 ≤ place

outside : (first last place : ℕ) → (place < first) ⊎ (last < place)
    → (nat_le first place && nat_le place last) ≡ false
outside first last place (inl below) =
    and_left (nat_le first place) (nat_le place last) (lt-leb first place below)
outside first last place (inr above) =
    and_right (nat_le first place) (nat_le place last) (lt-leb place last above)

pub range-free : (first last place : ℕ) → IsValidRange metadata_region first last
    → first ≤ place → place ≤ last + 1 → IsFreePlace place
range-free first last place range above below =
    let off_mac : (place < 0x200) ⊎ (0x21F < place) =
    elim range.off_mac [
      | inl before ↦ inl (omega (arith, before, below))
      | inr after ↦ inr (omega (arith, after, above))
    ] in
    let off_metadata : (place < 0x240) ⊎ (0x28F < place) =
    elim range.off_metadata [
      | inl before ↦ inl (omega (arith, before, below))
      | inr after ↦ inr (omega (arith, after, above))
    ] in
    let off_stack : (place < 0x4000) ⊎ (0x43FF < place) =
    elim range.place [
      | inl ram ↦ inl (let high = ram.1 in omega (arith, high, below))
      | inr program ↦ inr (let low = program.0 in omega (arith, low, above))
    ] in
    let off_rom : (place < 0xA000) ⊎ (0xBFFF < place) =
    elim range.place [
      | inl ram ↦ inl (let high = ram.1 in omega (arith, high, below))
      | inr program ↦ inr (let low = program.0 in omega (arith, low, above))
    ] in
    let off_exec : (place < 0x268) ⊎ (0x26B < place) =
    elim off_metadata [
      | inl before ↦ inl (omega (arith, before))
      | inr after ↦ inr (omega (arith, after))
    ] in
    record {
      unwritten =
          or_from (lies_in stack_region place) (lies_in mac_region place)
          (outside 0x4000 0x43FF place off_stack) (outside 0x200 0x21F place off_mac);
      off_metadata = outside 0x240 0x28F place off_metadata;
      off_exec = outside 0x268 0x26B place off_exec;
      off_rom = outside 0xA000 0xBFFF place off_rom;
      above =
          elim range.place [
            | inl ram ↦ (let low = ram.0 in omega (arith, low, above))
            | inr program ↦ (let low = program.0 in omega (arith, low, above))
          ];
    }

-- a place of a region as the flag sees it
pub words_region-free : (first last place : ℕ) → IsValidRange metadata_region first last
    → lies_in (words_region first last) place ≡ true → IsFreePlace place
words_region-free first last place range within =
    let parts = and_parts (nat_le first place) (nat_le place ((last + 1) % 2 ^ 16)) within in
    let above : first ≤ place = leb-true first place parts.0 in
    let below : place ≤ (last + 1) % 2 ^ 16 = leb-true place ((last + 1) % 2 ^ 16) parts.1 in
    let same : (last + 1) % 2 ^ 16 ≡ last + 1 = omega (arith, range.fits) in
    range-free first last place range above (omega (arith, below, same))

clash : {test : Bool} → test ≡ true → test ≡ false → ⊥
clash holds fails = let wrong : true ≡ false = sym holds ∙ fails in cc

-- code of the ROM is outside, and so is what the ROM writes
pub rom_outside : (first last pc : ℕ) → IsValidRange metadata_region first last → in_rom pc ≡ true
    → lies_in (words_region first last) pc ≡ false
rom_outside first last pc range rom =
    false_from_ne_true (lies_in (words_region first last) pc)
    (λ within. clash rom (words_region-free first last pc range within).off_rom)

written_outside : (first last place : ℕ) → IsValidRange metadata_region first last
    → is_written_by_rom place ≡ true
    → lies_in (words_region first last) place ≡ false
written_outside first last place range writes =
    false_from_ne_true (lies_in (words_region first last) place)
    (λ within. clash writes (words_region-free first last place range within).unwritten)

pub none_elsewhere : (test other : ℕ → Bool) (places : List ℕ)
    → ((place : ℕ) → test place ≡ true → other place ≡ false)
    → list_any (λ place. not (test place)) places ≡ false → list_any other places ≡ false
none_elsewhere test other [] apart none = refl
none_elsewhere test other (place ∷ places) apart none =
    let parts = or_parts (not (test place)) (list_any (λ p. not (test p)) places) none in
    or_from (other place) (list_any other places) (apart place (not-false (test place) parts.0))
    (none_elsewhere test other places apart parts.1)

pub writes_outside : (first last : ℕ) (access : Access) → IsValidRange metadata_region first last
    → list_any (λ place. not (is_written_by_rom place)) (bytes_of access) ≡ false
    → touches access (words_region first last) ≡ false
writes_outside first last access range within =
    none_elsewhere is_written_by_rom (lies_in (words_region first last)) (bytes_of access)
    (λ place writes. written_outside first last place range writes) within

-- the metadata neither
metadata_unwritten : (place : ℕ) → is_written_by_rom place ≡ true
    → lies_in metadata_region place ≡ false
metadata_unwritten place writes =
    elim (or_cases (lies_in stack_region place) (lies_in mac_region place) writes) [
      | inl stack ↦
          let parts = and_parts (nat_le 0x4000 place) (nat_le place 0x43FF) stack in
          outside 0x240 0x28F place
          (inr (let above : 0x4000 ≤ place = leb-true 0x4000 place parts.0 in omega (arith, above)))
      | inr mac ↦
          let parts = and_parts (nat_le 0x200 place) (nat_le place 0x21F) mac in
          outside 0x240 0x28F place
          (inl (let below : place ≤ 0x21F = leb-true place 0x21F parts.1 in omega (arith, below)))
    ]

pub writes_off_metadata : (access : Access)
    → list_any (λ place. not (is_written_by_rom place)) (bytes_of access) ≡ false
    → touches access metadata_region ≡ false
writes_off_metadata access within =
    none_elsewhere is_written_by_rom (lies_in metadata_region) (bytes_of access) metadata_unwritten
    within
