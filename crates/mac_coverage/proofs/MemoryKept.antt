-- A step that writes to the exclusive stack and to the MAC alone leaves what is attested.
use Rattle.std.{proofs.{Common.{◌≡◌, ℕ, ◌+◌, ◌-◌, ◌*◌, ◌/◌, ◌<◌, Bool, true, false, not, List, [], ◌++◌, take, drop, inl, inr, Option, Some, None, refl, ap, sym, ◌∙◌, arith}, lemmas.Bool.{cases_Bool, cond-false, eqb-true, false_from_ne_true, Decides.nat_tests}}, specs.Prelude.{◌==◌, ◌&&◌, ◌||◌, if◌then◌else◌}}
use Rattle.word_arith.specs.declared.size.Size.TheVariants.{Byte, Word}
use Rattle.device_types.{specs.{declared.{access.Access.{Access, TheVariants.{Fetch, Read, Write}}, bounds.Bounds.Bounds}, Access.some_writes, Bounds.are_valid, Map.{lies_in, key_region, metadata_region, rom_region, AUX_WORD, EXEC_WORD}}, proofs.ValidRange.{AreValidRanges, IsValidRange, are_valid-ranges}}
use Rattle.part_definitions.specs.{Memory.{MemoryWrite, PowerOn, ShownFlags, byte_at, first_byte, fixed_byte, is_flag_word, last_written, rom_byte, takes_write, with_access, bytes_from}, Metadata.bounds_in, MonitorRule.{is_written_by_rom, leaves_stack_and_mac}, Region.{bounded_bytes, bytes_between, metadata_bytes, rest_bytes}}
use Rattle.trace_facts.proofs.BoundsStay.{MissesPlace, last_written-missed}
use Rattle.mac_coverage.{specs.AttestedBytes.{attested_bytes_in, without_flag_words}, proofs.{ValidPlaces.{IsFreePlace, range-free}, Words.{bytes_from-same, take-bytes_from}}}

-- the byte written last to a place where the ROM does not write
byte_elsewhere : (place p : ℕ) → is_written_by_rom p ≡ false
    → (not (is_written_by_rom place) || false) ≡ false → (place == p) ≡ false
byte_elsewhere place p off within = grind (arith, nat_tests)

low_elsewhere : (place p : ℕ) → is_written_by_rom p ≡ false
    → (not (is_written_by_rom place) || (not (is_written_by_rom (place + 1)) || false)) ≡ false
    → (place / 2 * 2 == p) ≡ false
low_elsewhere place p off within = grind (arith, nat_tests)

high_elsewhere : (place p : ℕ) → is_written_by_rom p ≡ false
    → (not (is_written_by_rom place) || (not (is_written_by_rom (place + 1)) || false)) ≡ false
    → (place / 2 * 2 + 1 == p) ≡ false
high_elsewhere place p off within = grind (arith, nat_tests)

rom-missed : (access : Option Access) (p : ℕ)
    → (some_writes access && leaves_stack_and_mac access) ≡ false
    → is_written_by_rom p ≡ false
    → MissesPlace access p
rom-missed None p within off = tt
rom-missed (Some (Fetch place)) p within off = tt
rom-missed (Some (Read place size)) p within off = tt
rom-missed (Some (Write place Byte number)) p within off = byte_elsewhere place p off within
rom-missed (Some (Write place Word number)) p within off =
    (low_elsewhere place p off within, high_elsewhere place p off within)

-- the flags show in the EXEC word and the AUX word alone
shown_place : (p place : ℕ) → is_flag_word p ≡ false → is_flag_word place ≡ true
    → (p == place) ≡ false
shown_place p place off shown =
    false_from_ne_true (p == place)
    (λ here.
    let same : p ≡ place = eqb-true p place here in
    let inside : is_flag_word p ≡ true = ap is_flag_word same ∙ shown in
    let wrong : true ≡ false = sym inside ∙ off in
    cc)

abbrev flag_byte : ShownFlags → ℕ → ℕ
flag_byte flags p =
    if (p == EXEC_WORD) && flags.exec then 1 else if (p == AUX_WORD) && flags.aux then 1 else 0

no_flag_byte : (flags : ShownFlags) (p : ℕ) → is_flag_word p ≡ false
    → flag_byte flags p ≡ 0
no_flag_byte flags p off =
    cond-false {A = ℕ} ((p == EXEC_WORD) && flags.exec) 1 _
    (ap (λ (here : Bool). here && flags.exec) (shown_place p 0x268 off refl))
    ∙ cond-false {A = ℕ} ((p == AUX_WORD) && flags.aux) 1 0
    (ap (λ (here : Bool). here && flags.aux) (shown_place p 0x26A off refl))

fixed_byte-off : (power : PowerOn) (before after : ShownFlags) (p : ℕ) → is_flag_word p ≡ false
    → fixed_byte power after p ≡ fixed_byte power before p
fixed_byte-off power before after p off =
    ap (λ (n : ℕ). if lies_in key_region p then power.key (p - key_region.first)
    else if lies_in rom_region p then rom_byte p else n)
    (no_flag_byte after p off ∙ sym (no_flag_byte before p off))

-- a byte where the ROM does not write
pub byte_at-kept : (power : PowerOn) (flags : ShownFlags) (access : Option Access)
    (writes : List MemoryWrite) (p : ℕ)
    → (some_writes access && leaves_stack_and_mac access) ≡ false
    → is_written_by_rom p ≡ false
    → byte_at power flags (with_access access writes) p ≡ byte_at power flags writes p
byte_at-kept power flags access writes p within off =
    ap (λ (n : ℕ). if takes_write p then n else fixed_byte power flags p)
    (last_written-missed access writes p (first_byte power p) (rom-missed access p within off))

pub byte_at-off_flags :
    (power : PowerOn) (before after : ShownFlags) (writes : List MemoryWrite) (p : ℕ)
    → is_flag_word p ≡ false → byte_at power after writes p ≡ byte_at power before writes p
byte_at-off_flags power before after writes p off =
    ap (λ (n : ℕ). if takes_write p then last_written writes p (first_byte power p) else n)
    (fixed_byte-off power before after p off)

-- memories that are equal where the ROM does not write and no flag shows
abbrev pub AreAlike : (ℕ → ℕ) → (ℕ → ℕ) → Type 0
AreAlike left right =
    (p : ℕ) → is_written_by_rom p ≡ false → is_flag_word p ≡ false → left p ≡ right p

bounds-alike : (left right : ℕ → ℕ) → AreAlike left right → bounds_in left ≡ bounds_in right
bounds-alike left right alike =
    let byte : (p : ℕ) → is_written_by_rom p ≡ false → is_flag_word p ≡ false → left p ≡ right p =
    alike in
    λ i. record {
      er_min = byte 0x260 refl refl i + 256 * byte 0x261 refl refl i;
      er_max = byte 0x262 refl refl i + 256 * byte 0x263 refl refl i;
      or_min = byte 0x264 refl refl i + 256 * byte 0x265 refl refl i;
      or_max = byte 0x266 refl refl i + 256 * byte 0x267 refl refl i;
    }

range-alike : (left right : ℕ → ℕ) (first last : ℕ) → AreAlike left right
    → IsValidRange metadata_region first last
    → bytes_between left first last ≡ bytes_between right first last
range-alike left right first last alike range =
    bytes_from-same left right first (last + 2 - first)
    (λ i within.
    let free : IsFreePlace (first + i) =
    range-free first last (first + i) range (omega arith) (omega (arith, within)) in
    alike (first + i) free.unwritten free.off_exec)

bounded-alike : (left right : ℕ → ℕ) (bounds : Bounds) → AreAlike left right
    → bounded_bytes left bounds ≡ bounded_bytes right bounds
bounded-alike left right bounds alike =
    elim (cases_Bool (are_valid bounds)) [
      | inl valid ↦
          let ranges : AreValidRanges metadata_region bounds =
          are_valid-ranges metadata_region bounds valid in
          let code = range-alike left right bounds.er_min bounds.er_max alike ranges.executable in
          let output = range-alike left right bounds.or_min bounds.or_max alike ranges.output in
          λ i. if are_valid bounds then code i ++ output i else []
      | inr invalid ↦
          cond-false (are_valid bounds) _ [] invalid
          ∙ sym (cond-false (are_valid bounds) _ [] invalid)
    ]

pub rest-alike : (left right : ℕ → ℕ) → AreAlike left right → rest_bytes left ≡ rest_bytes right
rest-alike left right alike =
    ap (bounded_bytes left) (bounds-alike left right alike)
    ∙ bounded-alike left right (bounds_in right) alike

-- the metadata up to the EXEC word, and from the counter of the request on
prefix-alike : (left right : ℕ → ℕ) → AreAlike left right
    → bytes_from left 0x240 40 ≡ bytes_from right 0x240 40
prefix-alike left right alike =
    bytes_from-same left right 0x240 40
    (λ i within. alike (0x240 + i) (no_write i within) (off_exec i within))
  where
    no_write : (i : ℕ) → i < 40 → is_written_by_rom (0x240 + i) ≡ false
    no_write i within = grind (arith, nat_tests)

    off_exec : (i : ℕ) → i < 40 → is_flag_word (0x240 + i) ≡ false
    off_exec i within = grind (arith, nat_tests)

suffix-alike : (left right : ℕ → ℕ) → AreAlike left right
    → bytes_from left 0x26C 36 ≡ bytes_from right 0x26C 36
suffix-alike left right alike =
    bytes_from-same left right 0x26C 36
    (λ i within. alike (0x26C + i) (no_write i within) (off_exec i within))
  where
    no_write : (i : ℕ) → i < 36 → is_written_by_rom (0x26C + i) ≡ false
    no_write i within = grind (arith, nat_tests)

    off_exec : (i : ℕ) → i < 36 → is_flag_word (0x26C + i) ≡ false
    off_exec i within = grind (arith, nat_tests)

pub attested-but_flags : (left right : ℕ → ℕ) → AreAlike left right
    → without_flag_words (attested_bytes_in left) ≡ without_flag_words (attested_bytes_in right)
attested-but_flags left right alike =
    let first : take 40 (metadata_bytes left) ≡ take 40 (metadata_bytes right) =
    take-bytes_from left 0x240 40 80 (omega arith)
    ∙ (prefix-alike left right alike ∙ sym (take-bytes_from right 0x240 40 80 (omega arith))) in
    let second : drop 44 (metadata_bytes left) ≡ drop 44 (metadata_bytes right) =
    suffix-alike left right alike in
    let rest = rest-alike left right alike in
    λ i. record { metadata = first i ++ second i; rest = rest i }

-- with the EXEC word
pub attested-same : (left right : ℕ → ℕ)
    → ((p : ℕ) → is_written_by_rom p ≡ false → left p ≡ right p)
    → attested_bytes_in left ≡ attested_bytes_in right
attested-same left right same =
    let metadata : metadata_bytes left ≡ metadata_bytes right =
    bytes_from-same left right 0x240 80 (λ i within. same (0x240 + i) (no_write i within)) in
    let rest = rest-alike left right (λ p off off_exec. same p off) in
    λ i. record { metadata = metadata i; rest = rest i }
  where
    no_write : (i : ℕ) → i < 80 → is_written_by_rom (0x240 + i) ≡ false
    no_write i within = grind (arith, nat_tests)
