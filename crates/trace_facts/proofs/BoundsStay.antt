-- The bounds stay as they are where no write touches the metadata.
use Rattle.std.{proofs.{Common.{◌≡◌, ℕ, ◌+◌, ◌*◌, ◌/◌, true, false, List, ◌++◌, Option, Some, None, refl, sym, ◌∙◌, arith, ◌%◌}, lemmas.{Bool.{or_parts, cond-false, or_from, Decides.nat_tests}, List.Folds.list_any-append}}, specs.{Prelude.{◌==◌, ◌||◌, option_to_list, ◌&&◌}, List.list_any}}
use Rattle.word_arith.specs.declared.size.Size.TheVariants.{Byte, Word}
use Rattle.device_types.specs.{declared.{access.Access.{Access, TheVariants.{Fetch, Read, Write}}, bus_record.BusRecord.BusRecord, rule.Rule.Rule, region.Region.Region}, Map.{lies_in, metadata_region, touches, some_touches}, ExecFlag.{accesses_in, writes_to}, Access.{is_write, some_writes}}
use Rattle.part_definitions.specs.Memory.{MemoryWrite, last_written, with_access}
use Rattle.device_trace.specs.{Logs.{Logs, logged_bounds, memory_after, with_record}, Start.Start}

-- Where an access does not write.

-- a byte elsewhere
abbrev pub MissesPlace : Option Access → ℕ → Type 0
MissesPlace None p = Unit {0}
MissesPlace (Some (Fetch place)) p = Unit {0}
MissesPlace (Some (Read place size)) p = Unit {0}
MissesPlace (Some (Write place Byte number)) p = (place == p) ≡ false
MissesPlace (Some (Write place Word number)) p =
    ((place / 2 * 2 == p) ≡ false) × ((place / 2 * 2 + 1 == p) ≡ false)

pub last_written-missed : (access : Option Access) (writes : List MemoryWrite) (p before : ℕ)
    → MissesPlace access p
    → last_written (with_access access writes) p before ≡ last_written writes p before
last_written-missed None writes p before misses = refl
last_written-missed (Some (Fetch place)) writes p before misses = refl
last_written-missed (Some (Read place size)) writes p before misses = refl
last_written-missed (Some (Write place Byte number)) writes p before misses =
    cond-false (place == p) (number % 256) (last_written writes p before) misses
last_written-missed (Some (Write place Word number)) writes p before misses =
    cond-false (place / 2 * 2 + 1 == p) (number / 256 % 256) _ misses.1
    ∙ cond-false (place / 2 * 2 == p) (number % 256) (last_written writes p before) misses.0

-- nothing in a region
pub writes_nowhere : (access : Option Access) (region : Region)
    → (some_writes access && some_touches access region) ≡ false
    → list_any (writes_to region) (option_to_list access) ≡ false
writes_nowhere None region off = refl
writes_nowhere (Some access) region off =
    or_from (is_write access && touches access region) false off refl

byte_elsewhere : (place p : ℕ)
    → lies_in metadata_region p ≡ true → ((lies_in metadata_region place || false) || false) ≡ false
    → (place == p) ≡ false
byte_elsewhere place p within off = grind (arith, nat_tests)

low_elsewhere : (place p : ℕ)
    → lies_in metadata_region p ≡ true
    → ((lies_in metadata_region place || (lies_in metadata_region (place + 1) || false)) || false)
    ≡ false
    → (place / 2 * 2 == p) ≡ false
low_elsewhere place p within off = grind (arith, nat_tests)

high_elsewhere : (place p : ℕ)
    → lies_in metadata_region p ≡ true
    → ((lies_in metadata_region place || (lies_in metadata_region (place + 1) || false)) || false)
    ≡ false
    → (place / 2 * 2 + 1 == p) ≡ false
high_elsewhere place p within off = grind (arith, nat_tests)

-- an access that does not write to the metadata
metadata-missed : (access : Option Access) (p : ℕ)
    → lies_in metadata_region p ≡ true
    → list_any (writes_to metadata_region) (option_to_list access) ≡ false
    → MissesPlace access p
metadata-missed None p within off = tt
metadata-missed (Some (Fetch place)) p within off = tt
metadata-missed (Some (Read place size)) p within off = tt
metadata-missed (Some (Write place Byte number)) p within off = byte_elsewhere place p within off
metadata-missed (Some (Write place Word number)) p within off =
    (low_elsewhere place p within off, high_elsewhere place p within off)

pub memory_after-elsewhere : (cpu dma : Option Access) (writes : List MemoryWrite) (p before : ℕ)
    → lies_in metadata_region p ≡ true
    → list_any (writes_to metadata_region) (option_to_list cpu ++ option_to_list dma) ≡ false
    → last_written (memory_after None cpu dma writes) p before ≡ last_written writes p before
memory_after-elsewhere cpu dma writes p before within off =
    let parts =
    or_parts (list_any (writes_to metadata_region) (option_to_list cpu))
    (list_any (writes_to metadata_region) (option_to_list dma))
    (sym (list_any-append (writes_to metadata_region) (option_to_list cpu) (option_to_list dma))
    ∙ off) in
    last_written-missed dma (with_access cpu writes) p before (metadata-missed dma p within parts.1)
    ∙ last_written-missed cpu writes p before (metadata-missed cpu p within parts.0)

bounds_after : (start : Start) (logs : Logs) (entry : BusRecord) (rule : Option Rule)
    → rule ≡ None
    → list_any (writes_to metadata_region) (accesses_in entry) ≡ false
    → logged_bounds start (with_record start logs (record entry { reset = rule }))
    ≡ logged_bounds start logs
unfolding with_record
bounds_after start logs entry (Some rule) none off = absurd (cc)
bounds_after start logs entry None none off =
    let byte : (p : ℕ) → lies_in metadata_region p ≡ true
    → last_written (memory_after None entry.cpu entry.dma logs.memory) p (start.power.image p)
    ≡ last_written logs.memory p (start.power.image p) =
    λ p within. memory_after-elsewhere entry.cpu entry.dma logs.memory p
    (start.power.image p) within off in
    λ i. record {
      er_min = byte 0x260 refl i + 256 * byte 0x261 refl i;
      er_max = byte 0x262 refl i + 256 * byte 0x263 refl i;
      or_min = byte 0x264 refl i + 256 * byte 0x265 refl i;
      or_max = byte 0x266 refl i + 256 * byte 0x267 refl i;
    }

pub logged_bounds-stay : (start : Start) (logs : Logs) (entry : BusRecord)
    → entry.reset ≡ None
    → list_any (writes_to metadata_region) (accesses_in entry) ≡ false
    → logged_bounds start (with_record start logs entry) ≡ logged_bounds start logs
logged_bounds-stay start logs entry none off = bounds_after start logs entry entry.reset none off
