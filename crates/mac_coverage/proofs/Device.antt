-- A device with a key of 64 bytes and an image of bytes, and what a call reads in it.
use Rattle.std.{proofs.{Common.{◌≡◌, ℕ, ◌+◌, ◌-◌, ◌*◌, ◌/◌, ◌%◌, ◌<◌, ◌≤◌, true, false, List, Some, length, ap, ◌∙◌, arith, [], ◌∷◌, Option, None}, lemmas.Bool.{and_right, cond-true, cond-false, lt-leb, cond_both, Decides.nat_tests}}, specs.Prelude.{Bool, nat_le, slice_index, ◌==◌, ◌&&◌, if◌then◌else◌}}
use Rattle.word_arith.specs.declared.size.Size.TheVariants.{Word, Byte}
use Rattle.device_types.specs.{Map.{lies_in, key_region, peripheral_region, rom_region, AUX_WORD, EXEC_WORD, ROM_EXIT}, ExecFlag.SeenRecord, declared.{access.Access.{Access, TheVariants.{Fetch, Read, Write}}, rule.Rule.Rule}}
use Rattle.part_definitions.specs.{BusAccess.read_at, Attestation.word_of_bytes, Memory.{takes_write, MemoryWrite, PowerOn, ShownFlags, first_byte, fixed_byte, is_image_place, last_written, rom_byte, with_access}}
use Rattle.device_trace.specs.{Logs.{Logs, logged_byte, flags_of, memory_after, with_events, with_record}, Signals.{number_read, value_read}, Start.{Start, with_key}, Trace.{Play, logs_after}, Step.next_record}
use Rattle.mac_coverage.proofs.Words.{AreBytes}

-- Memory holds bytes, if key and image do.

-- key and image are of bytes
pub record PowerOnBytes (power : PowerOn) : Type 0 where
  pub key : (i : ℕ) → power.key i < 256
  pub image : (place : ℕ) → power.image place < 256

-- what was written is bytes
abbrev pub WritesBytes : List MemoryWrite → Type 0
WritesBytes writes = (place before : ℕ) → before < 256 → last_written writes place before < 256

written_byte : (test : Bool) (byte rest : ℕ) → byte < 256 → rest < 256
    → (if test then byte else rest) < 256
written_byte test byte rest small small_rest =
    cond_both test byte rest (λ (n : ℕ). n < 256) (λ here. small) (λ elsewhere. small_rest)

with_access-bytes : (access : Option Access) (writes : List MemoryWrite) → WritesBytes writes
    → WritesBytes (with_access access writes)
with_access-bytes None writes small place before byte = small place before byte
with_access-bytes (Some (Fetch at)) writes small place before byte = small place before byte
with_access-bytes (Some (Read at size)) writes small place before byte = small place before byte
with_access-bytes (Some (Write at Byte number)) writes small place before byte =
    written_byte (at == place) (number % 256) (last_written writes place before) (omega arith)
    (small place before byte)
with_access-bytes (Some (Write at Word number)) writes small place before byte =
    written_byte (at / 2 * 2 + 1 == place) (number / 256 % 256) _ (omega arith)
    (written_byte (at / 2 * 2 == place) (number % 256) (last_written writes place before)
    (omega arith) (small place before byte))

memory_after-bytes : (rule : Option Rule) (cpu dma : Option Access) (writes : List MemoryWrite)
    → WritesBytes writes → WritesBytes (memory_after rule cpu dma writes)
memory_after-bytes None cpu dma writes small =
    with_access-bytes dma (with_access cpu writes) (with_access-bytes cpu writes small)
memory_after-bytes (Some rule) cpu dma writes small = small

logs_after-bytes : (start : Start) (play : Play)
    → WritesBytes (logs_after start play).memory
unfolding logs_after with_record with_events
logs_after-bytes start [] place before byte = byte
logs_after-bytes start (events ∷ play) place before byte =
    memory_after-bytes (next_record start (logs_after start play) events).reset
    (next_record start (logs_after start play) events).cpu
    (next_record start (logs_after start play) events).dma
    (logs_after start play).memory (logs_after-bytes start play) place before byte

-- the bytes that take no write
rom_byte-byte : (place : ℕ) → rom_byte place < 256
rom_byte-byte place =
    written_byte (place == ROM_EXIT) 0x30 _ (omega arith)
    (written_byte (place == ROM_EXIT + 1) 0x41 _ (omega arith)
    (written_byte (place % 2 == 0) 0x03 0x43 (omega arith) (omega arith)))

fixed_byte-byte : (power : PowerOn) (flags : ShownFlags) (place : ℕ) → PowerOnBytes power
    → fixed_byte power flags place < 256
fixed_byte-byte power flags place bytes =
    written_byte (lies_in key_region place) (power.key (place - key_region.first)) _
    (bytes.key (place - key_region.first))
    (written_byte (lies_in rom_region place) (rom_byte place) _ (rom_byte-byte place)
    (written_byte ((place == EXEC_WORD) && flags.exec) 1 _ (omega arith)
    (written_byte ((place == AUX_WORD) && flags.aux) 1 0 (omega arith) (omega arith))))

first_byte-byte : (power : PowerOn) (place : ℕ) → PowerOnBytes power → first_byte power place < 256
first_byte-byte power place bytes =
    written_byte (is_image_place place) (power.image place) 0 (bytes.image place) (omega arith)

pub byte_after-byte : (start : Start) (play : Play) (place : ℕ)
    → PowerOnBytes start.power → logged_byte start (logs_after start play) place < 256
byte_after-byte start play place bytes =
    written_byte (takes_write place) _
    (fixed_byte start.power (flags_of start (logs_after start play)) place)
    (logs_after-bytes start play place (first_byte start.power place)
    (first_byte-byte start.power place bytes))
    (fixed_byte-byte start.power (flags_of start (logs_after start play)) place bytes)

pub record Device : Type 0 where
  pub flag : List SeenRecord → Bool
  pub digest : List ℕ → List ℕ
  pub key : List ℕ
  pub image : ℕ → ℕ
  pub key_size : length key ≡ 64
  pub key_bytes : AreBytes key
  pub image_bytes : (place : ℕ) → image place < 256

abbrev pub start_of : Device → Start
start_of device = with_key device.flag device.digest device.key device.image

pub start_of-bytes : (device : Device) → PowerOnBytes (start_of device).power
start_of-bytes device = record { key = device.key_bytes; image = device.image_bytes }

-- the word at an even place of memory
pub word-read : (start : Start) (logs : Logs) (place : ℕ) → place % 2 ≡ 0 → 0x200 ≤ place
    → value_read start logs (Some (read_at Word place))
    ≡ logged_byte start logs place + 256 * logged_byte start logs (place + 1)
word-read start logs place even above =
    let same : place / 2 * 2 ≡ place = omega (arith, even) in
    let memory : lies_in peripheral_region place ≡ false =
    and_right (nat_le 0 place) (nat_le place 0x1FF) (lt-leb place 0x1FF (omega (arith, above))) in
    ap (λ (p : ℕ). number_read start logs p Word) same
    ∙ (cond-false (lies_in peripheral_region place) _ _ memory
    ∙ ap (λ (p : ℕ). logged_byte start logs p + 256 * logged_byte start logs (p + 1)) same)

-- a word of the key
key_fixed : (i : ℕ) → i < 64 → takes_write (0x6A00 + i) ≡ false
key_fixed i within = grind (arith, nat_tests)

key_place : (i : ℕ) → i < 64 → lies_in key_region (0x6A00 + i) ≡ true
key_place i within = grind (arith, nat_tests)

key_byte : (device : Device) (logs : Logs) (i : ℕ) → i < 64
    → logged_byte (start_of device) logs (0x6A00 + i) ≡ slice_index device.key i
key_byte device logs i within =
    let number : 0x6A00 + i - 0x6A00 ≡ i = omega arith in
    cond-false (takes_write (0x6A00 + i)) _ _ (key_fixed i within)
    ∙ (cond-true (lies_in key_region (0x6A00 + i)) _ _ (key_place i within)
    ∙ ap (slice_index device.key) number)

pub key_word-read : (device : Device) (logs : Logs) (i : ℕ) → i < 32
    → value_read (start_of device) logs (Some (read_at Word (0x6A00 + 2 * i)))
    ≡ word_of_bytes device.key i
key_word-read device logs i within =
    let low = key_byte device logs (2 * i) (omega (arith, within)) in
    let next : 0x6A00 + 2 * i + 1 ≡ 0x6A00 + (2 * i + 1) = omega arith in
    let high = ap (logged_byte (start_of device) logs) next
    ∙ key_byte device logs (2 * i + 1) (omega (arith, within)) in
    word-read (start_of device) logs (0x6A00 + 2 * i) (omega arith) (omega arith)
    ∙ (λ j. low j + 256 * high j)
