-- What a calm step does not do.
use Rattle.std.{proofs.{Common.{◌≡◌, ◌∙◌, ◌+◌, ◌==◌, ◌&&◌, ◌||◌, ℕ, Bool, true, false, not, List, [], ◌∷◌, ◌++◌, Option, None, Some, refl, sym, ap, arith}, lemmas.Bool.{and_right, Decides.nat_tests}}, specs.{Prelude.{nat_le, nat_lt, option_to_list}, List.list_any}}
use Rattle.word_arith.specs.{declared.size.Size.{Size, TheVariants.{Byte, Word}}}
use Rattle.device_types.specs.{declared.{access.Access.{Access, TheVariants.{Fetch, Read, Write}}, bounds.Bounds.Bounds, bus_record.BusRecord.BusRecord, kind.Kind.TheVariants.Cpu, region.Region.Region, signals.Signals.Signals}, Access.{some_writes, without_number}, Bounds.{executable_region, output_region}, ExecFlag.{fetches_outside, ran_at, ran_inside, writes_to}, Map.{is_within, key_region, lies_in, metadata_region, ram_region, rom_region, stack_region, timer_region, serial_region, dma_region, touches, some_touches, ROM_EXIT}, TraceFlag.{IsRecordOf, is_quiet}}
use Rattle.part_definitions.specs.{CpuRegister.Registers, CpuState.{Boundary, Executing, Entering}, FirstRule.{first_rule, breaks_i1}, MonitorRule.{atomicity_rule, key_rule, in_rom, leaves_stack_and_mac, was_inside}, Dma.{DmaEvent, Store as DmaStore}, Serial.{SerialEvent, byte_sent}, Timer.{TimerEvent, Store as TimerStore, Tick}}
use Rattle.device_trace.specs.{Logs.{Logs, peripherals_after, vector_of, vector_taken}, Peripherals.{serial_after, with_store}, Progress.{Progress, Held, InCall, Runs}, Step.record_from, Text.byte_sent_by}
use Rattle.device_core.specs.{Calm.{IsCalm, is_above_rom, is_calm_access, is_free}, Silence.has_line}

-- no byte of an access to free RAM is here
abbrev pub is_beside : Region → Bool
is_beside region =
    nat_le region.last metadata_region.last || nat_lt (ram_region.last + 1) region.first

above-beside : (code : Region) → is_above_rom code ≡ true → is_beside code ≡ true
above-beside code above = grind (arith, nat_tests)

free-missed : (region : Region) (place : ℕ)
    → is_beside region ≡ true → is_free place ≡ true → lies_in region place ≡ false
free-missed region place beside free = grind (arith, nat_tests)

next-missed : (region : Region) (place : ℕ)
    → is_beside region ≡ true → is_free place ≡ true → lies_in region (place + 1) ≡ false
next-missed region place beside free = grind (arith, nat_tests)

above-missed : (region : Region) (place : ℕ)
    → nat_le region.last rom_region.last ≡ true → nat_lt rom_region.last place ≡ true
    → lies_in region place ≡ false
above-missed region place below above = grind (arith, nat_tests)

next-above : (region : Region) (place : ℕ)
    → nat_le region.last rom_region.last ≡ true → nat_lt rom_region.last place ≡ true
    → lies_in region (place + 1) ≡ false
next-above region place below above = grind (arith, nat_tests)

code-missed : (code region : Region) (place : ℕ)
    → is_above_rom code ≡ true → nat_le region.last rom_region.last ≡ true
    → lies_in code place ≡ true
    → lies_in region place ≡ false
code-missed code region place above below inside = grind (arith, nat_tests)

above-exit : (code : Region) (pc : ℕ)
    → is_above_rom code ≡ true → lies_in code pc ≡ true → (pc == ROM_EXIT) ≡ false
above-exit code pc above inside = grind (arith, nat_tests)

-- a write to free RAM
free-write : (region : Region) (place number : ℕ) (size : Size)
    → is_beside region ≡ true → is_free place ≡ true
    → touches (Write place size number) region ≡ false
free-write region place number Byte beside free = rw (free-missed region place beside free) refl
free-write region place number Word beside free =
    rw (free-missed region place beside free, next-missed region place beside free) refl

-- a read there
free-read : (region : Region) (place : ℕ) (size : Size)
    → is_beside region ≡ true → is_free place ≡ true → touches (Read place size) region ≡ false
free-read region place Byte beside free = rw (free-missed region place beside free) refl
free-read region place Word beside free =
    rw (free-missed region place beside free, next-missed region place beside free) refl

above-read : (region : Region) (place : ℕ) (size : Size)
    → nat_le region.last rom_region.last ≡ true → nat_lt rom_region.last place ≡ true
    → touches (Read place size) region ≡ false
above-read region place Byte below above = rw (above-missed region place below above) refl
above-read region place Word below above =
    rw (above-missed region place below above, next-above region place below above) refl

plain-read : (region : Region) (place : ℕ) (size : Size) (free above : Bool)
    → is_free place ≡ free → nat_lt rom_region.last place ≡ above
    → is_beside region ≡ true → nat_le region.last rom_region.last ≡ true
    → (free || above) ≡ true
    → touches (Read place size) region ≡ false
plain-read region place size true above is high beside below plain =
    free-read region place size beside is
plain-read region place size false true is high beside below plain =
    above-read region place size below high
plain-read region place size false false is high beside below plain = absurd cc

within-parts : (first second : Bool)
    → (first && (second && true)) ≡ true → (first ≡ true) × (second ≡ true)
within-parts true true within = (refl, refl)
within-parts true false within = absurd cc
within-parts false second within = absurd cc

code-fetch : (code region : Region) (place : ℕ)
    → is_above_rom code ≡ true → nat_le region.last rom_region.last ≡ true
    → is_within (Fetch place) code ≡ true
    → touches (Fetch place) region ≡ false
code-fetch code region place above below within =
    let both = within-parts (lies_in code place) (lies_in code (place + 1)) within in
    rw (
      code-missed code region place above below both.0,
      code-missed code region (place + 1) above below both.1,
    )
    refl

-- a calm access touches no region below the end of the ROM but RAM above the metadata
pub calm-missed : (code region : Region) (access : Option Access)
    → is_above_rom code ≡ true → is_beside region ≡ true
    → nat_le region.last rom_region.last ≡ true
    → is_calm_access code access ≡ true
    → some_touches access region ≡ false
calm-missed code region None above beside below plain = refl
calm-missed code region (Some (Fetch place)) above beside below plain =
    code-fetch code region place above below plain
calm-missed code region (Some (Read place size)) above beside below plain =
    plain-read region place size (is_free place) (nat_lt rom_region.last place) refl refl beside
    below plain
calm-missed code region (Some (Write place size number)) above beside below plain =
    free-write region place number size beside plain

last-false : (first second third : Bool) → third ≡ false → (first && second && third) ≡ false
last-false true true third is = is
last-false true false third is = refl
last-false false second third is = refl

was-outside : (code : Region) (last : Option ℕ)
    → is_above_rom code ≡ true → ran_inside last code ≡ true → was_inside last ≡ false
was-outside code None above ran = refl
was-outside code (Some pc) above ran = rw (code-missed code rom_region pc above refl ran) refl

-- it breaks no rule
pub calm-unbroken : (code : Region) (last : Option ℕ) (now : Signals)
    → is_above_rom code ≡ true → ran_inside last code ≡ true → IsCalm code now
    → breaks_i1 now ≡ false
    → first_rule last now ≡ None
unfolding first_rule key_rule atomicity_rule
calm-unbroken code last now above ran calm legal =
    let outside : in_rom now.pc ≡ false =
    code-missed code rom_region now.pc above refl calm.inside in
    rw (
      calm.unasked,
      calm.uninterrupted,
      calm.alone,
      legal,
      calm-missed code key_region now.cpu above refl refl calm.plain,
      calm-missed code stack_region now.cpu above refl refl calm.plain,
      last-false (some_writes now.cpu) (leaves_stack_and_mac now.cpu) (in_rom now.pc) outside,
      outside,
      above-exit code now.pc above calm.inside,
      was-outside code last above ran,
    )
    refl

-- it sends no byte
calm-unsent : (code : Region) (access : Option Access)
    → is_calm_access code access ≡ true → byte_sent_by None access ≡ None
calm-unsent code None plain = refl
calm-unsent code (Some (Fetch place)) plain = refl
calm-unsent code (Some (Read place size)) plain = refl
calm-unsent code (Some (Write place size number)) plain = free-unsent place size number plain
  where
    free-unsent : (place : ℕ) (size : Size) (number : ℕ)
        → is_free place ≡ true → byte_sent place size number ≡ None
    free-unsent place Byte number free = grind (arith, nat_tests)
    free-unsent place Word number free = grind (arith, nat_tests)

pub calm-silent : (code : Region) (now : Signals) (regs : Registers) (value dma_value : ℕ)
    → IsCalm code now → has_line (record_from regs now None value dma_value) ≡ false
calm-silent code now regs value dma_value calm =
    rw (calm-unsent code now.cpu calm.plain, calm.by_processor) refl

-- nobody has an access to a peripheral
untaken : (progress : Progress) (vector : Option ℕ) → vector_taken progress Cpu vector ≡ None
untaken Held vector = refl
untaken (Runs (Boundary regs)) vector = refl
untaken (Runs (Executing regs values)) vector = refl
untaken (Runs (Entering regs other values)) vector = refl
untaken (InCall regs words) vector = refl

timer-alone : (code : Region) (access : Option Access) (events : List TimerEvent)
    → is_calm_access code access ≡ true → with_store timer_region TimerStore access events ≡ events
timer-alone code None events plain = refl
timer-alone code (Some (Fetch place)) events plain = refl
timer-alone code (Some (Read place size)) events plain = refl
timer-alone code (Some (Write place size number)) events plain =
    rw (free-missed timer_region place refl plain) refl

dma-alone : (code : Region) (access : Option Access) (events : List DmaEvent)
    → is_calm_access code access ≡ true → with_store dma_region DmaStore access events ≡ events
dma-alone code None events plain = refl
dma-alone code (Some (Fetch place)) events plain = refl
dma-alone code (Some (Read place size)) events plain = refl
dma-alone code (Some (Write place size number)) events plain =
    rw (free-missed dma_region place refl plain) refl

read-place : (place : ℕ)
    → (is_free place || nat_lt rom_region.last place) ≡ true → lies_in serial_region place ≡ false
read-place place plain = grind (arith, nat_tests)

fetch-place : (code : Region) (place : ℕ)
    → is_above_rom code ≡ true → is_within (Fetch place) code ≡ true
    → lies_in serial_region place ≡ false
fetch-place code place above within =
    code-missed code serial_region place above refl
    (within-parts (lies_in code place) (lies_in code (place + 1)) within).0

serial-alone : (code : Region) (access : Option Access) (events : List SerialEvent)
    → is_above_rom code ≡ true → is_calm_access code access ≡ true
    → serial_after None access events ≡ events
serial-alone code None events above plain = refl
serial-alone code (Some (Fetch place)) events above plain =
    rw (fetch-place code place above plain) refl
serial-alone code (Some (Read place size)) events above plain = rw (read-place place plain) refl
serial-alone code (Some (Write place size number)) events above plain =
    rw (free-missed serial_region place refl plain) refl

pub calm-peripherals :
    (code : Region) (logs : Logs) (now : Signals) (regs : Registers) (value dma_value : ℕ)
    → is_above_rom code ≡ true → IsCalm code now
    → peripherals_after logs (record_from regs now None value dma_value)
    ≡ record {
      timer = Tick ∷ logs.peripherals.timer;
      serial = logs.peripherals.serial;
      dma = logs.peripherals.dma;
      pins = logs.peripherals.pins;
    }
calm-peripherals code logs now regs value dma_value above calm =
    rw (
      calm.by_processor,
      calm.alone,
      untaken logs.progress (vector_of logs),
      timer-alone code now.cpu logs.peripherals.timer calm.plain,
      serial-alone code now.cpu logs.peripherals.serial above calm.plain,
      dma-alone code now.cpu logs.peripherals.dma calm.plain,
    )
    refl

-- it writes to no region that is beside free RAM
pub calm-writes : (code region : Region) (access : Option Access)
    → is_beside region ≡ true → is_calm_access code access ≡ true
    → list_any (writes_to region) (option_to_list access ++ []) ≡ false
calm-writes code region None beside plain = refl
calm-writes code region (Some (Fetch place)) beside plain = refl
calm-writes code region (Some (Read place size)) beside plain = refl
calm-writes code region (Some (Write place size number)) beside plain =
    rw (free-write region place number size beside plain) refl

calm-fetches : (code : Region) (access : Option Access)
    → is_calm_access code access ≡ true
    → list_any (fetches_outside code) (option_to_list access ++ []) ≡ false
calm-fetches code None plain = refl
calm-fetches code (Some (Fetch place)) plain = rw plain refl
calm-fetches code (Some (Read place size)) plain = refl
calm-fetches code (Some (Write place size number)) plain = refl

-- the number of a write is not looked at
plain-number : (code : Region) (access : Option Access)
    → is_calm_access code (without_number access) ≡ is_calm_access code access
plain-number code None = refl
plain-number code (Some (Fetch place)) = refl
plain-number code (Some (Read place size)) = refl
plain-number code (Some (Write place size number)) = refl

none-number : (access : Option Access) → without_number access ≡ None → access ≡ None
none-number None none = refl
none-number (Some (Fetch place)) none = absurd cc
none-number (Some (Read place size)) none = absurd cc
none-number (Some (Write place size number)) none = absurd cc

pub calm-record : (code : Region) (now : Signals) (entry : BusRecord)
    → IsCalm code now → IsRecordOf now entry
    → (is_calm_access code entry.cpu ≡ true) × (entry.dma ≡ None) × (lies_in code entry.pc ≡ true)
calm-record code now entry calm is = (
  sym (plain-number code entry.cpu)
      ∙ ap (is_calm_access code) is.same_cpu
      ∙ plain-number code now.cpu
      ∙ calm.plain,
  none-number entry.dma (is.same_dma ∙ rw calm.alone refl),
  rw is.same_pc calm.inside,
)

-- in ER it is quiet
pub calm-quiet : (bounds : Bounds) (last : Option ℕ) (now : Signals) (entry : BusRecord)
    → is_above_rom (executable_region bounds) ≡ true
    → ran_inside last (executable_region bounds) ≡ true
    → IsCalm (executable_region bounds) now → IsRecordOf now entry
    → is_quiet last (record { entry = entry; bounds = bounds }) ≡ true
calm-quiet bounds last now entry above ran calm is =
    let code = executable_region bounds in
    let (plain, alone, inside) = calm-record code now entry calm is in
    rw (
      alone,
      ran,
      inside,
      is.unrefused,
      calm-writes code code entry.cpu (above-beside code above) plain,
      calm-writes code metadata_region entry.cpu refl plain,
      calm-fetches code entry.cpu plain,
      last-false (some_writes entry.cpu) (some_touches entry.cpu (output_region bounds)) false refl,
      and_right (not (ran_at last bounds.er_max)) false refl,
    )
    refl
