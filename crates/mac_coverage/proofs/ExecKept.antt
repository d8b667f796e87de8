-- A step of the ROM after another leaves the EXEC flag.
use Rattle.std.{proofs.{Common.{◌≡◌, ℕ, Bool, true, false, not, List, [], ◌∷◌, ◌++◌, append-nil, Option, Some, None, refl, ap, sym, ◌∙◌}, lemmas.Bool.{and_left, and_right, false_from_ne_true, or_from}}, specs.{Prelude.{◌==◌, ◌&&◌, ◌||◌, is_some, option_to_list, if◌then◌else◌}, List.list_any}}
use Rattle.device_types.{specs.{declared.{access.Access.Access, bus_record.BusRecord.BusRecord, kind.Kind.TheVariants.Rom, region.Region.Region, rule.Rule.Rule}, Access.{is_write, some_writes}, Bounds.{are_valid, executable_region, output_region}, Kind.is_cpu, Map.{some_touches, touches, metadata_region}, ExecFlag.{SeenRecord, accesses_in, writes_to, runs_inside, ran_inside, fetches_at, clears_e1, clears_e2, clears_e3, clears_e4, clears_e5, clears_e6, clears_e7, clears_e8, clears_e9, clears_both, clears, starts_run, last_pc, records_since, exec}}, proofs.ValidRange.{AreValidRanges, are_valid-ranges}}
use Rattle.part_definitions.specs.MonitorRule.{in_rom, leaves_stack_and_mac}
use Rattle.trace_facts.proofs.BoundsStay.{writes_nowhere}
use Rattle.mac_coverage.proofs.ValidPlaces.{rom_outside, writes_outside, writes_off_metadata}

-- a step of the ROM that was not refused: it writes to the stack and to the MAC alone, and the DMA
-- has no access
pub record IsRomStep (entry : BusRecord) : Type 0 where
  pub kind : entry.kind ≡ Rom
  pub code : in_rom entry.pc ≡ true
  pub none : entry.reset ≡ None
  pub no_dma : entry.dma ≡ None
  pub within : (some_writes entry.cpu && leaves_stack_and_mac entry.cpu) ≡ false

-- it writes to no place of a region that is apart
touches_nowhere : (region : Region) (access : Option Access)
    → ((one : Access) → leaves_stack_and_mac (Some one) ≡ false → touches one region ≡ false)
    → (some_writes access && leaves_stack_and_mac access) ≡ false
    → (some_writes access && some_touches access region) ≡ false
touches_nowhere region None apart within = refl
touches_nowhere region (Some access) apart within =
    off (is_write access) (leaves_stack_and_mac (Some access)) (touches access region) within
    (apart access)
  where
    off : (writes leaves hits : Bool) → (writes && leaves) ≡ false
        → (leaves ≡ false → hits ≡ false) → (writes && hits) ≡ false
    off true leaves hits none apart = apart none
    off false leaves hits none apart = refl

-- it runs outside ER
pub rom_step-outside : (now : SeenRecord) → IsRomStep now.entry → are_valid now.bounds ≡ true
    → runs_inside now ≡ false
rom_step-outside now step valid =
    rom_outside now.bounds.er_min now.bounds.er_max now.entry.pc
    (are_valid-ranges metadata_region now.bounds valid).executable step.code

-- and writes to no region that is apart
pub rom_step-apart : (now : SeenRecord) (region : Region) → IsRomStep now.entry
    → ((one : Access) → leaves_stack_and_mac (Some one) ≡ false → touches one region ≡ false)
    → list_any (writes_to region) (accesses_in now.entry) ≡ false
rom_step-apart now region step apart =
    ap (list_any (writes_to region))
    (ap (λ (dma : Option Access). option_to_list now.entry.cpu ++ option_to_list dma) step.no_dma
    ∙ append-nil (option_to_list now.entry.cpu))
    ∙ writes_nowhere now.entry.cpu region
    (touches_nowhere region now.entry.cpu apart step.within)

-- after a record in the ROM it clears neither flag
pub rom_step-keeps_both : (last : ℕ) (now : SeenRecord) → IsRomStep now.entry → in_rom last ≡ true
    → are_valid now.bounds ≡ true → clears_both (Some last) now ≡ false
rom_step-keeps_both last now step rom valid =
    let ranges : AreValidRanges metadata_region now.bounds =
    are_valid-ranges metadata_region now.bounds valid in
    let stays_out : runs_inside now ≡ false = rom_step-outside now step valid in
    let was_out : ran_inside (Some last) (executable_region now.bounds) ≡ false =
    rom_outside now.bounds.er_min now.bounds.er_max last ranges.executable rom in
    let no_write = λ (region : Region). rom_step-apart now region step in
    let off_code = λ (one : Access). writes_outside now.bounds.er_min now.bounds.er_max one
    ranges.executable in
    let off_output = λ (one : Access). writes_outside now.bounds.or_min now.bounds.or_max one
    ranges.output in
    let no_dma : (region : Region) → some_touches now.entry.dma region ≡ false =
    λ region. ap (λ (dma : Option Access). some_touches dma region) step.no_dma in
    let e1 : clears_e1 now ≡ false = no_write (executable_region now.bounds) off_code in
    let e2 : clears_e2 (Some last) now ≡ false =
    and_left _ (not (runs_inside now))
    (and_left (ran_inside (Some last) (executable_region now.bounds)) _ was_out) in
    let e5 : clears_e5 now ≡ false =
    and_left _ (not (runs_inside now))
    (touches_nowhere (output_region now.bounds) now.entry.cpu off_output step.within) in
    let e6 : clears_e6 now ≡ false =
    or_from _ _ (no_dma (executable_region now.bounds)) (no_dma (output_region now.bounds)) in
    let e7 : clears_e7 now ≡ false =
    and_right (is_some now.entry.dma) (runs_inside now) stays_out in
    let e8 : clears_e8 now ≡ false = and_left (runs_inside now) _ stays_out in
    let e9 : clears_e9 now ≡ false =
    or_from _ _ (no_write metadata_region writes_off_metadata)
    (ap (λ (rule : Option Rule). is_some rule) step.none) in
    or_from _ _ (or_from _ _ (or_from _ _ (or_from _ _ (or_from _ _ (or_from _ _ e1 e2) e5) e6) e7)
    e8) e9

rom_step-keeps : (last : ℕ) (now : SeenRecord) → IsRomStep now.entry → in_rom last ≡ true
    → are_valid now.bounds ≡ true → clears (Some last) now ≡ false
rom_step-keeps last now step rom valid =
    let stays_out = rom_step-outside now step valid in
    let e3 : clears_e3 (Some last) now ≡ false =
    and_left _ _ (and_left (runs_inside now) _ stays_out) in
    let e4 : clears_e4 now ≡ false = and_right now.entry.irq (runs_inside now) stays_out in
    or_from _ _ (or_from _ _ (rom_step-keeps_both last now step rom valid) e3) e4

-- nor does it start a run
pub rom_step-starts_none : (now : SeenRecord) → IsRomStep now.entry → starts_run now ≡ false
rom_step-starts_none now step =
    let not_cpu : is_cpu now.entry.kind ≡ false = ap is_cpu step.kind in
    and_left _ (are_valid now.bounds) (and_left _ (now.entry.pc == now.bounds.er_min)
    (and_left (is_cpu now.entry.kind) (fetches_at now.entry.cpu now.entry.pc) not_cpu))

pub kept_flag : (falls : Bool) (now : SeenRecord) (older : List SeenRecord) → starts_run now ≡ false
    → (list_any starts_run older ≡ true → falls ≡ false)
    → list_any starts_run (if falls then [] else now ∷ older) ≡ list_any starts_run older
kept_flag true now older starts keeps =
    sym (false_from_ne_true (list_any starts_run older)
    (λ set. let wrong : true ≡ false = keeps set in cc))
kept_flag false now older starts keeps = ap (λ (b : Bool). b || list_any starts_run older) starts

pub exec-rom_step : (last : ℕ) (now : SeenRecord) (before : List SeenRecord)
    → last_pc before ≡ Some last → IsRomStep now.entry → in_rom last ≡ true
    → (exec before ≡ true → are_valid now.bounds ≡ true)
    → exec (now ∷ before) ≡ exec before
unfolding exec
exec-rom_step last now before is_last step rom valid =
    kept_flag (clears (last_pc before) now) now (records_since clears before)
    (rom_step-starts_none now step)
    (λ set. ap (λ (pc : Option ℕ). clears pc now) is_last
    ∙ rom_step-keeps last now step rom (valid set))
