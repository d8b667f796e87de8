-- Rules A1 and K3 hold in no step.
use Rattle.std.{proofs.{Common.{◌≡◌, ◌+◌, ◌*◌, ◌/◌, ◌<◌, ℕ, Bool, true, false, not, length, Option, Some, All, refl, sym, ◌∙◌, arith, lit≤}, lemmas.Bool.{cond_both, and_left, and_right, not_from_true, Decides.nat_tests}}, specs.Prelude.{◌==◌, ◌&&◌}}
use Rattle.word_arith.specs.declared.size.Size.TheVariants.{Word}
use Rattle.device_types.specs.{declared.{access.Access.TheVariants.Write, bounds.Bounds.Bounds, kind.Kind.Kind, rule.Rule.TheVariants.{A1, K3}}, Access.some_writes, Kind.is_boot, Map.{ROM_ENTRY, ROM_BODY}, ExecFlag.last_pc}
use Rattle.part_definitions.specs.{Attestation.{CallItem, KeyRead, MetadataRead, KeptRead, KeptWrite, DecisionWrite, DerivedKeyWrite, RegionRead, InnerDigestWrite, MacWrite, ReturnRead, region_words, bounds_read, decision_read, call_item, item_access, item_pc}, CpuRegister.sp_of, CpuState.cpu_pc, FirstRule.first_rule, MonitorRule.{in_rom, was_inside, leaves_stack_and_mac, breaks_a1, breaks_k3}}
use Rattle.device_trace.specs.{Trace.{Play, trace}, Logs.{Logs, vector_of, step_progress}, Progress.{Progress, Held, Runs, InCall, next_pc_of, kind_of, progress_within, access_of}, Signals.{step_kind, signals_at, signals_of}, Start.Start, Step.record_of}
use Rattle.trace_facts.{specs.Naming.NamesNeitherA1NorK3, proofs.{CallPlaces.{ItemFits, item_after-fits}, Sound.{IsSound, IsWithin, progress_within-right}, SoundPlay.{LogsAreSound, each_record}, BreaksNoRule.{atomicity_rule-none, first_rule-a1, first_rule-k3}}}

-- A1: the ROM is left at its exit alone
pub item_pc-in_rom : (item : CallItem) → in_rom (item_pc item) ≡ true
item_pc-in_rom (KeyRead i) =
    cond_both (i == 0) ROM_ENTRY ROM_BODY (λ pc. in_rom pc ≡ true) (λ first. refl) (λ other. refl)
item_pc-in_rom (MetadataRead i) = refl
item_pc-in_rom (KeptRead i) = refl
item_pc-in_rom (KeptWrite i) = refl
item_pc-in_rom DecisionWrite = refl
item_pc-in_rom (DerivedKeyWrite i) = refl
item_pc-in_rom (RegionRead i) = refl
item_pc-in_rom (InnerDigestWrite i) = refl
item_pc-in_rom (MacWrite i) = refl
item_pc-in_rom ReturnRead = refl

a1_false : (progress : Progress) (vector last : Option ℕ) → IsSound progress last
    → (was_inside last
    && not (in_rom (next_pc_of (progress_within progress (kind_of progress vector) vector)))
    && not (is_boot (kind_of progress vector))) ≡ false
a1_false Held vector last sound = and_right (was_inside last && not (in_rom 0)) false refl
a1_false (Runs cpu) vector last sound =
    and_left (was_inside last && _) _ (and_left (was_inside last) _ sound.0)
a1_false (InCall regs words) vector last sound =
    and_left (was_inside last && not (in_rom (item_pc (call_item words)))) _
    (and_right (was_inside last) (not (in_rom (item_pc (call_item words))))
    (not_from_true _ (item_pc-in_rom (call_item words))))

-- K3: a call writes to the exclusive stack and to the MAC
stack_word : (i : ℕ) → i < 16 → (number : ℕ)
    → leaves_stack_and_mac (Some (Write ((0x4000 + 2 * i) / 2 * 2) Word number)) ≡ false
stack_word i within number = grind (arith, nat_tests)

kept_word : (i : ℕ) → i < 2 → (number : ℕ)
    → leaves_stack_and_mac (Some (Write ((0x4060 + 2 * i) / 2 * 2) Word number)) ≡ false
kept_word i within number = grind (arith, nat_tests)

inner_word : (i : ℕ) → i < 16 → (number : ℕ)
    → leaves_stack_and_mac (Some (Write ((0x4020 + 2 * i) / 2 * 2) Word number)) ≡ false
inner_word i within number = grind (arith, nat_tests)

mac_word : (i : ℕ) → i < 16 → (number : ℕ)
    → leaves_stack_and_mac (Some (Write ((0x200 + 2 * i) / 2 * 2) Word number)) ≡ false
mac_word i within number = grind (arith, nat_tests)

pub item_writes-inside : (region count sp number : ℕ) (bounds : Bounds) (item : CallItem)
    → ItemFits region count item
    → (some_writes (Some (item_access sp bounds item number))
    && leaves_stack_and_mac (Some (item_access sp bounds item number))) ≡ false
item_writes-inside region count sp number bounds (KeyRead i) fits = refl
item_writes-inside region count sp number bounds (MetadataRead i) fits = refl
item_writes-inside region count sp number bounds (KeptRead i) fits = refl
item_writes-inside region count sp number bounds (KeptWrite i) fits =
    kept_word i fits.0 number
item_writes-inside region count sp number bounds DecisionWrite fits =
    mac_word 0 (lit≤ tt) number
item_writes-inside region count sp number bounds (DerivedKeyWrite i) fits =
    stack_word i fits.0 number
item_writes-inside region count sp number bounds (RegionRead i) fits = refl
item_writes-inside region count sp number bounds (InnerDigestWrite i) fits =
    inner_word i fits.0 number
item_writes-inside region count sp number bounds (MacWrite i) fits = mac_word i fits.0 number
item_writes-inside region count sp number bounds ReturnRead fits = refl

k3_false : (start : Start) (releases : ℕ) (kind : Kind) (progress : Progress)
    → IsWithin kind progress
    → (some_writes (access_of start releases kind progress)
    && leaves_stack_and_mac (access_of start releases kind progress)
    && in_rom (next_pc_of progress)) ≡ false
k3_false start releases kind Held within = refl
k3_false start releases kind (Runs cpu) within = and_right _ (in_rom (cpu_pc cpu)) within
k3_false start releases kind (InCall regs words) within =
    and_left _ _
    (item_writes-inside (region_words (bounds_read words)) (length words) (sp_of regs)
    (start.call_word releases (call_item words) words) (bounds_read words) (call_item words)
    (item_after-fits (region_words (bounds_read words)) (decision_read words) (length words)))

no_a1 : (start : Start) (logs : Logs) (reset : Bool) → LogsAreSound logs
    → first_rule (last_pc logs.records) (signals_of start logs reset) ≡ Some A1 → ⊥
unfolding signals_at
no_a1 start logs reset sound name =
    let holds : breaks_a1 (last_pc logs.records) (signals_of start logs reset) ≡ true =
    first_rule-a1 (last_pc logs.records) (signals_of start logs reset) name in
    let fails : breaks_a1 (last_pc logs.records) (signals_of start logs reset) ≡ false =
    a1_false logs.progress (vector_of logs) (last_pc logs.records) sound in
    let clash : true ≡ false = sym holds ∙ fails in
    cc

no_k3 : (start : Start) (logs : Logs) (reset : Bool) → LogsAreSound logs
    → first_rule (last_pc logs.records) (signals_of start logs reset) ≡ Some K3 → ⊥
unfolding signals_at
no_k3 start logs reset sound name =
    let both = first_rule-k3 (last_pc logs.records) (signals_of start logs reset) name in
    let atomicity =
    atomicity_rule-none (last_pc logs.records) (signals_of start logs reset) both.0 in
    let within : IsWithin (step_kind logs) (step_progress logs (step_kind logs)) =
    progress_within-right logs.progress (vector_of logs) (last_pc logs.records) sound
    atomicity.a2 in
    let fails : breaks_k3 (signals_of start logs reset) ≡ false =
    k3_false start (length logs.released_words) (step_kind logs)
    (step_progress logs (step_kind logs)) within in
    let clash : true ≡ false = sym both.1 ∙ fails in
    cc

record_of-names_neither : (start : Start) (logs : Logs) (reset : Bool) → LogsAreSound logs
    → NamesNeitherA1NorK3 (record_of start logs reset)
unfolding record_of
record_of-names_neither start logs reset sound =
    record { a1 = no_a1 start logs reset sound; k3 = no_k3 start logs reset sound }

pub trace-names_neither : (start : Start) (play : Play)
    → All NamesNeitherA1NorK3 (trace start play)
trace-names_neither start =
    each_record NamesNeitherA1NorK3 start (record_of-names_neither start)
