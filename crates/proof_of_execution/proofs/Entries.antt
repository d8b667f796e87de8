-- How the executable region is entered: by an opcode fetch, or asleep, and then sleep lasts.
use Rattle.std.{proofs.{Common.{◌≡◌, ℕ, ◌*◌, ◌/◌, ◌<◌, true, false, List, [], ◌⊎◌, inl, inr, Option, Some, None, refl, ap, sym, ◌∙◌, arith, subst}, lemmas.Bool.{cond_both, cond-true, cond-false, eqb-true, false_from_ne_true}}, specs.Prelude.{◌==◌, ◌&&◌, is_some}}
use Rattle.device_types.specs.{declared.{access.Access.Access, bounds.Bounds.Bounds, kind.Kind.{Kind, TheVariants.{Cpu, Idle, Irq, Rom}}}, Bounds.{are_valid, executable_region}, Kind.is_cpu, Map.{lies_in, ROM_ENTRY}, ExecFlag.{fetches_at, ran_inside}}
use Rattle.part_definitions.{specs.{Attestation.{call_item, item_pc}, CpuRegister.{pc_of, is_asleep}, CpuState.{Boundary, Executing, Entering}, MonitorRule.in_rom, NextAccess.next_access}, proofs.CallItems.first_pc}
use Rattle.device_trace.specs.{Progress.{Progress, Held, Runs, InCall, next_pc_of, boundary_kind, kind_of, progress_from_boundary, progress_within, tells_irq, access_of, next_progress}, Start.Start}
use Rattle.trace_facts.proofs.{Fresh.IsFresh, NeverBroken.item_pc-in_rom}
use Rattle.proof_of_execution.proofs.Regions.{inside-open, min-inside, min-even}

-- at a boundary the next step has the PC of the registers, whatever it is
pub boundary-pc : (regs : List ℕ) (vector : Option ℕ)
    → next_pc_of (progress_from_boundary regs (boundary_kind regs vector) vector) ≡ pc_of regs
boundary-pc regs None =
    let Claim : Kind → Type 0 =
    λ kind. next_pc_of (progress_from_boundary regs kind None) ≡ pc_of regs in
    cond_both (pc_of regs == ROM_ENTRY) Rom _ Claim
    (λ entry. first_pc ∙ sym (eqb-true (pc_of regs) ROM_ENTRY entry))
    (λ other. cond_both (in_rom (pc_of regs)) Cpu _ Claim (λ rom. refl)
    (λ outside. cond_both (is_asleep regs) Idle Cpu Claim (λ asleep. refl) (λ awake. refl)))
boundary-pc regs (Some vector) =
    let Claim : Kind → Type 0 =
    λ kind. next_pc_of (progress_from_boundary regs kind (Some vector)) ≡ pc_of regs in
    cond_both (pc_of regs == ROM_ENTRY) Rom _ Claim
    (λ entry. first_pc ∙ sym (eqb-true (pc_of regs) ROM_ENTRY entry))
    (λ other. cond_both (in_rom (pc_of regs)) Cpu Irq Claim (λ rom. refl) (λ outside. refl))

-- asleep at the first place of the region
pub record Sleeps (bounds : Bounds) (progress : Progress) : Type 0 where
  pub regs : List ℕ
  pub is_runs : progress ≡ Runs (Boundary regs)
  pub asleep : is_asleep regs ≡ true
  pub at_start : pc_of regs ≡ bounds.er_min

-- a step of this kind into the region fetches an opcode, or sleeps there
abbrev Enters : Start → ℕ → Bounds → Kind → Progress → Type 0
Enters start releases bounds kind progress =
    ((is_cpu kind && fetches_at (access_of start releases kind progress) (next_pc_of progress))
    ≡ true)
    ⊎ ((access : Option Access) (value : ℕ)
    → Sleeps bounds (next_progress kind progress access value))

rom_apart : {P : Type 0} (bounds : Bounds) (pc : ℕ) → are_valid bounds ≡ true
    → lies_in (executable_region bounds) pc ≡ true → in_rom pc ≡ true → P
rom_apart bounds pc valid within rom =
    let apart = (inside-open bounds pc valid within).0 in
    let clash : true ≡ false = sym rom ∙ apart in
    absurd (cc)

boundary_enters : (start : Start) (releases : ℕ) (bounds : Bounds) (regs : List ℕ)
    → are_valid bounds ≡ true
    → lies_in (executable_region bounds)
    (next_pc_of (progress_from_boundary regs (boundary_kind regs None) None)) ≡ true
    → (next_pc_of (progress_from_boundary regs (boundary_kind regs None) None) == bounds.er_min)
    ≡ true
    → Enters start releases bounds (boundary_kind regs None)
    (progress_from_boundary regs (boundary_kind regs None) None)
unfolding next_access
boundary_enters start releases bounds regs valid =
    let Claim : Kind → Type 0 =
    λ kind. lies_in (executable_region bounds) (next_pc_of (progress_from_boundary regs kind None))
    ≡ true
    → (next_pc_of (progress_from_boundary regs kind None) == bounds.er_min) ≡ true
    → Enters start releases bounds kind (progress_from_boundary regs kind None) in
    cond_both (pc_of regs == ROM_ENTRY) Rom _ Claim
    (λ entry within place.
    rom_apart bounds (item_pc (call_item [])) valid within (item_pc-in_rom (call_item [])))
    (λ other.
    cond_both (in_rom (pc_of regs)) Cpu _ Claim
    (λ rom within place. rom_apart bounds (pc_of regs) valid within rom)
    (λ outside.
    cond_both (is_asleep regs) Idle Cpu Claim
    (λ asleep within place. inr (λ access value. record {
      regs = regs;
      is_runs = refl;
      asleep = asleep;
      at_start = eqb-true (pc_of regs) bounds.er_min place;
    }))
    (λ awake within place.
    let same : pc_of regs ≡ bounds.er_min = eqb-true (pc_of regs) bounds.er_min place in
    inl (ap (λ (pc : ℕ). pc / 2 * 2 == pc) same ∙ min-even bounds valid))))

last_inside : {P : Type 0} (bounds : Bounds) (pc : ℕ) (last : Option ℕ)
    → last ≡ Some pc → lies_in (executable_region bounds) pc ≡ true
    → ran_inside last (executable_region bounds) ≡ false → P
last_inside bounds pc last is_last within outside =
    let inside : ran_inside last (executable_region bounds) ≡ true =
    ap (λ (l : Option ℕ). ran_inside l (executable_region bounds)) is_last ∙ within in
    let clash : true ≡ false = sym inside ∙ outside in
    absurd (cc)

pub region_entered : (start : Start) (releases : ℕ) (bounds : Bounds) (progress : Progress)
    (vector last : Option ℕ)
    → are_valid bounds ≡ true → IsFresh progress last
    → lies_in (executable_region bounds)
    (next_pc_of (progress_within progress (kind_of progress vector) vector)) ≡ true
    → (next_pc_of (progress_within progress (kind_of progress vector) vector) == bounds.er_min)
    ≡ true
    → ran_inside last (executable_region bounds) ≡ false
    → (tells_irq progress && is_some vector) ≡ false
    → Enters start releases bounds (kind_of progress vector)
    (progress_within progress (kind_of progress vector) vector)
region_entered start releases bounds Held vector last valid fresh within place outside quiet =
    absurd (let above : 0 < 0 = (inside-open bounds 0 valid within).1 in omega arith)
region_entered start releases bounds
    (Runs (Boundary regs)) None last valid fresh within place outside quiet =
    boundary_enters start releases bounds regs valid within place
region_entered start releases bounds (Runs (Boundary regs))
    (Some vector) last valid fresh within place outside quiet =
    absurd (cc)
region_entered start releases bounds
    (Runs (Executing regs values)) vector last valid fresh within place outside quiet =
    last_inside bounds (pc_of regs) last fresh within outside
region_entered start releases bounds
    (Runs (Entering regs choice values)) vector last valid fresh within place outside quiet =
    last_inside bounds (pc_of regs) last fresh within outside
region_entered start releases bounds
    (InCall regs words) vector last valid fresh within place outside quiet =
    rom_apart bounds (item_pc (call_item words)) valid within (item_pc-in_rom (call_item words))

-- a step of one who sleeps there
asleep_kind : (regs : List ℕ) → in_rom (pc_of regs) ≡ false → is_asleep regs ≡ true
    → boundary_kind regs None ≡ Idle
asleep_kind regs outside asleep =
    cond-false (pc_of regs == ROM_ENTRY) Rom _ (not_entry (pc_of regs) outside)
    ∙ (cond-false (in_rom (pc_of regs)) Cpu _ outside ∙ cond-true (is_asleep regs) Idle Cpu asleep)
  where
    entry_inside : (pc : ℕ) → (pc == ROM_ENTRY) ≡ true → in_rom pc ≡ true
    entry_inside pc entry = ap in_rom (eqb-true pc ROM_ENTRY entry)

    not_entry : (pc : ℕ) → in_rom pc ≡ false → (pc == ROM_ENTRY) ≡ false
    not_entry pc outside =
        false_from_ne_true (pc == ROM_ENTRY)
        (λ entry. let clash : true ≡ false = sym (entry_inside pc entry) ∙ outside in cc)

pub record SleepsOn (bounds : Bounds) (progress : Progress) (vector : Option ℕ) : Type 0 where
  pub inside : lies_in (executable_region bounds)
      (next_pc_of (progress_within progress (kind_of progress vector) vector)) ≡ true
  pub next : (access : Option Access) (value : ℕ)
      → Sleeps bounds
      (next_progress (kind_of progress vector)
      (progress_within progress (kind_of progress vector) vector) access value)

sleeper : (bounds : Bounds) (regs : List ℕ) (vector : Option ℕ)
    → is_asleep regs ≡ true → pc_of regs ≡ bounds.er_min
    → lies_in (executable_region bounds) (pc_of regs) ≡ true
    → in_rom (pc_of regs) ≡ false
    → (is_some vector
    && lies_in (executable_region bounds)
    (next_pc_of (progress_from_boundary regs (boundary_kind regs vector) vector)))
    ≡ false
    → SleepsOn bounds (Runs (Boundary regs)) vector
sleeper bounds regs (Some vector) asleep at_start within outside quiet =
    let inside =
    ap (lies_in (executable_region bounds)) (boundary-pc regs (Some vector)) ∙ within in
    let clash : true ≡ false = sym inside ∙ quiet in
    absurd (cc)
sleeper bounds regs None asleep at_start within outside quiet =
    let idle : boundary_kind regs None ≡ Idle = asleep_kind regs outside asleep in
    let same : Sleeps bounds (Runs (Boundary regs)) =
    record { regs = regs; is_runs = refl; asleep = asleep; at_start = at_start } in
    record {
      inside = ap (lies_in (executable_region bounds)) (boundary-pc regs None) ∙ within;
      next = λ access value.
          subst
          (λ (kind : Kind). Sleeps bounds
          (next_progress kind (progress_from_boundary regs kind None) access value))
          (sym idle) same;
    }

pub sleep_lasts : (bounds : Bounds) (progress : Progress) (vector : Option ℕ)
    → are_valid bounds ≡ true
    → Sleeps bounds progress
    → ((tells_irq progress && is_some vector)
    && lies_in (executable_region bounds)
    (next_pc_of (progress_within progress (kind_of progress vector) vector)))
    ≡ false
    → SleepsOn bounds progress vector
sleep_lasts bounds progress vector valid sleeps quiet =
    let within = min-inside bounds valid in
    subst
    (λ (p : Progress). ((tells_irq p && is_some vector)
    && lies_in (executable_region bounds)
    (next_pc_of (progress_within p (kind_of p vector) vector))) ≡ false
    → SleepsOn bounds p vector)
    (sym sleeps.is_runs)
    (λ silent.
    sleeper bounds sleeps.regs vector sleeps.asleep sleeps.at_start
    (ap (lies_in (executable_region bounds)) sleeps.at_start ∙ within)
    (ap in_rom sleeps.at_start ∙ (inside-open bounds bounds.er_min valid within).0) silent)
    quiet
