-- What holds of the progress between two steps: where the processor runs, the last step was not
-- inside the ROM, and an instruction or an interrupt entry that has begun is not in the ROM either.
use Rattle.std.{proofs.{Common.{◌≡◌, ℕ, Bool, true, false, List, Option, Some, None, refl, not}, lemmas.Bool.{cond_both, and_from, and_left, not_from_false}}, specs.Prelude.{◌==◌, ◌&&◌, is_some}}
use Rattle.device_types.specs.{declared.{access.Access.Access, kind.Kind.{Kind, TheVariants.{Boot, Cpu, Idle, Irq, Rom}}}, Map.ROM_ENTRY}
use Rattle.part_definitions.specs.{Attestation.{CallItem, KeyRead, MetadataRead, KeptRead, KeptWrite, DecisionWrite, DerivedKeyWrite, RegionRead, InnerDigestWrite, MacWrite, ReturnRead, call_item, item_pc, is_return, word_passed}, CpuRegister.{pc_of, is_asleep}, CpuState.{CpuState, Boundary, Executing, Entering, cpu_pc, with_value, completion_or}, NextAccess.{Next, Asks, Completes}, MonitorRule.{in_rom, was_inside}}
use Rattle.device_trace.specs.Progress.{Progress, Held, Runs, InCall, next_pc_of, boundary_kind, kind_of, progress_from_boundary, progress_within, after_return, call_after, cpu_state_after, next_progress}
use Rattle.trace_facts.proofs.EachPlay.{cpu_state_after-kept}

-- code that has begun is outside the ROM
abbrev pub IsOutside : CpuState → Type 0
IsOutside (Boundary regs) = Unit {0}
IsOutside (Executing regs values) = in_rom (pc_of regs) ≡ false
IsOutside (Entering regs vector values) = in_rom (pc_of regs) ≡ false

-- of a progress and the `pc` of the last record
abbrev pub IsSound : Progress → Option ℕ → Type 0
IsSound Held last = Unit {0}
IsSound (Runs cpu) last = (was_inside last ≡ false) × IsOutside cpu
IsSound (InCall regs words) last = Unit {0}

-- rule A2, of a `pc` and the one before it
abbrev pub enters_wrongly : Option ℕ → ℕ → Bool
enters_wrongly last pc = in_rom pc && not (pc == ROM_ENTRY) && not (was_inside last)

-- within a step that does not break A2: a boot, an access of code outside the ROM, or one of a call
abbrev pub IsWithin : Kind → Progress → Type 0
IsWithin kind Held = kind ≡ Boot
IsWithin kind (Runs cpu) = in_rom (cpu_pc cpu) ≡ false
IsWithin kind (InCall regs words) = kind ≡ Rom

rom_code_refused : (last : Option ℕ) (pc : ℕ)
    → was_inside last ≡ false → (pc == ROM_ENTRY) ≡ false → in_rom pc ≡ true
    → enters_wrongly last pc ≡ false → ⊥
rom_code_refused last pc before other inside right =
    let wrong : enters_wrongly last pc ≡ true =
    and_from (in_rom pc && not (pc == ROM_ENTRY)) (not (was_inside last))
    (and_from (in_rom pc) (not (pc == ROM_ENTRY)) inside (not_from_false _ other))
    (not_from_false _ before) in
    cc

-- at a boundary
abbrev StepsRightly : List ℕ → Option ℕ → Option ℕ → Kind → Type 0
StepsRightly regs vector last kind =
    enters_wrongly last (next_pc_of (progress_from_boundary regs kind vector)) ≡ false
    → IsWithin kind (progress_from_boundary regs kind vector)

irq_rightly : (regs : List ℕ) (vector last : Option ℕ) → in_rom (pc_of regs) ≡ false
    → StepsRightly regs vector last Irq
irq_rightly regs None last outside right = outside
irq_rightly regs (Some vector) last outside right = outside

boundary_rightly : (regs : List ℕ) (vector last : Option ℕ)
    → was_inside last ≡ false → StepsRightly regs vector last (boundary_kind regs vector)
boundary_rightly regs vector last before =
    cond_both (pc_of regs == ROM_ENTRY) Rom _ (StepsRightly regs vector last) (λ entry right. refl)
    (λ other.
    cond_both (in_rom (pc_of regs)) Cpu _ (StepsRightly regs vector last)
    (λ inside right. absurd (rom_code_refused last (pc_of regs) before other inside right))
    (λ outside.
    cond_both (is_some vector) Irq _ (StepsRightly regs vector last)
    (λ asks. irq_rightly regs vector last outside)
    (λ none.
    cond_both (is_asleep regs) Idle Cpu (StepsRightly regs vector last) (λ asleep right. outside)
    (λ awake right. outside))))

pub progress_within-right : (progress : Progress) (vector last : Option ℕ)
    → IsSound progress last
    → enters_wrongly last (next_pc_of (progress_within progress (kind_of progress vector) vector))
    ≡ false
    → IsWithin (kind_of progress vector) (progress_within progress (kind_of progress vector) vector)
progress_within-right Held vector last sound right = refl
progress_within-right (Runs (Boundary regs)) vector last sound right =
    boundary_rightly regs vector last sound.0 right
progress_within-right (Runs (Executing regs values)) vector last sound right = sound.1
progress_within-right (Runs (Entering regs choice values)) vector last sound right = sound.1
progress_within-right (InCall regs words) vector last sound right = refl

-- after a step
outside_of : (cpu : CpuState) → in_rom (cpu_pc cpu) ≡ false → IsOutside cpu
outside_of (Boundary regs) outside = tt
outside_of (Executing regs values) outside = outside
outside_of (Entering regs vector values) outside = outside

with_value-outside : (cpu : CpuState) (value : ℕ) → in_rom (cpu_pc cpu) ≡ false
    → IsOutside (with_value cpu value)
with_value-outside (Boundary regs) value outside = outside
with_value-outside (Executing regs values) value outside = outside
with_value-outside (Entering regs vector values) value outside = outside

completion_or-outside : (cpu : CpuState) (next : Next) → IsOutside cpu
    → IsOutside (completion_or cpu next)
completion_or-outside cpu (Asks access) outside = outside
completion_or-outside cpu (Completes regs) outside = tt

cpu_state_after-outside : (kind : Kind) (cpu : CpuState) (value : ℕ)
    → in_rom (cpu_pc cpu) ≡ false → IsOutside (cpu_state_after kind cpu value)
cpu_state_after-outside kind cpu value outside =
    cpu_state_after-kept IsOutside kind cpu value (outside_of cpu outside)
    (completion_or-outside (with_value cpu value) _ (with_value-outside cpu value outside))

return_pc : (item : CallItem) → is_return item ≡ true → was_inside (Some (item_pc item)) ≡ false
return_pc (KeyRead i) returns = absurd (cc)
return_pc (MetadataRead i) returns = absurd (cc)
return_pc (KeptRead i) returns = absurd (cc)
return_pc (KeptWrite i) returns = absurd (cc)
return_pc DecisionWrite returns = absurd (cc)
return_pc (DerivedKeyWrite i) returns = absurd (cc)
return_pc (RegionRead i) returns = absurd (cc)
return_pc (InnerDigestWrite i) returns = absurd (cc)
return_pc (MacWrite i) returns = absurd (cc)
return_pc ReturnRead returns = refl

call_after-sound : (regs words : List ℕ) (word : ℕ)
    → IsSound (call_after regs words word) (Some (item_pc (call_item words)))
call_after-sound regs words word =
    cond_both (is_return (call_item words)) (after_return regs word) _
    (λ progress. IsSound progress (Some (item_pc (call_item words))))
    (λ returns. (return_pc (call_item words) returns, tt))
    (λ goes_on. tt)

pub next_progress-sound : (kind : Kind) (progress : Progress) (access : Option Access) (value : ℕ)
    → IsWithin kind progress
    → IsSound (next_progress kind progress access value) (Some (next_pc_of progress))
next_progress-sound kind Held access value within = (refl, tt)
next_progress-sound kind (Runs cpu) access value within =
    (and_left (in_rom (cpu_pc cpu)) _ within, cpu_state_after-outside kind cpu value within)
next_progress-sound kind (InCall regs words) access value within =
    call_after-sound regs words (word_passed access value)
