-- Where an interrupt entry leads: its steps have one PC, and then the handler's is next.
use Rattle.std.{proofs.{Common.{◌≡◌, ◌<◌, ◌≤◌, ◌*◌, ◌/◌, ℕ, true, List, [], ◌∷◌, length, Option, Some, None, refl, ap, ◌∙◌, arith}, lemmas.Bool.cond_both}, specs.Prelude.◌==◌}
use Rattle.device_types.specs.{declared.{access.Access.Access, bounds.Bounds.Bounds, kind.Kind.{Kind, TheVariants.{Boot, Cpu, Idle, Irq, Rom}}}, Access.some_reads, Bounds.{are_valid, executable_region}, Kind.is_irq, Map.{lies_in, ROM_ENTRY}}
use Rattle.part_definitions.specs.{Attestation.{call_item, is_return, word_passed}, CpuRegister.{pc_of, is_asleep}, CpuState.{CpuState, Boundary, Executing, Entering, cpu_access, cpu_after, completion_or}, MonitorRule.in_rom, NextAccess.{Next, Asks, Completes, handler_registers, entry_access}}
use Rattle.device_trace.specs.{Trace.{Play, logs_after}, Logs.vector_of, Progress.{access_of, kind_of, Progress, Held, Runs, InCall, next_pc_of, boundary_kind, progress_from_boundary, progress_within, after_return, call_after, next_progress}, Signals.step_kind, Start.Start}
use Rattle.proof_of_execution.proofs.{Regions.inside-open, Entries.boundary-pc}
use Rattle.trace_facts.proofs.EachPlay.{logs_after-kept, cpu_state_after-kept}

-- an entry that has not read its vector yet
abbrev IsEarlyState : CpuState → Type 0
IsEarlyState (Boundary regs) = Unit {0}
IsEarlyState (Executing regs values) = Unit {0}
IsEarlyState (Entering regs vector values) = length values ≤ 2

abbrev pub IsEarly : Progress → Type 0
IsEarly Held = Unit {0}
IsEarly (Runs cpu) = IsEarlyState cpu
IsEarly (InCall regs words) = Unit {0}

entering-early : (regs : List ℕ) (vector : ℕ) (values : List ℕ) (value : ℕ)
    → IsEarlyState (cpu_after (Entering regs vector values) value)
unfolding entry_access
entering-early regs vector [] value = omega arith
entering-early regs vector (a ∷ []) value = omega arith
entering-early regs vector (a ∷ b ∷ []) value = tt
entering-early regs vector (a ∷ b ∷ c ∷ values) value = tt

executing-early : (regs values : List ℕ) (next : Next)
    → IsEarlyState (completion_or (Executing regs values) next)
executing-early regs values (Asks access) = tt
executing-early regs values (Completes after) = tt

cpu_after-early : (cpu : CpuState) (value : ℕ) → IsEarlyState (cpu_after cpu value)
cpu_after-early (Boundary regs) value = executing-early regs _ _
cpu_after-early (Executing regs values) value = executing-early regs _ _
cpu_after-early (Entering regs vector values) value = entering-early regs vector values value

call_after-early : (regs words : List ℕ) (word : ℕ) → IsEarly (call_after regs words word)
call_after-early regs words word =
    cond_both (is_return (call_item words)) (after_return regs word) _ IsEarly
    (λ returns. tt)
    (λ goes_on. tt)

next_progress-early : (kind : Kind) (progress : Progress) (access : Option Access) (value : ℕ)
    → IsEarly progress → IsEarly (next_progress kind progress access value)
next_progress-early kind Held access value early = tt
next_progress-early kind (Runs cpu) access value early =
    cpu_state_after-kept IsEarlyState kind cpu value early (cpu_after-early cpu value)
next_progress-early kind (InCall regs words) access value early =
    call_after-early regs words (word_passed access value)

from_boundary-early : (regs : List ℕ) (kind : Kind) (vector : Option ℕ)
    → IsEarly (progress_from_boundary regs kind vector)
from_boundary-early regs Boot vector = tt
from_boundary-early regs Cpu vector = tt
from_boundary-early regs Idle vector = tt
from_boundary-early regs Irq None = tt
from_boundary-early regs Irq (Some vector) = omega arith
from_boundary-early regs Rom vector = tt

within-early : (progress : Progress) (kind : Kind) (vector : Option ℕ) → IsEarly progress
    → IsEarly (progress_within progress kind vector)
within-early Held kind vector early = early
within-early (Runs (Boundary regs)) kind vector early = from_boundary-early regs kind vector
within-early (Runs (Executing regs values)) kind vector early = early
within-early (Runs (Entering regs choice values)) kind vector early = early
within-early (InCall regs words) kind vector early = early

pub logs_after-early : (start : Start) (play : Play)
    → IsEarly (logs_after start play).progress
logs_after-early =
    logs_after-kept (λ progress last. IsEarly progress) (record {
      held = λ last. tt;
      goes_on = λ start logs reset early none access value.
          next_progress-early (step_kind logs) _ access value
          (within-early logs.progress (step_kind logs) (vector_of logs) early);
    })

-- the handler's registers have its PC
handler-pc : (regs : List ℕ) (word : ℕ) → 0 < pc_of regs
    → pc_of (handler_registers regs word) ≡ word / 2 * 2
handler-pc [] word above = absurd (omega (arith, above))
handler-pc (pc ∷ regs) word above = refl

-- the next step is in the region, whichever interrupt could be accepted
abbrev pub StaysInside : Bounds → Progress → Type 0
StaysInside bounds progress =
    (vector : Option ℕ)
    → lies_in (executable_region bounds)
    (next_pc_of (progress_within progress (kind_of progress vector) vector)) ≡ true

-- an entry in the region, whose handler is in the region, stays in it
entry-inside : (bounds : Bounds) (regs : List ℕ) (vector : ℕ) (values : List ℕ) (value : ℕ)
    → are_valid bounds ≡ true
    → length values ≤ 2
    → lies_in (executable_region bounds) (pc_of regs) ≡ true
    → (some_reads (cpu_access (Entering regs vector values)) ≡ true
    → lies_in (executable_region bounds) (value / 2 * 2) ≡ true)
    → StaysInside bounds (Runs (cpu_after (Entering regs vector values) value))
unfolding entry_access
entry-inside bounds regs vector [] value valid early inside handler later = inside
entry-inside bounds regs vector (a ∷ []) value valid early inside handler later = inside
entry-inside bounds regs vector (a ∷ b ∷ []) value valid early inside handler later =
    ap (lies_in (executable_region bounds)) (boundary-pc (handler_registers regs value) later
    ∙ handler-pc regs value (inside-open bounds (pc_of regs) valid inside).1)
    ∙ handler refl
entry-inside bounds regs vector (a ∷ b ∷ c ∷ values) value valid early inside handler later =
    absurd (omega (arith, early))

-- of a step of this kind that reads this value: where it is one of an interrupt entry in the
-- region, with its handler in the region, the next step is in the region
abbrev StaysAfter : Start → ℕ → Bounds → Kind → Progress → Option Access → ℕ → Type 0
StaysAfter start releases bounds kind progress access value =
    is_irq kind ≡ true
    → lies_in (executable_region bounds) (next_pc_of progress) ≡ true
    → (some_reads (access_of start releases kind progress) ≡ true
    → lies_in (executable_region bounds) (value / 2 * 2) ≡ true)
    → StaysInside bounds (next_progress kind progress access value)

boundary-follows : (start : Start) (releases : ℕ) (bounds : Bounds) (regs : List ℕ) (vector : ℕ)
    (access : Option Access) (value : ℕ)
    → are_valid bounds ≡ true
    → StaysAfter start releases bounds (boundary_kind regs (Some vector))
    (progress_from_boundary regs (boundary_kind regs (Some vector)) (Some vector)) access value
boundary-follows start releases bounds regs vector access value valid =
    let Claim : Kind → Type 0 =
    λ kind. StaysAfter start releases bounds kind
    (progress_from_boundary regs kind (Some vector)) access value in
    cond_both (pc_of regs == ROM_ENTRY) Rom _ Claim
    (λ entry irq. absurd (cc))
    (λ other. cond_both (in_rom (pc_of regs)) Cpu Irq Claim
    (λ rom irq. absurd (cc))
    (λ outside irq inside handler.
    entry-inside bounds regs vector [] value valid (omega arith) inside handler))

asleep-follows : (start : Start) (releases : ℕ) (bounds : Bounds) (regs : List ℕ)
    (access : Option Access) (value : ℕ)
    → StaysAfter start releases bounds (boundary_kind regs None)
    (progress_from_boundary regs (boundary_kind regs None) None) access value
asleep-follows start releases bounds regs access value =
    let Claim : Kind → Type 0 =
    λ kind. StaysAfter start releases bounds kind
    (progress_from_boundary regs kind None) access value in
    cond_both (pc_of regs == ROM_ENTRY) Rom _ Claim
    (λ entry irq. absurd (cc))
    (λ other. cond_both (in_rom (pc_of regs)) Cpu _ Claim
    (λ rom irq. absurd (cc))
    (λ outside. cond_both (is_asleep regs) Idle Cpu Claim
    (λ asleep irq. absurd (cc))
    (λ awake irq. absurd (cc))))

pub irq-follows : (start : Start) (releases : ℕ) (bounds : Bounds) (progress : Progress)
    (vector : Option ℕ) (access : Option Access) (value : ℕ)
    → are_valid bounds ≡ true → IsEarly progress
    → StaysAfter start releases bounds (kind_of progress vector)
    (progress_within progress (kind_of progress vector) vector) access value
irq-follows start releases bounds Held vector access value valid early = λ irq. absurd (cc)
irq-follows start releases bounds (Runs (Boundary regs)) None access value valid early =
    asleep-follows start releases bounds regs access value
irq-follows start releases bounds (Runs (Boundary regs)) (Some vector) access value valid early =
    boundary-follows start releases bounds regs vector access value valid
irq-follows start releases bounds
    (Runs (Executing regs values)) vector access value valid early =
    λ irq. absurd (cc)
irq-follows start releases bounds
    (Runs (Entering regs choice values)) vector access value valid early =
    λ irq inside handler.
    entry-inside bounds regs choice values value valid early inside handler
irq-follows start releases bounds (InCall regs words) vector access value valid early =
    λ irq. absurd (cc)
