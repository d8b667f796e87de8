-- A step that has no access is one of sleep.
use Rattle.std.proofs.{Common.{◌≡◌, ◌∙◌, ℕ, true, Option, None, is_some, length, refl, sym, Bool, arith}, lemmas.Bool.{cond_both}}
use Rattle.device_types.specs.declared.{access.Access.Access, kind.Kind.{Kind, TheVariants.{Idle}}}
use Rattle.part_definitions.specs.{Attestation.{call_item, is_return, word_passed}, CpuRegister.{Registers, clear_registers, after_pop, with_pc}, CpuState.{CpuState, Boundary, completion_or, cpu_access, cpu_next, entry_begun, with_value}, NextAccess.{Next, Asks, Completes, entry_access, next_access}}
use Rattle.device_trace.specs.{Logs.vector_of, Trace.{Play, logs_after}, Progress.{Progress, Held, Runs, InCall, access_of, after_return, next_progress, progress_within}, Signals.step_kind, Start.Start}
use Rattle.trace_facts.proofs.EachPlay.{logs_after-kept, cpu_state_after-kept}
use Rattle.debug_session.specs.Place.{Run, logs_at, play_to, step_at}
use Rattle.debug_walk.proofs.Places.{heard_at, step-cpu}

-- a processor that runs goes on with an access
abbrev is_asking : Progress → Bool
is_asking (Runs cpu) = is_some (cpu_access cpu)
is_asking progress = true

fetch-asks : (regs : Registers) → is_asking (Runs (Boundary regs)) ≡ true
unfolding next_access
fetch-asks regs = refl

entry-asks : (regs : Registers) (vector : ℕ) → is_asking (Runs (entry_begun regs vector)) ≡ true
unfolding entry_access
entry-asks regs vector = refl

completion-asks : (cpu : CpuState) (next : Next)
    → cpu_next cpu ≡ next → is_asking (Runs (completion_or cpu next)) ≡ true
completion-asks cpu (Asks access) is = rw is refl
completion-asks cpu (Completes regs) is = fetch-asks regs

within-asks : (progress : Progress) (kind : Kind) (vector : Option ℕ)
    → is_asking progress ≡ true → is_asking (progress_within progress kind vector) ≡ true
within-asks progress kind vector asks = grind (arith, entry-asks)

next-asks : (kind : Kind) (progress : Progress) (access : Option Access) (value : ℕ)
    → is_asking progress ≡ true → is_asking (next_progress kind progress access value) ≡ true
next-asks kind Held access value asks = fetch-asks (with_pc clear_registers value)
next-asks kind (Runs cpu) access value asks =
    cpu_state_after-kept (λ cpu. is_asking (Runs cpu) ≡ true) kind cpu value asks
    (completion-asks (with_value cpu value) (cpu_next (with_value cpu value)) refl)
next-asks kind (InCall regs words) access value asks =
    let word : ℕ = word_passed access value in
    cond_both (is_return (call_item words)) (after_return regs word) _
    (λ progress. is_asking progress ≡ true)
    (λ returns. fetch-asks (with_pc (after_pop regs) word)) (λ goes_on. refl)

logs_after-asks : (start : Start) (play : Play) → is_asking (logs_after start play).progress ≡ true
logs_after-asks =
    logs_after-kept (λ progress last. is_asking progress ≡ true) (record {
      held = λ last. refl;
      goes_on = λ start logs reset asks none access value.
          next-asks (step_kind logs) _ access value
          (within-asks logs.progress (step_kind logs) (vector_of logs) asks);
    })

no-access : (start : Start) (releases : ℕ) (kind : Kind) (progress : Progress)
    → is_asking progress ≡ true → access_of start releases kind progress ≡ None → kind ≡ Idle
no-access start releases kind progress asks none = grind arith

pub idle-where : (run : Run) (place : ℕ) → (step_at run place).reset ≡ None
    → (step_at run place).cpu ≡ None → (step_at run place).kind ≡ Idle
unfolding logs_at
idle-where run place unrefused none =
    let kind : Kind = (step_at run place).kind in
    no-access run.start (length (logs_at run place).released_words) kind _
    (within-asks (logs_at run place).progress kind (vector_of (heard_at run place))
    (logs_after-asks run.start (play_to run place)))
    (rw unrefused at (sym (step-cpu run place) ∙ none))
