-- In the middle of an instruction or of an interrupt entry the last record is one of it.
use Rattle.std.proofs.{Common.{◌≡◌, ℕ, List, Option, Some, refl}, lemmas.Bool.cond_both}
use Rattle.device_types.specs.{declared.{access.Access.Access, kind.Kind.Kind}}
use Rattle.part_definitions.specs.{Attestation.{call_item, is_return, word_passed}, CpuRegister.pc_of, CpuState.{CpuState, Boundary, Executing, Entering, cpu_pc, with_value, completion_or}, NextAccess.{Next, Asks, Completes}}
use Rattle.device_trace.specs.{Trace.{Play, logs_after}, Logs.Logs, Progress.{Progress, Held, Runs, InCall, next_pc_of, after_return, call_after, cpu_state_after, next_progress}, Signals.step_kind, Start.Start}
use Rattle.trace_facts.proofs.EachPlay.{HoldsAfter, logs_after-kept, cpu_state_after-kept}

-- of the processor and the `pc` of the last record
abbrev pub IsOfLast : CpuState → Option ℕ → Type 0
IsOfLast (Boundary regs) last = Unit {0}
IsOfLast (Executing regs values) last = last ≡ Some (pc_of regs)
IsOfLast (Entering regs vector values) last = last ≡ Some (pc_of regs)

abbrev pub IsFresh : Progress → Option ℕ → Type 0
IsFresh Held last = Unit {0}
IsFresh (Runs cpu) last = IsOfLast cpu last
IsFresh (InCall regs words) last = Unit {0}

own_pc : (cpu : CpuState) → IsOfLast cpu (Some (cpu_pc cpu))
own_pc (Boundary regs) = tt
own_pc (Executing regs values) = refl
own_pc (Entering regs vector values) = refl

after_value-fresh : (cpu : CpuState) (value : ℕ)
    → IsOfLast (with_value cpu value) (Some (cpu_pc cpu))
after_value-fresh (Boundary regs) value = refl
after_value-fresh (Executing regs values) value = refl
after_value-fresh (Entering regs vector values) value = refl

completion_or-fresh : (cpu : CpuState) (next : Next) (last : Option ℕ) → IsOfLast cpu last
    → IsOfLast (completion_or cpu next) last
completion_or-fresh cpu (Asks access) last fresh = fresh
completion_or-fresh cpu (Completes regs) last fresh = tt

cpu_state_after-fresh : (kind : Kind) (cpu : CpuState) (value : ℕ)
    → IsOfLast (cpu_state_after kind cpu value) (Some (cpu_pc cpu))
cpu_state_after-fresh kind cpu value =
    cpu_state_after-kept (λ after. IsOfLast after (Some (cpu_pc cpu))) kind cpu value (own_pc cpu)
    (completion_or-fresh (with_value cpu value) _ _ (after_value-fresh cpu value))

call_after-fresh : (regs words : List ℕ) (word : ℕ) (last : Option ℕ)
    → IsFresh (call_after regs words word) last
call_after-fresh regs words word last =
    cond_both (is_return (call_item words)) (after_return regs word) _
    (λ progress. IsFresh progress last)
    (λ returns. tt)
    (λ goes_on. tt)

next_progress-fresh : (kind : Kind) (progress : Progress) (access : Option Access) (value : ℕ)
    → IsFresh (next_progress kind progress access value) (Some (next_pc_of progress))
next_progress-fresh kind Held access value = tt
next_progress-fresh kind (Runs cpu) access value = cpu_state_after-fresh kind cpu value
next_progress-fresh kind (InCall regs words) access value =
    call_after-fresh regs words (word_passed access value) _

abbrev pub LogsAreFresh : Logs → Type 0
LogsAreFresh logs = HoldsAfter IsFresh logs

pub logs_after-fresh : (start : Start) (play : Play)
    → LogsAreFresh (logs_after start play)
logs_after-fresh =
    logs_after-kept IsFresh (record {
      held = λ last. tt;
      goes_on = λ start logs reset fresh none. next_progress-fresh (step_kind logs) _;
    })
