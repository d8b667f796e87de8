-- A processor that has the course of a state asks for what the state asks for, and goes with it.
use Rattle.std.proofs.Common.{◌≡◌, ◌++◌, ℕ, false, List, [], ◌∷◌, Some, refl, sym, ap, ◌∙◌, append_assoc}
use Rattle.device_types.specs.declared.access.Access.{Access}
use Rattle.part_definitions.specs.{NextAccess.{Next, Asks, Completes, next_access, entry_access}, CpuState.{CpuState, Boundary, Executing, Entering, registers_of, is_at_boundary, is_entering, cpu_next, ask_of, cpu_access, with_value, completion_or, cpu_after, cpu_takes}}
use Rattle.msp_exec.specs.{declared.{phase.Phase.{Phase, TheVariants.{Boundary as AtBoundary, Executing as InInstruction, Entering as InEntry}}, cpu.Cpu.Cpu}, Course.{is_boundary, is_entry, takes_value, cpu_course, state_course, CpuStandsFor, GoesOnAs, Follows}}

append-nil : (values : List ℕ) → values ++ [] ≡ values
append-nil [] = refl
append-nil (value ∷ values) = ap (λ rest. value ∷ rest) (append-nil values)

state_course-nil : (state : CpuState) → state_course state [] ≡ cpu_next state
state_course-nil (Boundary regs) = refl
state_course-nil (Executing regs before) = ap (next_access regs) (append-nil before)
state_course-nil (Entering regs vector before) = ap (entry_access regs vector) (append-nil before)

state_course-with_value : (state : CpuState) (value : ℕ) (values : List ℕ)
    → state_course (with_value state value) values ≡ state_course state (value ∷ values)
state_course-with_value (Boundary regs) value values = refl
state_course-with_value (Executing regs before) value values =
    ap (next_access regs) (append_assoc before (value ∷ []) values)
state_course-with_value (Entering regs vector before) value values =
    ap (entry_access regs vector) (append_assoc before (value ∷ []) values)

-- the access that the course begins with is the one that the state asks for
pub cpu_access_some : (cpu : Cpu) (state : CpuState) (access : Access)
    → CpuStandsFor cpu state → cpu_course cpu [] ≡ Asks access → cpu_access state ≡ Some access
cpu_access_some cpu state access stands asks =
    ap ask_of (sym (state_course-nil state) ∙ (stands.same_course [] ∙ asks))

registers_of-with_value : (state : CpuState) (value : ℕ)
    → registers_of (with_value state value) ≡ registers_of state
registers_of-with_value (Boundary regs) value = refl
registers_of-with_value (Executing regs before) value = refl
registers_of-with_value (Entering regs vector before) value = refl

is_at_boundary-with_value : (state : CpuState) (value : ℕ)
    → is_at_boundary (with_value state value) ≡ false
is_at_boundary-with_value (Boundary regs) value = refl
is_at_boundary-with_value (Executing regs before) value = refl
is_at_boundary-with_value (Entering regs vector before) value = refl

is_entering-with_value : (state : CpuState) (value : ℕ)
    → is_entering (with_value state value) ≡ is_entering state
is_entering-with_value (Boundary regs) value = refl
is_entering-with_value (Executing regs before) value = refl
is_entering-with_value (Entering regs vector before) value = refl

takes_value-boundary : (phase : Phase) (state : CpuState) (value : ℕ)
    → is_boundary phase ≡ is_at_boundary state → takes_value phase value ≡ cpu_takes state value
takes_value-boundary AtBoundary (Boundary regs) value same = refl
takes_value-boundary AtBoundary (Executing regs before) value same = cc
takes_value-boundary AtBoundary (Entering regs vector before) value same = cc
takes_value-boundary (InInstruction access) (Boundary regs) value same = cc
takes_value-boundary (InInstruction access) (Executing regs before) value same = refl
takes_value-boundary (InInstruction access) (Entering regs vector before) value same = refl
takes_value-boundary (InEntry access vector) (Boundary regs) value same = cc
takes_value-boundary (InEntry access vector) (Executing regs before) value same = refl
takes_value-boundary (InEntry access vector) (Entering regs from before) value same = refl

-- both take the same values
pub takes_value_same : (cpu : Cpu) (state : CpuState) (value : ℕ)
    → CpuStandsFor cpu state → takes_value cpu.phase value ≡ cpu_takes state value
takes_value_same cpu state value stands =
    takes_value-boundary cpu.phase state value stands.same_boundary

goes_on : (before after : Cpu) (state : CpuState) (value : ℕ) (next : Next)
    → CpuStandsFor before state
    → GoesOnAs after before.regs (is_entry before.phase)
    (λ values. cpu_course before (value ∷ values)) next
    → CpuStandsFor after (completion_or (with_value state value) next)
goes_on before after state value (Asks access) stands (regs, boundary, entry, course) =
    record {
      same_regs = regs ∙ (stands.same_regs ∙ sym (registers_of-with_value state value));
      same_boundary = boundary ∙ sym (is_at_boundary-with_value state value);
      same_entry = entry ∙ (stands.same_entry ∙ sym (is_entering-with_value state value));
      settled = λ at_boundary. cc (boundary, at_boundary);
      same_course = λ values.
          state_course-with_value state value values
          ∙ (stands.same_course (value ∷ values) ∙ course values);
    }
goes_on before after state value (Completes left) stands (regs, work, phase) =
    record {
      same_regs = regs;
      same_boundary = rw phase refl;
      same_entry = rw phase refl;
      settled = λ at_boundary. work ∙ sym regs;
      same_course = λ values. rw (phase, work) refl;
    }

cpu_next-with_value : (cpu : Cpu) (state : CpuState) (value : ℕ)
    → CpuStandsFor cpu state → cpu_next (with_value state value) ≡ cpu_course cpu (value ∷ [])
cpu_next-with_value cpu state value stands =
    sym (state_course-nil (with_value state value))
    ∙ (state_course-with_value state value [] ∙ stands.same_course (value ∷ []))

-- a processor that follows its course with a value stands for the state after the value
pub follows : (before after : Cpu) (state : CpuState) (value : ℕ)
    → CpuStandsFor before state
    → Follows after before.regs (is_entry before.phase)
    (λ values. cpu_course before (value ∷ values))
    → CpuStandsFor after (cpu_after state value)
follows before after state value stands goes =
    rw (cpu_next-with_value before state value stands)
    (goes_on before after state value _ stands goes)
