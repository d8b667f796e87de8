-- Which states a processor stands for: those with the same course from here on.
use Rattle.std.specs.Prelude.{◌≡◌, ◌++◌, ℕ, Bool, true, false, not, List, [], ◌∷◌, ◌+◌, ◌-◌, ◌==◌, ◌^◌, min, if◌then◌else◌}
use Rattle.device_types.specs.declared.access.Access.{Access}
use Rattle.msp_decode.specs.{declared.head.Head.{Head, TheVariants.Reti}, Spelling.word_of}
use Rattle.part_definitions.specs.{declared.{cpu_access.CpuAccess.{CpuAccess, TheVariants.WriteResult}, working_state.WorkingState.WorkingState}, BusAccess.write_at, Operand.size_of, Instruction.bus_access, NextAccess.{Next, Asks, Completes, walk, is_illegal, next_access, entry_access}, CpuState.{CpuState, Boundary, Executing, Entering, registers_of, is_at_boundary, is_entering}, CpuRegister.Registers}
use Rattle.msp_exec.specs.{declared.{phase.{EntryAccess.{EntryAccess, TheVariants.{PushPc, PushSr, ReadVector}}, Phase.{Phase, TheVariants.{Boundary as AtBoundary, Executing as InInstruction, Entering as InEntry}}}, cpu.Cpu.Cpu}, Order.accesses_after}
use Rattle.word_arith.specs.Number.{Word16}

-- between two instructions
abbrev pub is_boundary : Phase → Bool
is_boundary AtBoundary = true
is_boundary phase = false

-- in an interrupt entry
abbrev pub is_entry : Phase → Bool
is_entry (InEntry access vector) = true
is_entry phase = false

-- at an opcode fetch every word that is not illegal, else every value
abbrev pub takes_value : Phase → ℕ → Bool
takes_value AtBoundary word = not (is_illegal word)
takes_value phase value = true

-- the access of an instruction whose result, once it is written, is this number
abbrev pub latched_access : Head → CpuAccess → WorkingState → ℕ → Access
latched_access head WriteResult work number = write_at (size_of head) work.place number
latched_access head access work number = bus_access head access work

-- the result is written, and leaves these registers
abbrev pub write_course : Head → WorkingState → ℕ → List ℕ → Next
write_course head work number [] = Asks (latched_access head WriteResult work number)
write_course head work number (value ∷ values) = Completes work.regs

-- the rest of an instruction; the registers are as it leaves them once its result is written
abbrev pub instruction_course : Head → CpuAccess → WorkingState → ℕ → List ℕ → Next
instruction_course head WriteResult work number values = write_course head work number values
instruction_course head access work number values =
    walk head (access ∷ accesses_after head access) work values

-- the rest of an interrupt entry; the values of its writes tell nothing
abbrev pub entry_course : Registers → EntryAccess → ℕ → List ℕ → Next
entry_course regs PushPc vector values = entry_access regs vector values
entry_course regs PushSr vector values = entry_access regs vector (0 ∷ values)
entry_course regs ReadVector vector values = entry_access regs vector (0 ∷ 0 ∷ values)

-- what comes next from a processor on, after further values
abbrev pub phase_course : Cpu → Phase → List ℕ → Next
phase_course cpu AtBoundary values = next_access cpu.work.regs values
phase_course cpu (InInstruction access) values =
    instruction_course cpu.head access cpu.work cpu.number values
phase_course cpu (InEntry access vector) values =
    entry_course cpu.work.regs access vector values

abbrev pub cpu_course : Cpu → List ℕ → Next
cpu_course cpu values = phase_course cpu cpu.phase values

-- what comes next from a state on, after further values
abbrev pub state_course : CpuState → List ℕ → Next
state_course (Boundary regs) values = next_access regs values
state_course (Executing regs before) values = next_access regs (before ++ values)
state_course (Entering regs vector before) values = entry_access regs vector (before ++ values)

-- the same registers at the last boundary, and the same course from here on
pub record CpuStandsFor (cpu : Cpu) (state : CpuState) : Type 0 where
  pub same_regs : cpu.regs ≡ registers_of state
  pub same_boundary : is_boundary cpu.phase ≡ is_at_boundary state
  pub same_entry : is_entry cpu.phase ≡ is_entering state
  pub settled : is_boundary cpu.phase ≡ true → cpu.work.regs ≡ cpu.regs
  pub same_course : (values : List ℕ) → state_course state values ≡ cpu_course cpu values

-- the processor goes on with this course and these registers, or is complete
abbrev pub GoesOnAs : Cpu → Registers → Bool → (List ℕ → Next) → Next → Type 0
GoesOnAs cpu regs entry course (Asks access) =
    (cpu.regs ≡ regs) × (is_boundary cpu.phase ≡ false) × (is_entry cpu.phase ≡ entry)
    × ((values : List ℕ) → course values ≡ cpu_course cpu values)
GoesOnAs cpu regs entry course (Completes after) =
    (cpu.regs ≡ after) × (cpu.work.regs ≡ after) × (cpu.phase ≡ AtBoundary)

-- the processor follows this course, which began with these registers
abbrev pub Follows : Cpu → Registers → Bool → (List ℕ → Next) → Type 0
Follows cpu regs entry course = GoesOnAs cpu regs entry course (course [])

-- from its registers on the processor begins the instruction of this word
abbrev pub Begins : Cpu → Cpu → ℕ → Type 0
Begins old new word =
    Follows new old.regs false (λ values. next_access old.work.regs (word ∷ values))

-- How many handlers were entered and not left.

-- behind the acceptance of an interrupt, as far as a number of 64 bits counts
abbrev pub level_entered : ℕ → ℕ
level_entered level = min (level + 1) (2 ^ 64 - 1)

-- behind an opcode fetch of this word
abbrev pub level_begun : ℕ → Word16 → ℕ
level_begun level word = if word == word_of Reti then level - 1 else level

-- behind a value that is taken in this phase
abbrev pub level_taken : Phase → ℕ → ℕ → ℕ
level_taken phase level value = if is_boundary phase then level_begun level value else level
