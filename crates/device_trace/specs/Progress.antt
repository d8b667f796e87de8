-- Where the device stands between two steps: whose step comes next, with which access, and what it
-- leads to.
use Rattle.std.specs.Prelude.{◌==◌, ◌++◌, ℕ, Bool, true, false, List, [], ◌∷◌, Option, Some, None, is_some, if◌then◌else◌, ◌+◌, ◌-◌, ◌^◌, min}
use Rattle.word_arith.specs.{declared.size.Size.TheVariants.Word, Number.Word16}
use Rattle.device_types.specs.{declared.{access.Access.Access, kind.Kind.{Kind, TheVariants.{Boot, Cpu, Idle, Irq, Rom}}}, Map.{ROM_ENTRY, RESET_VECTOR}, Address.Address}
use Rattle.part_definitions.specs.{BusAccess.read_at, Attestation.{call_item, item_access, item_pc, bounds_read, is_return, word_passed}, CpuRegister.{Registers, clear_registers, pc_of, sp_of, with_pc, after_pop, is_asleep}, CpuState.{CpuState, Boundary, Executing, Entering, registers_of, cpu_pc, cpu_access, cpu_after, entry_begun, is_at_boundary}, MonitorRule.in_rom}
use Rattle.device_trace.specs.Start.{Start}
use Rattle.msp_decode.specs.Spelling.{RETI_WORD}

pub data Progress : Type 0 where
  -- after power-on and after a reset: the next step boots
  Held : Progress
  -- the processor runs
  Runs : CpuState → Progress
  -- in a call of the ROM: the registers at its start, and the words that passed in it, oldest first
  InCall : Registers → List Word16 → Progress

-- the registers at the last boundary
abbrev pub last_registers : Progress → Registers
last_registers Held = clear_registers
last_registers (Runs cpu) = registers_of cpu
last_registers (InCall regs words) = regs

-- the processor runs, and neither an instruction nor an interrupt entry is in progress
abbrev pub stands_at_boundary : Progress → Bool
stands_at_boundary Held = false
stands_at_boundary (Runs cpu) = is_at_boundary cpu
stands_at_boundary (InCall regs words) = false

abbrev pub next_pc_of : Progress → Address
next_pc_of Held = 0
next_pc_of (Runs cpu) = cpu_pc cpu
next_pc_of (InCall regs words) = item_pc (call_item words)

-- at a boundary: a call of the ROM, code inside the ROM, an interrupt, sleep, or an instruction
abbrev pub boundary_kind : Registers → Option Address → Kind
boundary_kind regs vector =
    if pc_of regs == ROM_ENTRY then Rom
    else if in_rom (pc_of regs) then Cpu
    else if is_some vector then Irq
    else if is_asleep regs then Idle
    else Cpu

-- whose step comes next, where this interrupt could be accepted
abbrev pub kind_of : Progress → Option Address → Kind
kind_of Held vector = Boot
kind_of (Runs (Boundary regs)) vector = boundary_kind regs vector
kind_of (Runs (Executing regs values)) vector = Cpu
kind_of (Runs (Entering regs other values)) vector = Irq
kind_of (InCall regs words) vector = Rom

-- at a boundary a step of this kind may begin a call, or the entry of this interrupt
abbrev pub progress_from_boundary : Registers → Kind → Option Address → Progress
progress_from_boundary regs Rom vector = InCall regs []
progress_from_boundary regs Irq (Some vector) = Runs (entry_begun regs vector)
progress_from_boundary regs kind vector = Runs (Boundary regs)

-- within a step of this kind, from which its access and `pc` are read
abbrev pub progress_within : Progress → Kind → Option Address → Progress
progress_within (Runs (Boundary regs)) kind vector = progress_from_boundary regs kind vector
progress_within progress kind vector = progress

-- at a boundary and in a call the monitors are told of an interrupt that could be accepted
abbrev pub tells_irq : Progress → Bool
tells_irq (Runs (Boundary regs)) = true
tells_irq (InCall regs words) = true
tells_irq progress = false

-- the access of a call, after so many released words of the play
abbrev pub call_access : Start → ℕ → Registers → List Word16 → Access
call_access start releases regs words =
    item_access (sp_of regs) (bounds_read words) (call_item words)
    (start.call_word releases (call_item words) words)

-- the processor has no access while it sleeps
abbrev pub running_access : Kind → CpuState → Option Access
running_access Idle cpu = None
running_access kind cpu = cpu_access cpu

-- the access of a step; a boot reads the reset vector
abbrev pub access_of : Start → ℕ → Kind → Progress → Option Access
access_of start releases kind Held = Some (read_at Word RESET_VECTOR)
access_of start releases kind (Runs cpu) = running_access kind cpu
access_of start releases kind (InCall regs words) = Some (call_access start releases regs words)

-- the access at a boundary is an opcode fetch
abbrev pub fetches_opcode : Kind → Progress → Bool
fetches_opcode Cpu (Runs (Boundary regs)) = true
fetches_opcode kind progress = false

-- the return read gives PC, and SP is raised by 2
abbrev pub after_return : Registers → Word16 → Progress
after_return regs word = Runs (Boundary (with_pc (after_pop regs) word))

abbrev pub call_after : Registers → List Word16 → Word16 → Progress
call_after regs words word =
    if is_return (call_item words) then after_return regs word else InCall regs (words ++ word ∷ [])

abbrev pub cpu_state_after : Kind → CpuState → ℕ → CpuState
cpu_state_after Idle cpu value = cpu
cpu_state_after kind cpu value = cpu_after cpu value

-- after the access of a step and the value that this read; the reset vector gives PC
abbrev pub next_progress : Kind → Progress → Option Access → ℕ → Progress
next_progress kind Held access value = Runs (Boundary (with_pc clear_registers value))
next_progress kind (Runs cpu) access value = Runs (cpu_state_after kind cpu value)
next_progress kind (InCall regs words) access value =
    call_after regs words (word_passed access value)

-- How many handlers were entered and not left, as far as a number of 64 bits counts. One is entered
-- with the first step of its entry, and left with the fetch of its RETI; a reset leaves all.

-- behind a step from the first to the second: an interrupt's entry and RETI count as they begin
abbrev pub level_after : Progress → Progress → ℕ → ℕ
level_after before Held level = 0
level_after (Runs (Boundary regs)) (Runs (Entering old vector values)) level =
    min (level + 1) (2 ^ 64 - 1)
level_after (Runs (Boundary regs)) (Runs (Executing old (word ∷ values))) level =
    if word == RETI_WORD then level - 1 else level
level_after before after level = level
