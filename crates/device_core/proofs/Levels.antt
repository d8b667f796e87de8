-- How many handlers were entered and not left, after a step.
use Rattle.std.proofs.{Common.{◌≡◌, ◌∙◌, ◌⊎◌, ◌==◌, ◌++◌, ℕ, Bool, true, false, List, [], ◌∷◌, Option, None, Some, if◌then◌else◌, refl, ap, subst, inl, inr, arith}, lemmas.Bool.{false≢true, Decides.nat_tests}}
use Rattle.device_types.specs.{declared.kind.Kind.{Kind, TheVariants.{Cpu, Idle, Irq}}, Kind.is_irq}
use Rattle.msp_decode.specs.Head.{head_of}
use Rattle.part_definitions.specs.{CpuRegister.Registers, CpuState.{CpuState, Boundary, Executing, Entering, completion_or, cpu_after, is_at_boundary}, NextAccess.{Next, Asks, Completes, next_access, entry_access}}
use Rattle.msp_exec.specs.Course.{level_begun, level_entered}
use Rattle.word_arith.specs.Number.{Word16}
use Rattle.device_trace.specs.{Progress.{level_after, Progress, Held, Runs, InCall, after_return, fetches_opcode, kind_of, progress_within}, Logs.{Logs, vector_taken, with_record}, Start.Start}
use Rattle.device_core.{specs.{Bus.logs_after_step, Machine.{cpu_of, level_within}}, proofs.Turns.boundary_kind-Irq}

pub level-step :
    (start : Start) (logs : Logs) (reset : Bool) (after : Progress)
    → (logs_after_step start logs reset).progress ≡ after
    → (logs_after_step start logs reset).level ≡ level_after logs.progress after logs.level
unfolding with_record
level-step start logs reset after is =
    ap (λ (after : Progress). level_after logs.progress after logs.level) is

-- a step to a boundary, or in a call
pub level-boundary :
    (before : Progress) (regs : Registers) (level : ℕ)
    → level_after before (Runs (Boundary regs)) level ≡ level
level-boundary Held regs level = refl
level-boundary (Runs (Boundary from)) regs level = refl
level-boundary (Runs (Executing from values)) regs level = refl
level-boundary (Runs (Entering from vector values)) regs level = refl
level-boundary (InCall from words) regs level = refl

level-call :
    (before : Progress) (regs : Registers) (words : List Word16) (level : ℕ)
    → level_after before (InCall regs words) level ≡ level
level-call Held regs words level = refl
level-call (Runs (Boundary from)) regs words level = refl
level-call (Runs (Executing from values)) regs words level = refl
level-call (Runs (Entering from vector values)) regs words level = refl
level-call (InCall from passed) regs words level = refl

pub level-rom :
    (before : Progress) (ends : Bool) (regs : Registers) (words : List Word16) (word level : ℕ)
    → level_after before
    (if ends then after_return regs word else InCall regs (words ++ word ∷ [])) level
    ≡ level
level-rom before true regs words word level = level-boundary before _ level
level-rom before false regs words word level = level-call before regs (words ++ word ∷ []) level

-- in the middle of an instruction or an entry
pub level-middle :
    (progress : Progress) (state : CpuState) (level : ℕ)
    → is_at_boundary (cpu_of progress) ≡ false
    → level_after progress (Runs state) level ≡ level
level-middle Held state level middle = refl
level-middle (Runs (Boundary regs)) state level middle = absurd cc
level-middle (Runs (Executing regs values)) state level middle = refl
level-middle (Runs (Entering regs vector values)) state level middle = refl
level-middle (InCall regs words) state level middle = refl

-- a step of another kind begins no entry
pub none-taken :
    (progress : Progress) (kind : Kind) (vector : Option ℕ)
    → is_irq kind ≡ false → vector_taken progress kind vector ≡ None
none-taken Held kind vector other = refl
none-taken (Runs (Boundary regs)) kind vector other = rw other refl
none-taken (Runs (Executing regs values)) kind vector other = refl
none-taken (Runs (Entering regs from values)) kind vector other = refl
none-taken (InCall regs words) kind vector other = refl

pub level-untaken :
    (progress : Progress) (kind : Kind) (vector : Option ℕ) (level : ℕ)
    → is_irq kind ≡ false → level_within (vector_taken progress kind vector) level ≡ level
level-untaken progress kind vector level other = rw (none-taken progress kind vector other) refl

from-idle :
    (progress : Progress) (vector : Option ℕ) (level : ℕ)
    → level_after progress (Runs (cpu_of (progress_within progress Idle vector))) level ≡ level
from-idle Held vector level = refl
from-idle (Runs (Boundary regs)) vector level = refl
from-idle (Runs (Executing regs values)) vector level = refl
from-idle (Runs (Entering regs other values)) vector level = refl
from-idle (InCall regs words) vector level = refl

-- a step of sleep
pub level-idle :
    (progress : Progress) (kind : Kind) (vector : Option ℕ) (level : ℕ)
    → kind ≡ Idle
    → level_after progress (Runs (cpu_of (progress_within progress kind vector))) level ≡ level
level-idle progress kind vector level idle = rw idle (from-idle progress vector level)

-- an opcode fetch
level-reti :
    (regs : Registers) (level : ℕ)
    → level_begun level 0x1300
    ≡ level_after (Runs (Boundary regs))
    (Runs (completion_or (Executing regs (0x1300 ∷ [])) (next_access regs (0x1300 ∷ [])))) level
unfolding next_access head_of
level-reti regs level = refl

level-other :
    (regs : Registers) (word level : ℕ) (next : Next)
    → (word == 0x1300) ≡ false
    → level_begun level word
    ≡ level_after (Runs (Boundary regs))
    (Runs (completion_or (Executing regs (word ∷ [])) next)) level
level-other regs word level (Asks access) other = refl
level-other regs word level (Completes after) other = rw other refl

level-fetched :
    (regs : Registers) (word level : ℕ) (is : Bool)
    → (word == 0x1300) ≡ is
    → level_begun level word
    ≡ level_after (Runs (Boundary regs)) (Runs (cpu_after (Boundary regs) word)) level
level-fetched regs word level true is =
    let same : 0x1300 ≡ word = grind (arith, nat_tests) in
    subst
    (λ (word : ℕ). level_begun level word
    ≡ level_after (Runs (Boundary regs)) (Runs (cpu_after (Boundary regs) word)) level) same
    (level-reti regs level)
level-fetched regs word level false is =
    level-other regs word level (next_access regs (word ∷ [])) is

pub level-begun :
    (regs : Registers) (word level : ℕ)
    → level_begun level word ≡ level_after (Runs (Boundary regs))
    (Runs (cpu_after (Boundary regs) word)) level
level-begun regs word level = level-fetched regs word level (word == 0x1300) refl

-- the first step of an entry
level-entered :
    (regs : Registers) (vector value level : ℕ)
    → level_entered level
    ≡ level_after (Runs (Boundary regs)) (Runs (cpu_after (Entering regs vector []) value)) level
unfolding entry_access
level-entered regs vector value level = refl

-- a step of the processor, by whether it fetches an opcode
abbrev pub level_taken_in : Bool → ℕ → ℕ → ℕ
level_taken_in opcode level value = if opcode then level_begun level value else level

level-cpu :
    (progress : Progress) (vector : Option ℕ) (value level : ℕ)
    → kind_of progress vector ≡ Cpu
    → level_taken_in (fetches_opcode Cpu progress)
    (level_within (vector_taken progress Cpu vector) level) value
    ≡ level_after progress (Runs (cpu_after (cpu_of (progress_within progress Cpu vector)) value))
    level
level-cpu Held vector value level kind = absurd cc
level-cpu (Runs (Boundary regs)) vector value level kind = level-begun regs value level
level-cpu (Runs (Executing regs values)) vector value level kind = refl
level-cpu (Runs (Entering regs other values)) vector value level kind = absurd cc
level-cpu (InCall regs words) vector value level kind = absurd cc

level-irq :
    (progress : Progress) (vector : Option ℕ) (value level : ℕ)
    → kind_of progress vector ≡ Irq
    → level_taken_in (fetches_opcode Irq progress)
    (level_within (vector_taken progress Irq vector) level) value
    ≡ level_after progress (Runs (cpu_after (cpu_of (progress_within progress Irq vector)) value))
    level
level-irq Held vector value level kind = absurd cc
level-irq (Runs (Boundary regs)) (Some vector) value level kind =
    level-entered regs vector value level
level-irq (Runs (Boundary regs)) None value level kind =
    absurd (false≢true (boundary_kind-Irq regs None kind))
level-irq (Runs (Executing regs values)) vector value level kind = absurd cc
level-irq (Runs (Entering regs other values)) vector value level kind = refl
level-irq (InCall regs words) vector value level kind = absurd cc

pub level-runs :
    (progress : Progress) (vector : Option ℕ) (kind : Kind) (value level : ℕ)
    → kind_of progress vector ≡ kind → (kind ≡ Cpu) ⊎ (kind ≡ Irq)
    → level_taken_in (fetches_opcode kind progress)
    (level_within (vector_taken progress kind vector) level) value
    ≡ level_after progress (Runs (cpu_after (cpu_of (progress_within progress kind vector)) value))
    level
level-runs progress vector kind value level is (inl cpu) =
    rw cpu (level-cpu progress vector value level (is ∙ cpu))
level-runs progress vector kind value level is (inr irq) =
    rw irq (level-irq progress vector value level (is ∙ irq))
