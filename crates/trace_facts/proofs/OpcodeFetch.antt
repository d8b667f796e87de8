-- Of every step the signal `opcode` tells what kind and access tell: the processor fetches at its
-- `pc`.
use Rattle.std.{proofs.{Common.{◌≡◌, ℕ, Bool, [], ◌∷◌, Option, length, refl, List, Some, None, ◌⊎◌, ◌%◌, true, false, ◌++◌, ap, arith, inl, inr}, lemmas.Bool.{cond_both, ne_eqb, eq-eqb}}, specs.Prelude.{◌&&◌, ◌==◌}}
use Rattle.device_types.specs.{declared.{kind.Kind.{Kind, TheVariants.{Boot, Cpu, Idle, Irq, Rom}}, access.Access.Access}, Kind.is_cpu, ExecFlag.fetches_at, Address.even}
use Rattle.part_definitions.specs.{CpuState.{Boundary, Executing, Entering, ask_of}, Attestation.{call_item, is_return, word_passed}, CpuRegister.{clear_registers, after_pop, plus, pc_of, after_word}, BusAccess.{read_at, write_at}, Instruction.{bus_access, after_value}, NextAccess.{walk, walk_head, next_access}, Operand.{size_of, state_at_start, after_increment}, CpuAccess.{source_accesses, result_accesses, destination_accesses, operand_accesses, write_back}, declared.{cpu_access.CpuAccess.{CpuAccess, TheVariants.{FetchImmediate, FetchSourceIndex, ReadSource, ReadIncrementing, FetchDestinationIndex, ReadDestination, WriteResult, PushSource, PushPc, PopSr, PopPc}}, working_state.WorkingState.WorkingState}}
use Rattle.device_trace.specs.{Logs.{Logs, vector_of}, Progress.{Progress, Held, Runs, InCall, kind_of, next_pc_of, progress_within, access_of, fetches_opcode, progress_from_boundary, after_return, call_after, next_progress}, Signals.{step_kind, signals_at, signals_of}, Start.Start, Trace.{Play, logs_after}}
use Rattle.trace_facts.proofs.{ProperRegisters.{IsProper, IsProperCpu, with_register-proper, with_pc-proper, cpu_after-proper}, EachPlay.{logs_after-kept, cpu_state_after-kept}}
use Rattle.msp_decode.specs.{declared.{reg.Reg.{Reg, TheVariants.{R1, R0, R2, R3, R4, R5, R6, R7, R8, R9, R10, R11, R12, R13, R14, R15}}, dest_form.DestForm.{DestForm, TheVariants.{Register as DestRegister, Indexed as DestIndexed}}, head.Head.{Head, TheVariants.{Two, One as OneOperand, Reti, Jump}}, one.One.{One, TheVariants.{Rrc, Swpb, Rra, Sxt, Push, Call}}, source_form.SourceForm.{SourceForm, TheVariants.{Register, Indexed, Indirect, IndirectInc, Immediate, Constant}}}, Head.head_of}
use Rattle.word_arith.specs.declared.{size.Size.{Size, TheVariants.{Byte, Word}}, op2.Op2.{Op2, TheVariants.{Mov, Add, Addc, Subc, Sub, Cmp, Dadd, Bit, Bic, Bis, Xor, And}}}

-- An instruction fetches at its own address its opcode alone.

-- no fetch at this `pc` comes next
abbrev IsElsewhere : ℕ → Option Access → Type 0
IsElsewhere pc access = fetches_at access pc ≡ false

-- PC has moved on by one word, or by two
abbrev one_on : ℕ → ℕ
one_on pc = even (plus pc 2)

abbrev two_on : ℕ → ℕ
two_on pc = even (plus (one_on pc) 2)

abbrev IsAhead : ℕ → ℕ → Type 0
IsAhead pc now = (now ≡ one_on pc) ⊎ (now ≡ two_on pc)

one_apart : (pc now : ℕ) → now ≡ one_on pc → (even now == pc) ≡ false
one_apart pc now is = ne_eqb (even now) pc (λ same. omega (arith, is, same))

two_apart : (pc now : ℕ) → now ≡ two_on pc → (even now == pc) ≡ false
two_apart pc now is = ne_eqb (even now) pc (λ same. omega (arith, is, same))

ahead_apart : (pc now : ℕ) → IsAhead pc now → (even now == pc) ≡ false
ahead_apart pc now ahead = elim ahead [
  | inl one ↦ one_apart pc now one
  | inr two ↦ two_apart pc now two
]

read_elsewhere : (pc : ℕ) (size : Size) (place : ℕ) → IsElsewhere pc (Some (read_at size place))
read_elsewhere pc Byte place = refl
read_elsewhere pc Word place = refl

write_elsewhere : (pc : ℕ) (size : Size) (place number : ℕ)
    → IsElsewhere pc (Some (write_at size place number))
write_elsewhere pc Byte place number = refl
write_elsewhere pc Word place number = refl

-- accesses of which none is a fetch
abbrev IsNoFetch : CpuAccess → Type 0
IsNoFetch FetchImmediate = ⊥
IsNoFetch (FetchSourceIndex register) = ⊥
IsNoFetch (FetchDestinationIndex register) = ⊥
IsNoFetch access = Unit {0}

abbrev HaveNoFetch : List CpuAccess → Type 0
HaveNoFetch [] = Unit {0}
HaveNoFetch (access ∷ accesses) = IsNoFetch access × HaveNoFetch accesses

no_fetch-access : (pc : ℕ) (head : Head) (access : CpuAccess) (work : WorkingState)
    → IsNoFetch access → IsElsewhere pc (Some (bus_access head access work))
no_fetch-access pc head FetchImmediate work none = absurd none
no_fetch-access pc head (FetchSourceIndex register) work none = absurd none
no_fetch-access pc head ReadSource work none = read_elsewhere pc _ _
no_fetch-access pc head (ReadIncrementing register) work none = read_elsewhere pc _ _
no_fetch-access pc head (FetchDestinationIndex register) work none = absurd none
no_fetch-access pc head ReadDestination work none = read_elsewhere pc _ _
no_fetch-access pc head WriteResult work none = write_elsewhere pc _ _ _
no_fetch-access pc head PushSource work none = write_elsewhere pc _ _ _
no_fetch-access pc head PushPc work none = refl
no_fetch-access pc head PopSr work none = refl
no_fetch-access pc head PopPc work none = refl

no_fetch-walk : (pc : ℕ) (head : Head) (accesses : List CpuAccess) (work : WorkingState)
    (values : List ℕ)
    → HaveNoFetch accesses → IsElsewhere pc (ask_of (walk head accesses work values))
no_fetch-walk pc head [] work values none = refl
no_fetch-walk pc head (access ∷ accesses) work [] none =
    no_fetch-access pc head access work none.0
no_fetch-walk pc head (access ∷ accesses) work (value ∷ values) none =
    no_fetch-walk pc head accesses (after_value head access value work) values none.1

no_fetch-result : (op : Op2) → HaveNoFetch (result_accesses op)
no_fetch-result Mov = (tt, tt)
no_fetch-result Add = (tt, (tt, tt))
no_fetch-result Addc = (tt, (tt, tt))
no_fetch-result Subc = (tt, (tt, tt))
no_fetch-result Sub = (tt, (tt, tt))
no_fetch-result Cmp = (tt, tt)
no_fetch-result Dadd = (tt, (tt, tt))
no_fetch-result Bit = (tt, tt)
no_fetch-result Bic = (tt, (tt, tt))
no_fetch-result Bis = (tt, (tt, tt))
no_fetch-result Xor = (tt, (tt, tt))
no_fetch-result And = (tt, (tt, tt))

no_fetch-back : (source : SourceForm) → HaveNoFetch (write_back source)
no_fetch-back (Register register) = tt
no_fetch-back (Indexed register) = (tt, tt)
no_fetch-back (Indirect register) = (tt, tt)
no_fetch-back (IndirectInc register) = (tt, tt)
no_fetch-back Immediate = tt
no_fetch-back (Constant constant) = tt

no_fetch-operand : (op : One) (source : SourceForm) → HaveNoFetch (operand_accesses op source)
no_fetch-operand Push source = (tt, tt)
no_fetch-operand Call source = (tt, tt)
no_fetch-operand Rrc source = no_fetch-back source
no_fetch-operand Swpb source = no_fetch-back source
no_fetch-operand Rra source = no_fetch-back source
no_fetch-operand Sxt source = no_fetch-back source

-- a tail of accesses that fetches nothing at `pc` once PC has moved on
abbrev GoesElsewhere : ℕ → Head → List CpuAccess → Type 0
GoesElsewhere pc head accesses =
    (work : WorkingState) (values : List ℕ) → IsAhead pc (pc_of work.regs)
    → IsElsewhere pc (ask_of (walk head accesses work values))

destination_elsewhere : (pc : ℕ) (head : Head) (op : Op2) (destination : DestForm)
    → GoesElsewhere pc head (destination_accesses op destination)
destination_elsewhere pc head op (DestRegister register) work values ahead = refl
destination_elsewhere pc head op (DestIndexed register) work [] ahead =
    ahead_apart pc (pc_of work.regs) ahead
destination_elsewhere pc head op (DestIndexed register) work (value ∷ values) ahead =
    no_fetch-walk pc head (result_accesses op)
    (after_value head (FetchDestinationIndex register) value work) values (no_fetch-result op)

operand_elsewhere : (pc : ℕ) (head : Head) (op : One) (source : SourceForm)
    → GoesElsewhere pc head (operand_accesses op source)
operand_elsewhere pc head op source work values ahead =
    no_fetch-walk pc head (operand_accesses op source) work values (no_fetch-operand op source)

-- PC after a word more
word_ahead : (pc : ℕ) (regs : List ℕ) → IsProper regs → pc_of regs ≡ one_on pc
    → pc_of (after_word regs) ≡ two_on pc
word_ahead pc [] proper is = absurd proper
word_ahead pc (now ∷ rest) proper is = ap (λ (p : ℕ). even (plus p 2)) is

-- PC after an increment, of R0 too
increment_ahead : (pc : ℕ) (size : Size) (register : Reg) (regs : List ℕ)
    → IsProper regs → pc % 2 ≡ 0 → pc_of regs ≡ one_on pc
    → IsAhead pc (pc_of (after_increment size register regs))
increment_ahead pc size register [] proper is_even is = absurd proper
increment_ahead pc Byte R0 (now ∷ rest) proper is_even is = inl (omega (arith, is, is_even))
increment_ahead pc Word R0 (now ∷ rest) proper is_even is =
    inr (ap (λ (p : ℕ). even (plus p 2)) is)
increment_ahead pc size R1 (now ∷ rest) proper is_even is = inl is
increment_ahead pc size R2 (now ∷ rest) proper is_even is = inl is
increment_ahead pc size R3 (now ∷ rest) proper is_even is = inl is
increment_ahead pc size R4 (now ∷ rest) proper is_even is = inl is
increment_ahead pc size R5 (now ∷ rest) proper is_even is = inl is
increment_ahead pc size R6 (now ∷ rest) proper is_even is = inl is
increment_ahead pc size R7 (now ∷ rest) proper is_even is = inl is
increment_ahead pc size R8 (now ∷ rest) proper is_even is = inl is
increment_ahead pc size R9 (now ∷ rest) proper is_even is = inl is
increment_ahead pc size R10 (now ∷ rest) proper is_even is = inl is
increment_ahead pc size R11 (now ∷ rest) proper is_even is = inl is
increment_ahead pc size R12 (now ∷ rest) proper is_even is = inl is
increment_ahead pc size R13 (now ∷ rest) proper is_even is = inl is
increment_ahead pc size R14 (now ∷ rest) proper is_even is = inl is
increment_ahead pc size R15 (now ∷ rest) proper is_even is = inl is

source_elsewhere : (pc : ℕ) (head : Head) (source : SourceForm) (tail : List CpuAccess)
    (work : WorkingState) (values : List ℕ)
    → IsProper work.regs → pc % 2 ≡ 0 → pc_of work.regs ≡ one_on pc
    → GoesElsewhere pc head tail
    → IsElsewhere pc (ask_of (walk head (source_accesses source ++ tail) work values))
source_elsewhere pc head (Register register) tail work values proper is_even is goes =
    goes work values (inl is)
source_elsewhere pc head (Indexed register) tail work [] proper is_even is goes =
    one_apart pc (pc_of work.regs) is
source_elsewhere pc head (Indexed register) tail work (first ∷ []) proper is_even is goes =
    read_elsewhere pc _ _
source_elsewhere pc head (Indexed register) tail work (first ∷ second ∷ values) proper is_even is
    goes =
    goes
    (after_value head ReadSource second (after_value head (FetchSourceIndex register) first work))
    values (inr (word_ahead pc work.regs proper is))
source_elsewhere pc head (Indirect register) tail work [] proper is_even is goes =
    read_elsewhere pc _ _
source_elsewhere pc head (Indirect register) tail work (first ∷ values) proper is_even is goes =
    goes (after_value head ReadSource first work) values (inl is)
source_elsewhere pc head (IndirectInc register) tail work [] proper is_even is goes =
    read_elsewhere pc _ _
source_elsewhere pc head (IndirectInc register) tail work (first ∷ values) proper is_even is goes =
    goes (after_value head (ReadIncrementing register) first work) values
    (increment_ahead pc (size_of head) register work.regs proper is_even is)
source_elsewhere pc head Immediate tail work [] proper is_even is goes =
    one_apart pc (pc_of work.regs) is
source_elsewhere pc head Immediate tail work (first ∷ values) proper is_even is goes =
    goes (after_value head FetchImmediate first work) values
    (inr (word_ahead pc work.regs proper is))
source_elsewhere pc head (Constant constant) tail work values proper is_even is goes =
    goes work values (inl is)

-- after the opcode
start_on : (regs : List ℕ) → IsProper regs
    → IsProper (after_word regs) × (pc_of (after_word regs) ≡ one_on (pc_of regs))
start_on [] proper = absurd proper
start_on (pc ∷ rest) proper = (omega arith, refl)

own_even : (regs : List ℕ) → IsProper regs → pc_of regs % 2 ≡ 0
own_even [] proper = absurd proper
own_even (pc ∷ rest) proper = proper

head_elsewhere : (head : Option Head) (regs values : List ℕ) → IsProper regs
    → IsElsewhere (pc_of regs) (ask_of (walk_head head regs values))
head_elsewhere None regs values proper = refl
head_elsewhere (Some (Two op size source destination)) regs values proper =
    let head : Head = Two op size source destination in
    let on = start_on regs proper in
    source_elsewhere (pc_of regs) head source (destination_accesses op destination)
    (state_at_start head regs) values on.0
    (own_even regs proper) on.1 (destination_elsewhere (pc_of regs) head op destination)
head_elsewhere (Some (OneOperand op size source)) regs values proper =
    let head : Head = OneOperand op size source in
    let on = start_on regs proper in
    source_elsewhere (pc_of regs) head source (operand_accesses op source)
    (state_at_start head regs) values on.0
    (own_even regs proper) on.1 (operand_elsewhere (pc_of regs) head op source)
head_elsewhere (Some Reti) regs values proper =
    no_fetch-walk (pc_of regs) Reti (PopSr ∷ PopPc ∷ []) (state_at_start Reti regs) values
    (tt, (tt, tt))
head_elsewhere (Some (Jump condition offset)) regs values proper = refl

-- after its opcode an instruction fetches nothing at its own address
pub later_elsewhere : (regs : List ℕ) (word : ℕ) (values : List ℕ) → IsProper regs
    → fetches_at (ask_of (next_access regs (word ∷ values))) (pc_of regs) ≡ false
unfolding next_access
later_elsewhere regs word values proper = head_elsewhere (head_of word) regs values proper

same_even : (pc : ℕ) → pc % 2 ≡ 0 → (even pc == pc) ≡ true
same_even pc is_even = eq-eqb (even pc) pc (omega (arith, is_even))

-- the opcode is fetched there
pub own_fetch : (regs : List ℕ) → IsProper regs
    → fetches_at (ask_of (next_access regs [])) (pc_of regs) ≡ true
unfolding next_access
own_fetch regs proper = same_even (pc_of regs) (own_even regs proper)

-- After every play the registers of the progress have an even PC.

abbrev pub IsProperProgress : Progress → Type 0
IsProperProgress Held = Unit {0}
IsProperProgress (Runs cpu) = IsProperCpu cpu
IsProperProgress (InCall regs words) = IsProper regs

from_boundary-proper : (regs : List ℕ) (kind : Kind) (vector : Option ℕ) → IsProper regs
    → IsProperProgress (progress_from_boundary regs kind vector)
from_boundary-proper regs Rom vector proper = proper
from_boundary-proper regs Irq None proper = proper
from_boundary-proper regs Irq (Some vector) proper = proper
from_boundary-proper regs Boot vector proper = proper
from_boundary-proper regs Cpu vector proper = proper
from_boundary-proper regs Idle vector proper = proper

progress_within-proper : (progress : Progress) (kind : Kind) (vector : Option ℕ)
    → IsProperProgress progress → IsProperProgress (progress_within progress kind vector)
progress_within-proper Held kind vector proper = proper
progress_within-proper (Runs (Boundary regs)) kind vector proper =
    from_boundary-proper regs kind vector proper
progress_within-proper (Runs (Executing regs values)) kind vector proper = proper
progress_within-proper (Runs (Entering regs choice values)) kind vector proper = proper
progress_within-proper (InCall regs words) kind vector proper = proper

call_after-proper : (regs words : List ℕ) (word : ℕ) → IsProper regs
    → IsProperProgress (call_after regs words word)
call_after-proper regs words word proper =
    cond_both (is_return (call_item words)) (after_return regs word) _ IsProperProgress
    (λ returns. with_pc-proper (after_pop regs) word (with_register-proper regs R1 _ proper))
    (λ goes_on. proper)

next_progress-proper : (kind : Kind) (progress : Progress) (access : Option Access) (value : ℕ)
    → IsProperProgress progress → IsProperProgress (next_progress kind progress access value)
next_progress-proper kind Held access value proper = with_pc-proper clear_registers value refl
next_progress-proper kind (Runs cpu) access value proper =
    cpu_state_after-kept IsProperCpu kind cpu value proper (cpu_after-proper cpu value proper)
next_progress-proper kind (InCall regs words) access value proper =
    call_after-proper regs words (word_passed access value) proper

pub logs_after-proper : (start : Start) (play : Play)
    → IsProperProgress (logs_after start play).progress
logs_after-proper =
    logs_after-kept (λ progress last. IsProperProgress progress) (record {
      held = λ last. tt;
      goes_on = λ start logs reset proper none access value.
          next_progress-proper (step_kind logs) _ access value
          (progress_within-proper logs.progress (step_kind logs) (vector_of logs) proper);
    })

-- a step is an opcode fetch exactly where the processor fetches at its own `pc`
opcode_of : (start : Start) (releases : ℕ) (kind : Kind) (progress : Progress) (vector : Option ℕ)
    → IsProperProgress progress → kind ≡ kind_of progress vector
    → (is_cpu kind && fetches_at (access_of start releases kind
    (progress_within progress kind vector)) (next_pc_of (progress_within progress kind vector)))
    ≡ fetches_opcode kind progress
opcode_of start releases Boot progress vector proper is = refl
opcode_of start releases Idle progress vector proper is = refl
opcode_of start releases Irq progress vector proper is = refl
opcode_of start releases Rom progress vector proper is = refl
opcode_of start releases Cpu Held vector proper is = absurd (cc)
opcode_of start releases Cpu (InCall regs words) vector proper is = absurd (cc)
opcode_of start releases Cpu (Runs (Boundary regs)) vector proper is = own_fetch regs proper
opcode_of start releases Cpu (Runs (Executing regs [])) vector proper is = absurd proper
opcode_of start releases Cpu (Runs (Executing regs (word ∷ values))) vector proper is =
    later_elsewhere regs word values proper
opcode_of start releases Cpu (Runs (Entering regs choice values)) vector proper is = absurd (cc)

-- of the next step
pub opcode_in : (start : Start) (logs : Logs) (reset : Bool) → IsProperProgress logs.progress
    → (is_cpu (signals_of start logs reset).kind
    && fetches_at (signals_of start logs reset).cpu (signals_of start logs reset).pc)
    ≡ (signals_of start logs reset).opcode
unfolding signals_at
opcode_in start logs reset proper =
    opcode_of start (length logs.released_words) (step_kind logs) logs.progress (vector_of logs)
    proper refl
