-- Each access is made by a place and a size that clear bit 0 of a word's place, so it is well
-- formed.
use Rattle.std.proofs.{Common.{slice_index, ◌≡◌, ◌/◌, ◌%◌, ℕ, zero, suc, List, [], ◌∷◌, length, Bool, Option, Some, None, IfSome, All, arith, ◌==◌}, lemmas.Bool.cond_both, Math.Nat.mul-mod_left}
use Rattle.word_arith.specs.{declared.size.Size.{Size, TheVariants.{Byte, Word}}}
use Rattle.msp_decode.specs.{declared.head.Head.Head, Head.head_of}
use Rattle.device_types.specs.{Access.{IsFormed, without_number}, declared.{access.Access.{Access, TheVariants.{Fetch, Read, Write}}, event.Event.Event, bounds.Bounds.Bounds, kind.Kind.{Kind, TheVariants.{Boot, Cpu, Idle, Irq, Rom}}, rule.Rule.Rule}, Map.{RESET_VECTOR, mac_region}}
use Rattle.part_definitions.specs.{BusAccess.{fetch_at, read_at, write_at}, Attestation.{CallItem, KeyRead, MetadataRead, KeptRead, KeptWrite, DecisionWrite, DerivedKeyWrite, RegionRead, InnerDigestWrite, MacWrite, ReturnRead, item_access, bounds_read, call_item}, declared.{cpu_access.CpuAccess.{CpuAccess, TheVariants.{FetchImmediate, FetchSourceIndex, ReadSource, ReadIncrementing, FetchDestinationIndex, ReadDestination, WriteResult, PushSource, PushPc, PopSr, PopPc}}, working_state.WorkingState.WorkingState}, CpuAccess.accesses_of, CpuState.{CpuState, Boundary, Executing, Entering, ask_of, cpu_access}, Dma.{Transfer, is_active, place_of_word, access_at, transfer_access, dma_access, transfer_of}, Instruction.{bus_access, after_value}, NextAccess.{walk, walk_head, next_access, entry_access}, Operand.{size_of, state_at_start}}
use Rattle.device_trace.specs.{Progress.{Progress, Held, Runs, InCall, running_access, access_of}, Logs.{Logs, step_progress}, Signals.{signals_at, step_kind, proposed_access}, Start.Start, Step.{access_recorded, record_of, next_record}, Trace.trace, AccessesAreFormed.AccessesAreFormed}

fetch_at-formed : (place : ℕ) → IsFormed (fetch_at place)
fetch_at-formed place = mul-mod_left (place / 2) 2

read_at-formed : (size : Size) (place : ℕ) → IsFormed (read_at size place)
read_at-formed Byte place = tt
read_at-formed Word place = mul-mod_left (place / 2) 2

write_at-formed : (size : Size) (place number : ℕ) → IsFormed (write_at size place number)
write_at-formed Byte place number = omega arith
write_at-formed Word place number = mul-mod_left (place / 2) 2

-- the accesses of an instruction
bus_access-formed : (head : Head) (access : CpuAccess) (work : WorkingState)
    → IsFormed (bus_access head access work)
bus_access-formed head FetchImmediate work = fetch_at-formed _
bus_access-formed head (FetchSourceIndex register) work = fetch_at-formed _
bus_access-formed head ReadSource work = read_at-formed (size_of head) _
bus_access-formed head (ReadIncrementing register) work = read_at-formed (size_of head) _
bus_access-formed head (FetchDestinationIndex register) work = fetch_at-formed _
bus_access-formed head ReadDestination work = read_at-formed (size_of head) _
bus_access-formed head WriteResult work = write_at-formed (size_of head) _ _
bus_access-formed head PushSource work = write_at-formed (size_of head) _ _
bus_access-formed head PushPc work = write_at-formed Word _ 0
bus_access-formed head PopSr work = read_at-formed Word _
bus_access-formed head PopPc work = read_at-formed Word _

walk-formed :
    (head : Head) (accesses : List CpuAccess) (work : WorkingState) (values : List ℕ)
    → IfSome (ask_of (walk head accesses work values)) IsFormed
walk-formed head [] work values = tt
walk-formed head (access ∷ accesses) work [] = bus_access-formed head access work
walk-formed head (access ∷ accesses) work (value ∷ values) =
    walk-formed head accesses (after_value head access value work) values

walk_head-formed :
    (head : Option Head) (regs values : List ℕ)
    → IfSome (ask_of (walk_head head regs values)) IsFormed
walk_head-formed None regs values = tt
walk_head-formed (Some head) regs values =
    walk-formed head (accesses_of head) (state_at_start head regs) values

next_access-formed : (regs values : List ℕ)
    → IfSome (ask_of (next_access regs values)) IsFormed
unfolding next_access
next_access-formed regs [] = fetch_at-formed _
next_access-formed regs (word ∷ values) = walk_head-formed (head_of word) regs values

-- the accesses of an interrupt entry
entry_access-formed :
    (regs : List ℕ) (vector : ℕ) (values : List ℕ)
    → IfSome (ask_of (entry_access regs vector values)) IsFormed
unfolding entry_access
entry_access-formed regs vector [] = write_at-formed Word _ 0
entry_access-formed regs vector (first ∷ []) = write_at-formed Word _ 0
entry_access-formed regs vector (first ∷ second ∷ []) = read_at-formed Word _
entry_access-formed regs vector (first ∷ second ∷ word ∷ values) = tt

cpu_access-formed : (cpu : CpuState) → IfSome (cpu_access cpu) IsFormed
cpu_access-formed (Boundary regs) = next_access-formed regs []
cpu_access-formed (Executing regs values) = next_access-formed regs values
cpu_access-formed (Entering regs vector values) = entry_access-formed regs vector values

running_access-formed : (kind : Kind) (cpu : CpuState) → IfSome (running_access kind cpu) IsFormed
running_access-formed Boot cpu = cpu_access-formed cpu
running_access-formed Cpu cpu = cpu_access-formed cpu
running_access-formed Idle cpu = tt
running_access-formed Irq cpu = cpu_access-formed cpu
running_access-formed Rom cpu = cpu_access-formed cpu

-- the accesses of a call
item_access-formed :
    (sp : ℕ) (bounds : Bounds) (item : CallItem) (number : ℕ)
    → IsFormed (item_access sp bounds item number)
item_access-formed sp bounds (KeyRead i) number = read_at-formed Word _
item_access-formed sp bounds (MetadataRead i) number = read_at-formed Word _
item_access-formed sp bounds (KeptRead i) number = read_at-formed Word _
item_access-formed sp bounds (KeptWrite i) number = write_at-formed Word _ 0
item_access-formed sp bounds DecisionWrite number = write_at-formed Word mac_region.first 0
item_access-formed sp bounds (DerivedKeyWrite i) number = write_at-formed Word _ 0
item_access-formed sp bounds (RegionRead i) number = read_at-formed Word _
item_access-formed sp bounds (InnerDigestWrite i) number = write_at-formed Word _ 0
item_access-formed sp bounds (MacWrite i) number = write_at-formed Word _ 0
item_access-formed sp bounds ReturnRead number = read_at-formed Word _

pub access_of-formed :
    (start : Start) (releases : ℕ) (kind : Kind) (progress : Progress)
    → IfSome (access_of start releases kind progress) IsFormed
access_of-formed start releases kind Held = read_at-formed Word RESET_VECTOR
access_of-formed start releases kind (Runs cpu) = running_access-formed kind cpu
access_of-formed start releases kind (InCall regs words) =
    item_access-formed _ (bounds_read words) (call_item words) _

-- the accesses of the DMA engine
place_of_word-even : (address i : ℕ) → place_of_word address i % 2 ≡ 0
place_of_word-even address i = omega arith

access_at-formed : (transfer : Transfer) (distance : ℕ) → IsFormed (access_at transfer distance)
access_at-formed transfer distance =
    cond_both (distance % 2 == 0) (Read (place_of_word transfer.source (distance / 2)) Word)
    (Write (place_of_word transfer.destination (distance / 2)) Word
    (slice_index transfer.values 0)) IsFormed
    (λ even. place_of_word-even transfer.source (distance / 2))
    (λ odd. place_of_word-even transfer.destination (distance / 2))

pub transfer_access-formed : (transfer : Transfer) → IfSome (transfer_access transfer) IsFormed
transfer_access-formed transfer =
    cond_both (is_active transfer) (Some (access_at transfer (length transfer.values))) None
    (λ access. IfSome access IsFormed)
    (λ active. access_at-formed transfer (length transfer.values))
    (λ idle. tt)

without_number-formed : (access : Option Access) → IfSome access IsFormed
    → IfSome (without_number access) IsFormed
without_number-formed None is_formed = tt
without_number-formed (Some (Fetch place)) is_formed = is_formed
without_number-formed (Some (Read place size)) is_formed = is_formed
without_number-formed (Some (Write place Byte number)) is_formed = omega arith
without_number-formed (Some (Write place Word number)) is_formed = is_formed

access_recorded-formed :
    (rule : Option Rule) (access : Option Access) → IfSome access IsFormed
    → IfSome (access_recorded rule access) IsFormed
access_recorded-formed None access is_formed = is_formed
access_recorded-formed (Some rule) access is_formed = without_number-formed access is_formed

pub record_of-formed : (start : Start) (logs : Logs) (reset : Bool)
    → AccessesAreFormed (record_of start logs reset)
unfolding record_of signals_at
record_of-formed start logs reset =
    record {
      cpu = access_recorded-formed _ (proposed_access start logs (step_kind logs))
          (access_of-formed start (length logs.released_words) (step_kind logs)
          (step_progress logs (step_kind logs)));
      dma =
          access_recorded-formed _ (dma_access logs.peripherals.dma)
          (transfer_access-formed (transfer_of logs.peripherals.dma));
    }

pub next_record-formed :
    (start : Start) (logs : Logs) (events : List Event)
    → AccessesAreFormed (next_record start logs events)
unfolding next_record
next_record-formed start logs events = record_of-formed start _ _

-- each record of a play
pub trace-formed : (start : Start) (play : List (List Event))
    → All AccessesAreFormed (trace start play)
unfolding trace
trace-formed start [] place default within = absurd (omega (arith, within))
trace-formed start (events ∷ play) zero default within = next_record-formed start _ events
trace-formed start (events ∷ play) (suc place) default within =
    trace-formed start play place default (omega (arith, within))
