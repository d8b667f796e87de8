-- What a wire of a step shows has as many bits as a reader takes.
use Rattle.std.{proofs.Common.{◌≡◌, ℕ, ◌^◌, ◌<◌, Bool, Option, Some, None, IfSome, refl, arith, rules}, specs.Bool.MatchBool}
use Rattle.word_arith.specs.{declared.size.Size.TheVariants.{Byte, Word}, Number.bit_of}
use Rattle.device_types.specs.{declared.{access.Access.{Access, TheVariants.{Fetch, Read, Write}}, kind.Kind.Kind, rule.Rule.Rule}, Kind.kind_name}
use Rattle.trace_files.specs.{LineReadBack.IsAllowed, declared.{sample.Sample.Sample, wire.Wire.{Wire, TheVariants.{Pc, StepKind, Irq, Asked, BrokenRule, CpuOp, CpuAddress, CpuData, FetchWord, DmaOp, DmaAddress, DmaData, ErMin, ErMax, OrMin, OrMax, Exec, Sp, Sr, R4, R5, R6, R7, R8, R9, R10, R11, R12, R13, R14, R15, Aux, TimerFlag, Pins, Sent, Received}}}, WaveReadBack.IsShowable, WireValue.{access_data, access_letter, access_place, of_access, rule_number, text_number, wire_value}, WaveText.is_bit}

-- a number of 32 bits, or none
abbrev pub IsShort : Option ℕ → Type 0
IsShort value = IfSome value (λ number. number < 2 ^ 32)

-- on a wire of one bit a bit
abbrev pub Suits : Wire → Option ℕ → Type 0
Suits wire value =
    MatchBool (is_bit wire) ((bit : Bool) × (value ≡ Some (bit_of bit))) (IsShort value)

short-kind : (kind : Kind) → text_number (kind_name kind) < 2 ^ 32
short-kind = search rules

short-rule : (rule : Option Rule) → rule_number rule < 2 ^ 32
short-rule = search rules

short-letter : (access : Option Access) → IsShort (of_access access_letter access)
short-letter None = tt
short-letter (Some (Fetch place)) = omega arith
short-letter (Some (Read place Word)) = omega arith
short-letter (Some (Read place Byte)) = omega arith
short-letter (Some (Write place Word number)) = omega arith
short-letter (Some (Write place Byte number)) = omega arith

short-place : (access : Option Access) → IfSome access IsAllowed
    → IsShort (of_access access_place access)
short-place None allowed = tt
short-place (Some (Fetch place)) allowed = omega (arith, allowed.words)
short-place (Some (Read place size)) allowed = omega (arith, allowed.words)
short-place (Some (Write place size number)) allowed = omega (arith, allowed.words.0)

short-data : (value : ℕ) (access : Option Access) → value < 2 ^ 16 → IfSome access IsAllowed
    → IsShort (of_access (access_data value) access)
short-data value None small allowed = tt
short-data value (Some (Fetch place)) small allowed = omega (arith, small)
short-data value (Some (Read place size)) small allowed = omega (arith, small)
short-data value (Some (Write place size number)) small allowed = omega (arith, allowed.words.1)

short-byte : (byte : Option ℕ) → IfSome byte (λ number. number < 2 ^ 8) → IsShort byte
short-byte None small = tt
short-byte (Some byte) small = omega (arith, small)

pub suits : (sample : Sample) → IsShowable sample → (wire : Wire)
    → Suits wire (wire_value wire sample)
suits sample showable Pc = omega (arith, showable.line.pc)
suits sample showable StepKind = short-kind sample.line.kind
suits sample showable Irq = (sample.line.irq, refl)
suits sample showable Asked = (sample.line.asked, refl)
suits sample showable BrokenRule = short-rule sample.line.rule
suits sample showable CpuOp = short-letter sample.line.cpu
suits sample showable CpuAddress = short-place sample.line.cpu showable.line.cpu
suits sample showable CpuData =
    short-data sample.line.value sample.line.cpu showable.line.value showable.line.cpu
suits sample showable FetchWord = omega (arith, showable.line.word)
suits sample showable DmaOp = short-letter sample.line.dma
suits sample showable DmaAddress = short-place sample.line.dma showable.line.dma
suits sample showable DmaData =
    short-data sample.line.dma_value sample.line.dma showable.line.dma_value showable.line.dma
suits sample showable ErMin = omega (arith, showable.line.bounds.er_min)
suits sample showable ErMax = omega (arith, showable.line.bounds.er_max)
suits sample showable OrMin = omega (arith, showable.line.bounds.or_min)
suits sample showable OrMax = omega (arith, showable.line.bounds.or_max)
suits sample showable Exec = (sample.line.exec, refl)
suits sample showable Sp = omega (arith, showable.registers 1)
suits sample showable Sr = omega (arith, showable.registers 2)
suits sample showable R4 = omega (arith, showable.registers 4)
suits sample showable R5 = omega (arith, showable.registers 5)
suits sample showable R6 = omega (arith, showable.registers 6)
suits sample showable R7 = omega (arith, showable.registers 7)
suits sample showable R8 = omega (arith, showable.registers 8)
suits sample showable R9 = omega (arith, showable.registers 9)
suits sample showable R10 = omega (arith, showable.registers 10)
suits sample showable R11 = omega (arith, showable.registers 11)
suits sample showable R12 = omega (arith, showable.registers 12)
suits sample showable R13 = omega (arith, showable.registers 13)
suits sample showable R14 = omega (arith, showable.registers 14)
suits sample showable R15 = omega (arith, showable.registers 15)
suits sample showable Aux = (sample.state.aux, refl)
suits sample showable TimerFlag = (sample.state.timer_flag, refl)
suits sample showable Pins = omega (arith, showable.pins)
suits sample showable Sent = short-byte sample.ports.sent showable.sent
suits sample showable Received = short-byte sample.ports.received showable.received
