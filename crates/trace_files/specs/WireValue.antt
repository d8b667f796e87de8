-- What the wires show of a step.
use Rattle.std.specs.Prelude.{◌+◌, ◌*◌, ◌==◌, ℕ, Bool, true, false, List, [], ◌∷◌, Option, Some, None, slice_index}
use Rattle.word_arith.specs.{declared.size.Size.TheVariants.{Byte, Word}, Number.bit_of}
use Rattle.device_types.specs.{declared.{access.Access.{Access, TheVariants.{Fetch, Read, Write}}, rule.Rule.Rule}, Kind.kind_name, Rule.rule_name}
use Rattle.trace_files.specs.{declared.{sample.Sample.Sample, wire.Wire.{Wire, TheVariants.{Pc, StepKind, Irq, Asked, BrokenRule, CpuOp, CpuAddress, CpuData, FetchWord, DmaOp, DmaAddress, DmaData, ErMin, ErMax, OrMin, OrMax, Exec, Sp, Sr, R4, R5, R6, R7, R8, R9, R10, R11, R12, R13, R14, R15, Aux, TimerFlag, Pins, Sent, Received}}}}

-- characters as one number, 8 bits each
abbrev pub number_onto : ℕ → List ℕ → ℕ
number_onto number [] = number
number_onto number (character ∷ characters) = number_onto (256 * number + character) characters

abbrev pub text_number : List ℕ → ℕ
text_number characters = number_onto 0 characters

-- 0 for no rule
abbrev pub rule_number : Option Rule → ℕ
rule_number None = 0
rule_number (Some rule) = text_number (rule_name rule)

-- the letter of an access: f a fetch, r and b a read of a word and a byte, w and c a write of them
abbrev pub access_letter : Access → ℕ
access_letter (Fetch place) = 102
access_letter (Read place Word) = 114
access_letter (Read place Byte) = 98
access_letter (Write place Word number) = 119
access_letter (Write place Byte number) = 99

abbrev pub access_place : Access → ℕ
access_place (Fetch place) = place
access_place (Read place size) = place
access_place (Write place size number) = place

-- the number that a write carries, else the value that was read
abbrev pub access_data : ℕ → Access → ℕ
access_data value (Write place size number) = number
access_data value access = value

abbrev pub of_access : (Access → ℕ) → Option Access → Option ℕ
of_access shown None = None
of_access shown (Some access) = Some (shown access)

abbrev pub register_value : ℕ → Sample → Option ℕ
register_value number sample = Some (slice_index sample.state.registers number)

-- nothing where no access drives the wire
abbrev pub wire_value : Wire → Sample → Option ℕ
wire_value Pc sample = Some sample.line.pc
wire_value StepKind sample = Some (text_number (kind_name sample.line.kind))
wire_value Irq sample = Some (bit_of sample.line.irq)
wire_value Asked sample = Some (bit_of sample.line.asked)
wire_value BrokenRule sample = Some (rule_number sample.line.rule)
wire_value CpuOp sample = of_access access_letter sample.line.cpu
wire_value CpuAddress sample = of_access access_place sample.line.cpu
wire_value CpuData sample = of_access (access_data sample.line.value) sample.line.cpu
wire_value FetchWord sample = Some sample.line.word
wire_value DmaOp sample = of_access access_letter sample.line.dma
wire_value DmaAddress sample = of_access access_place sample.line.dma
wire_value DmaData sample = of_access (access_data sample.line.dma_value) sample.line.dma
wire_value ErMin sample = Some sample.line.bounds.er_min
wire_value ErMax sample = Some sample.line.bounds.er_max
wire_value OrMin sample = Some sample.line.bounds.or_min
wire_value OrMax sample = Some sample.line.bounds.or_max
wire_value Exec sample = Some (bit_of sample.line.exec)
wire_value Sp sample = register_value 1 sample
wire_value Sr sample = register_value 2 sample
wire_value R4 sample = register_value 4 sample
wire_value R5 sample = register_value 5 sample
wire_value R6 sample = register_value 6 sample
wire_value R7 sample = register_value 7 sample
wire_value R8 sample = register_value 8 sample
wire_value R9 sample = register_value 9 sample
wire_value R10 sample = register_value 10 sample
wire_value R11 sample = register_value 11 sample
wire_value R12 sample = register_value 12 sample
wire_value R13 sample = register_value 13 sample
wire_value R14 sample = register_value 14 sample
wire_value R15 sample = register_value 15 sample
wire_value Aux sample = Some (bit_of sample.state.aux)
wire_value TimerFlag sample = Some (bit_of sample.state.timer_flag)
wire_value Pins sample = Some sample.ports.pins
wire_value Sent sample = sample.ports.sent
wire_value Received sample = sample.ports.received

-- two values are told apart
abbrev pub is_same_value : Option ℕ → Option ℕ → Bool
is_same_value None None = true
is_same_value (Some left) (Some right) = left == right
is_same_value left right = false
