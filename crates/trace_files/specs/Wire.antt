-- The wires of a waveform: what a viewer shows of each step.
use Rattle.std.specs.Prelude.{◌++◌, ℕ, List, [], ◌∷◌, codes}
use Rattle.trace_files.specs.{declared.wire.Wire.{Wire, TheVariants.{Pc, StepKind, Irq, Asked, BrokenRule, CpuOp, CpuAddress, CpuData, FetchWord, DmaOp, DmaAddress, DmaData, ErMin, ErMax, OrMin, OrMax, Exec, Sp, Sr, R4, R5, R6, R7, R8, R9, R10, R11, R12, R13, R14, R15, Aux, TimerFlag, Pins, Sent, Received}}}

-- those of a trace line
abbrev pub line_wires : List Wire
line_wires =
    Pc ∷ StepKind ∷ Irq ∷ Asked ∷ BrokenRule ∷ CpuOp ∷ CpuAddress ∷ CpuData ∷ FetchWord
    ∷ DmaOp ∷ DmaAddress ∷ DmaData ∷ ErMin ∷ ErMax ∷ OrMin ∷ OrMax ∷ Exec ∷ []

-- those of the registers
abbrev pub register_wires : List Wire
register_wires =
    Sp ∷ Sr ∷ R4 ∷ R5 ∷ R6 ∷ R7 ∷ R8 ∷ R9 ∷ R10 ∷ R11 ∷ R12 ∷ R13 ∷ R14 ∷ R15 ∷ []

-- those of the flags of which no line tells
abbrev pub flag_wires : List Wire
flag_wires = Aux ∷ TimerFlag ∷ []

abbrev pub state_wires : List Wire
state_wires = register_wires ++ flag_wires

-- those of the ports
abbrev pub port_wires : List Wire
port_wires = Pins ∷ Sent ∷ Received ∷ []

abbrev pub other_wires : List Wire
other_wires = state_wires ++ port_wires

-- in the order in which they are declared
abbrev pub wires : List Wire
wires = line_wires ++ other_wires

abbrev pub wire_name : Wire → List ℕ
wire_name Pc = codes "pc"
wire_name StepKind = codes "kind"
wire_name Irq = codes "irq"
wire_name Asked = codes "asked"
wire_name BrokenRule = codes "rule"
wire_name CpuOp = codes "cpu_op"
wire_name CpuAddress = codes "cpu_address"
wire_name CpuData = codes "cpu_data"
wire_name FetchWord = codes "fetch_word"
wire_name DmaOp = codes "dma_op"
wire_name DmaAddress = codes "dma_address"
wire_name DmaData = codes "dma_data"
wire_name ErMin = codes "er_min"
wire_name ErMax = codes "er_max"
wire_name OrMin = codes "or_min"
wire_name OrMax = codes "or_max"
wire_name Exec = codes "exec"
wire_name Sp = codes "sp"
wire_name Sr = codes "sr"
wire_name R4 = codes "r4"
wire_name R5 = codes "r5"
wire_name R6 = codes "r6"
wire_name R7 = codes "r7"
wire_name R8 = codes "r8"
wire_name R9 = codes "r9"
wire_name R10 = codes "r10"
wire_name R11 = codes "r11"
wire_name R12 = codes "r12"
wire_name R13 = codes "r13"
wire_name R14 = codes "r14"
wire_name R15 = codes "r15"
wire_name Aux = codes "aux"
wire_name TimerFlag = codes "timer_flag"
wire_name Pins = codes "pins"
wire_name Sent = codes "sent"
wire_name Received = codes "received"

-- how many bits it has; those of names and operations are characters
abbrev pub wire_width : Wire → ℕ
wire_width StepKind = 32
wire_width Irq = 1
wire_width Asked = 1
wire_width CpuOp = 8
wire_width DmaOp = 8
wire_width Exec = 1
wire_width Aux = 1
wire_width TimerFlag = 1
wire_width Sent = 8
wire_width Received = 8
wire_width wire = 16

-- the character by which its changes name it: from A on
abbrev pub wire_code : Wire → ℕ
wire_code Pc = 65
wire_code StepKind = 66
wire_code Irq = 67
wire_code Asked = 68
wire_code BrokenRule = 69
wire_code CpuOp = 70
wire_code CpuAddress = 71
wire_code CpuData = 72
wire_code FetchWord = 73
wire_code DmaOp = 74
wire_code DmaAddress = 75
wire_code DmaData = 76
wire_code ErMin = 77
wire_code ErMax = 78
wire_code OrMin = 79
wire_code OrMax = 80
wire_code Exec = 81
wire_code Sp = 82
wire_code Sr = 83
wire_code R4 = 84
wire_code R5 = 85
wire_code R6 = 86
wire_code R7 = 87
wire_code R8 = 88
wire_code R9 = 89
wire_code R10 = 90
wire_code R11 = 91
wire_code R12 = 92
wire_code R13 = 93
wire_code R14 = 94
wire_code R15 = 95
wire_code Aux = 96
wire_code TimerFlag = 97
wire_code Pins = 98
wire_code Sent = 99
wire_code Received = 100
