-- The values of the wires while a reader takes the changes of a time: those of the wires whose code
-- is below one are new, and the others old.
use Rattle.std.{proofs.Common.{suc, ◌≡◌, ℕ, Bool, true, List, [], ◌∷◌, map, Option, Some, refl}, specs.Prelude.{◌==◌, ◌&&◌, nat_lt, if◌then◌else◌}}
use Rattle.trace_files.specs.{declared.wire.Wire.{Wire, TheVariants.{Pc, StepKind, Irq, Asked, BrokenRule, CpuOp, CpuAddress, CpuData, FetchWord, DmaOp, DmaAddress, DmaData, ErMin, ErMax, OrMin, OrMax, Exec, Sp, Sr, R4, R5, R6, R7, R8, R9, R10, R11, R12, R13, R14, R15, Aux, TimerFlag, Pins, Sent, Received}}, Wire.{wires, wire_code}, WaveReader.with_value}

abbrev pub stage : (Wire → Option ℕ) → (Wire → Option ℕ) → ℕ → Wire → Option ℕ
stage old new code wire = if nat_lt (wire_code wire) code then new wire else old wire

abbrev pub staged : (Wire → Option ℕ) → (Wire → Option ℕ) → ℕ → List (Option ℕ)
staged old new code = map (stage old new code) wires

-- a change of the wire with this code goes on to the next one
pub replaced : (old new : Wire → Option ℕ) (wire : Wire)
    → with_value (wire_code wire) (new wire) wires (staged old new (wire_code wire))
    ≡ Some (staged old new (suc (wire_code wire)))
replaced old new Pc = refl
replaced old new StepKind = refl
replaced old new Irq = refl
replaced old new Asked = refl
replaced old new BrokenRule = refl
replaced old new CpuOp = refl
replaced old new CpuAddress = refl
replaced old new CpuData = refl
replaced old new FetchWord = refl
replaced old new DmaOp = refl
replaced old new DmaAddress = refl
replaced old new DmaData = refl
replaced old new ErMin = refl
replaced old new ErMax = refl
replaced old new OrMin = refl
replaced old new OrMax = refl
replaced old new Exec = refl
replaced old new Sp = refl
replaced old new Sr = refl
replaced old new R4 = refl
replaced old new R5 = refl
replaced old new R6 = refl
replaced old new R7 = refl
replaced old new R8 = refl
replaced old new R9 = refl
replaced old new R10 = refl
replaced old new R11 = refl
replaced old new R12 = refl
replaced old new R13 = refl
replaced old new R14 = refl
replaced old new R15 = refl
replaced old new Aux = refl
replaced old new TimerFlag = refl
replaced old new Pins = refl
replaced old new Sent = refl
replaced old new Received = refl

-- and so does none, where the value is the same
pub kept : (old new : Wire → Option ℕ) (wire : Wire) → old wire ≡ new wire
    → staged old new (wire_code wire) ≡ staged old new (suc (wire_code wire))
kept old new Pc same = rw same refl
kept old new StepKind same = rw same refl
kept old new Irq same = rw same refl
kept old new Asked same = rw same refl
kept old new BrokenRule same = rw same refl
kept old new CpuOp same = rw same refl
kept old new CpuAddress same = rw same refl
kept old new CpuData same = rw same refl
kept old new FetchWord same = rw same refl
kept old new DmaOp same = rw same refl
kept old new DmaAddress same = rw same refl
kept old new DmaData same = rw same refl
kept old new ErMin same = rw same refl
kept old new ErMax same = rw same refl
kept old new OrMin same = rw same refl
kept old new OrMax same = rw same refl
kept old new Exec same = rw same refl
kept old new Sp same = rw same refl
kept old new Sr same = rw same refl
kept old new R4 same = rw same refl
kept old new R5 same = rw same refl
kept old new R6 same = rw same refl
kept old new R7 same = rw same refl
kept old new R8 same = rw same refl
kept old new R9 same = rw same refl
kept old new R10 same = rw same refl
kept old new R11 same = rw same refl
kept old new R12 same = rw same refl
kept old new R13 same = rw same refl
kept old new R14 same = rw same refl
kept old new R15 same = rw same refl
kept old new Aux same = rw same refl
kept old new TimerFlag same = rw same refl
kept old new Pins same = rw same refl
kept old new Sent same = rw same refl
kept old new Received same = rw same refl

-- the wires have the codes from this one on, in their order
abbrev pub are_numbered : ℕ → List Wire → Bool
are_numbered code [] = true
are_numbered code (wire ∷ later) = (wire_code wire == code) && are_numbered (suc code) later

pub numbered_wires : are_numbered 65 wires ≡ true
numbered_wires = refl
