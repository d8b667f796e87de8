-- What is left of an instruction after one of its accesses.
use Rattle.std.specs.Prelude.{List, [], ◌∷◌, Option, Some, None}
use Rattle.word_arith.specs.{declared.op2.Op2.{Op2, TheVariants.{Cmp, Bit}}}
use Rattle.msp_decode.specs.{declared.head.Head.{Head, TheVariants.{Two, One, Reti, Jump}}}
use Rattle.part_definitions.specs.{declared.cpu_access.CpuAccess.{CpuAccess, TheVariants.{FetchImmediate, FetchSourceIndex, ReadSource, ReadIncrementing, FetchDestinationIndex, ReadDestination, WriteResult, PushSource, PushPc, PopSr, PopPc}}, CpuAccess.{result_accesses, destination_accesses, operand_accesses}}

-- once the source is known
abbrev pub after_source : Head → List CpuAccess
after_source (Two op size source destination) = destination_accesses op destination
after_source (One op size source) = operand_accesses op source
after_source Reti = []
after_source (Jump condition offset) = []

-- once the place of the destination is known; only two operands have one
abbrev pub after_index : Head → List CpuAccess
after_index (Two op size source destination) = result_accesses op
after_index (One op size source) = []
after_index Reti = []
after_index (Jump condition offset) = []

-- what writes the result of two operands
abbrev pub write_accesses : Op2 → List CpuAccess
write_accesses Cmp = []
write_accesses Bit = []
write_accesses op = WriteResult ∷ []

-- once the destination was read
abbrev pub after_read : Head → List CpuAccess
after_read (Two op size source destination) = write_accesses op
after_read (One op size source) = []
after_read Reti = []
after_read (Jump condition offset) = []

-- after an access
abbrev pub accesses_after : Head → CpuAccess → List CpuAccess
accesses_after head FetchImmediate = after_source head
accesses_after head (FetchSourceIndex register) = ReadSource ∷ after_source head
accesses_after head ReadSource = after_source head
accesses_after head (ReadIncrementing register) = after_source head
accesses_after head (FetchDestinationIndex register) = after_index head
accesses_after head ReadDestination = after_read head
accesses_after head WriteResult = []
accesses_after head PushSource = []
accesses_after head PushPc = []
accesses_after head PopSr = PopPc ∷ []
accesses_after head PopPc = []

-- from an access on, which is the next one if there is one
abbrev pub accesses_from : Head → Option CpuAccess → List CpuAccess
accesses_from head None = []
accesses_from head (Some access) = access ∷ accesses_after head access
