-- What a fault is to whoever it is handed on to.
use Rattle.std.specs.{Prelude.{Result, Ok, Err}, declared.alloc.AllocError.AllocError}
use Rattle.outside_edge.specs.declared.sink.Failed.{Failed}
use Rattle.source_server.specs.{declared.{halt.Halt.{Halt, TheVariants.Write}, served.Served.{Served, TheVariants.WriteFault}}}
use Rattle.text_scan.specs.declared.word_fault.WordFault.{WordFault}
use Rattle.text_scan.specs.declared.word_fault.WordFault.TheVariants as words
use Rattle.device_live.specs.{declared.line_fault.LineFault.{LineFault, TheVariants.{Kind, Memory}}}

-- of a line's words, to its answer
abbrev pub fault_of : WordFault → LineFault
fault_of (words.Kind kind) = Kind kind
fault_of (words.Memory error) = Memory error

-- of a sink, to whoever serves the lines
abbrev pub halt_of : Result Unit Failed → Result Unit (Halt AllocError)
halt_of (Ok tt) = Ok tt
halt_of (Err failed) = Err Write

-- of a sink, to how a serving ends
abbrev pub end_with : Served AllocError → Result Unit Failed → Served AllocError
end_with served (Ok tt) = served
end_with served (Err failed) = WriteFault
