use Rattle.std.proofs.Common.{◌≡◌, ◌++◌, ℕ, List, length}
use Rattle.hex.specs.Hex.{encode_lower}
use Rattle.outside_edge.specs.Sink.{Takes}
use Rattle.report_text.proofs.printed_digits.print_hex.Given as goal

-- the digits put so far and those of the rest are those of all
abbrev pub invariant-loop-rest : goal.invariant-loop-rest
invariant-loop-rest g l =
    (before : List ℕ)
    × (before ++ encode_lower l.rest ≡ encode_lower l.bytes)
    × Takes g.W.Sink.stands l.fn.sink l.sink before
    × (g.W.Sink.faults l.sink ≡ g.W.Sink.faults l.fn.sink)

abbrev pub decreases-loop-rest : goal.decreases-loop-rest
decreases-loop-rest g l = length l.rest
