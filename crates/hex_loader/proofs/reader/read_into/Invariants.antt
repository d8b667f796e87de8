use Rattle.hex_loader.proofs.ReadLines.{IsReadTo}
use Rattle.hex_loader.proofs.reader.read_into.Given as goal

abbrev pub invariant-loop-number : goal.invariant-loop-number
invariant-loop-number l =
    (goal.iterator-loop-number).can_next l.number-iterator
    × (goal.iterator-loop-number).is_finite l.number-iterator
    × IsReadTo l.text l.number-iterator l.count l.reader
