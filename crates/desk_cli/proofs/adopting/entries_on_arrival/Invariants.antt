use Rattle.std.proofs.Common.{◌≡◌, ◌++◌, drop}
use Rattle.desk_memory.specs.Moving.{entries_on_arrival}
use Rattle.desk_cli.proofs.adopting.entries_on_arrival.Given as goal

abbrev pub invariant-loop-place : goal.invariant-loop-place
invariant-loop-place l =
    entries_on_arrival l.entries l.lines ≡ l.new.items
    ++ entries_on_arrival l.entries (drop l.place l.lines)
