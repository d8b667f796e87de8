use Rattle.std.proofs.Common.{◌≡◌, ◌++◌}
use Rattle.text_scan.specs.LineFold.{text_lines}
use Rattle.desk_cli.specs.StateFile.{said_numbers}
use Rattle.desk_cli.proofs.numbered_entries.said_numbers.Given as goal

abbrev pub invariant-loop-number : goal.invariant-loop-number
invariant-loop-number l =
    said_numbers (text_lines l.text) ≡ l.numbers.items ++ said_numbers l.number-iterator
