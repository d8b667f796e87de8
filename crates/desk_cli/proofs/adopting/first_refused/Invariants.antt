use Rattle.std.proofs.Common.{◌≡◌, drop}
use Rattle.desk_cli.specs.Adopt.{first_refused_from}
use Rattle.desk_cli.proofs.adopting.first_refused.Given as goal

abbrev pub invariant-loop-place : goal.invariant-loop-place
invariant-loop-place l =
    first_refused_from l.lines.numbers 0 l.desk l.entries l.lines.entries
    ≡ first_refused_from l.lines.numbers l.place l.desk l.entries (drop l.place l.lines.entries)
