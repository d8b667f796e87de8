use Rattle.std.proofs.Common.{◌≡◌, ◌++◌, drop}
use Rattle.desk_memory.specs.{Entry.home_fields, Moving.lines_at}
use Rattle.desk_cli.proofs.moving.lines_at.Given as goal

abbrev pub invariant-loop-entry : goal.invariant-loop-entry
invariant-loop-entry l =
    lines_at (home_fields l.home) l.name l.entries
    ≡ l.lines.items ++ lines_at (home_fields l.home) l.name (drop l.entry-index l.entries)
