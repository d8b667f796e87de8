use Rattle.std.proofs.Common.{◌≡◌, drop}
use Rattle.desk_memory.specs.Entry.{owner_in}
use Rattle.desk_memory.proofs.key_owner.owner_of.Given as goal

abbrev pub invariant-loop-entry : goal.invariant-loop-entry
invariant-loop-entry l =
    owner_in l.entries l.mark ≡ owner_in (drop l.entry-index l.entries) l.mark
