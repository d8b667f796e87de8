use Rattle.std.proofs.Common.{◌≡◌, take}
use Rattle.desk_memory.proofs.entry_copy.copy_of.Given as goal

abbrev pub invariant-loop-entry : goal.invariant-loop-entry
invariant-loop-entry l = l.copy.items ≡ take l.entry-index l.entries
