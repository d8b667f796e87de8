use Rattle.std.{proofs.Common.{◌≡◌, drop}, specs.{Prelude.{option_map, if◌then◌else◌}, Option.is_some}}
use Rattle.desk_memory.specs.Entry.{last_in}
use Rattle.desk_memory.proofs.last_entry.last_of.Given as goal

abbrev pub invariant-loop-entry : goal.invariant-loop-entry
invariant-loop-entry l =
    last_in l.entries l.name
    ≡ (if is_some (last_in (drop l.entry-index l.entries) l.name)
    then last_in (drop l.entry-index l.entries) l.name
    else option_map (λ entry. entry.now) l.last)
