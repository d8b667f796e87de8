use Rattle.std.proofs.Common.{◌≡◌, ◌≤◌, drop, length}
use Rattle.desk_memory.{specs.Entry.place_for, proofs.Places.place_from}
use Rattle.desk_memory.proofs.entry_place.place_for.Given as goal

abbrev pub invariant-loop-index : goal.invariant-loop-index
invariant-loop-index l = record {
  place : place_for l.entries l.new
      ≡ place_from l.place l.index (drop l.index l.entries) l.new;
  within : l.place ≤ length l.entries;
}
