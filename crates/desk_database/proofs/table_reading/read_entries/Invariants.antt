use Rattle.std.proofs.Common.{◌≡◌, ◌++◌, List, IsSome, length, true}
use Rattle.sqlite_value.specs.Order.{Row}
use Rattle.sqlite_trees.specs.View.{IsClean, IsQuiet}
use Rattle.desk_memory.specs.Entry.{are_sized}
use Rattle.desk_database.specs.{TableOpening.Reads, Rows.rows_from}
use Rattle.desk_database.proofs.table_reading.read_entries.Given as goal

abbrev pub invariant-loop-place : goal.invariant-loop-place
invariant-loop-place g l = record {
  count : length l.entries.items ≡ l.place;
  sized : are_sized l.entries.items ≡ true;
  read : IsClean (g.S.Store.view l.store) → (left : List Row)
      × Reads (g.S.Store.view l.fn.store) (g.S.Store.view l.store) left
      × ((g.S.Store.view l.fn.store).trees 0 ≡ rows_from 0 l.entries.items ++ left);
  live : IsSome ((g.S.Store.view l.store).cursors 0);
  quiet : IsQuiet g.S.Store.view g.S.Store.faults g.S.Store.recovers g.S.Store.is_shielded
      l.fn.store l.store;
}
