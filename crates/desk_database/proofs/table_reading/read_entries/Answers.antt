use Rattle.std.proofs.Common.{◌≡◌, ◌∙◌, ◌+◌, ◌++◌, ◌∷◌, [], ℕ, List, length, length-append, ap, arith, sym}
use Rattle.sqlite_trees.specs.View.{IsClean}
use Rattle.desk_memory.specs.Entry.{Entry, are_sized}
use Rattle.desk_database.{specs.Rows.{row_of, rows_from}, proofs.{Moved.{entry_next, quiet_then, row_next}, TableRows.{are_sized-push, foreign_row}}}
use Rattle.desk_database.proofs.table_reading.read_entries.Goals as goal

pub returns-in_default-clause-reason : goal.returns-in_default-clause-reason
returns-in_default-clause-reason g c clean others sized reads =
    let old = g.S.Store.view c.loop-place.store in
    let new = g.S.Store.view c.next.new.self in
    let entries : List Entry = c.loop-place.entries.items in
    let early : IsClean old = omega (arith, c.next.ensures.quiet.clean) in
    let was = c.loop-place.invariant.read early in
    let left =
    row_next (g.S.Store.view c.args.store.now) old new c.next.new.row was.0 entries _
    c.if-not-branch.false was.1 was.2 (c.in_ok-next.ensures.ok clean) in
    let none = rw c.in_default.is at c.in_ok-entry.ensures.none in
    foreign_row _ left.0 c.next.new.row entries left.2
    (λ entry is row. none entry is (row ∙ ap (λ n. row_of n entry) c.loop-place.invariant.count))
    others sized reads

pub loop-place-preserved : goal.loop-place-preserved
loop-place-preserved g c =
    let entries : List Entry = c.loop-place.entries.items in
    let entry : Entry = c.in-Some.entry in
    let items : c.push_reserved.new.self.items ≡ entries ++ entry ∷ [] =
    c.push_reserved.ensures.items
    ∙ ap (λ (es : List Entry). es ++ entry ∷ []) c.reserve.ensures.items in
    record {
      count = ap (λ (es : List Entry). length es) items ∙ length-append entries (entry ∷ [])
          ∙ ap (λ (n : ℕ). n + 1) c.loop-place.invariant.count;
      sized = ap are_sized items
          ∙ are_sized-push entries entry c.loop-place.invariant.sized
          (rw c.in-Some.is at c.in_ok-entry.ensures.sized);
      read = λ clean.
          let old = g.S.Store.view c.loop-place.store in
          let new = g.S.Store.view c.next.new.self in
          let early : IsClean old = omega (arith, c.next.ensures.quiet.clean) in
          let was = c.loop-place.invariant.read early in
          let left =
          row_next (g.S.Store.view c.args.store.now) old new c.next.new.row was.0 entries _
          c.if-not-branch.false was.1 was.2 (c.in_ok-next.ensures.ok clean) in
          let row = rw c.in-Some.is at c.in_ok-entry.ensures.some in
          let on = entry_next _ left.0 c.next.new.row entries entry c.loop-place.place
          c.loop-place.invariant.count left.2 row in
          (left.0, left.1, on ∙ ap (λ es. rows_from 0 es ++ left.0) (sym items));
      live = c.in_ok-next.ensures.stay 0 c.loop-place.invariant.live;
      quiet = quiet_then g.S.Store.view g.S.Store.faults g.S.Store.recovers g.S.Store.is_shielded
          c.args.store.now c.loop-place.store c.next.new.self c.loop-place.invariant.quiet
          c.next.ensures.quiet;
    }
