use Rattle.std.proofs.Common.{◌≡◌, ◌∙◌, List, ap, arith, sym}
use Rattle.sqlite_trees.specs.View.{IsClean, View}
use Rattle.desk_memory.specs.Entry.{Entry, with_entry, place_for, are_sized}
use Rattle.desk_database.{specs.Rows.rows_from, proofs.TableRows.{are_sized-with_entry, put_row-noted}}
use Rattle.desk_database.proofs.store_memory.StoreMemory.put_entry.Goals as goal

pub invariant_of-self-2 : goal.invariant_of-self-2
invariant_of-self-2 g c =
    let entries : List Entry = c.args.self.now.entries.items in
    let after : c.set_entry.new.entries.items ≡ with_entry entries c.args.new =
    c.set_entry.ensures
    ∙ ap (λ (es : List Entry). with_entry es c.args.new) c.reserve.ensures.items in
    record {
      whole = λ working clean.
          let early : IsClean (g.S.Store.view c.args.self.now.store) =
          omega (arith, c.put.ensures.quiet.clean) in
          let has = c.args.self.now.whole working early in
          let put = c.in_default-put.ensures.ok clean in
          let here = c.place_for-place.ensures.place
          ∙ ap (λ (es : List Entry). place_for es c.args.new) c.deref.ensures.value in
          record {
            tables = (
              ap (λ (v : View). v.shape 0) put.is ∙ has.tables.0,
              ap (λ (v : View). v.shape 1) put.is ∙ has.tables.1,
            );
            sound = ap (λ (v : View). v.is_broken) put.is ∙ has.sound;
            rows = (
              ap (λ (v : View). v.trees 0) put.is
                  ∙ put_row-noted entries c.args.new c.place_for-place.result c.in_ok-row.row _ here
                  c.in_ok-row.ensures has.rows.0
                  ∙ sym (ap (rows_from 0) after),
              ap (λ (v : View). v.trees 1) put.is ∙ has.rows.1,
            );
          };
      sized = ap are_sized after
          ∙ are_sized-with_entry entries c.args.new c.args.self.now.sized c.requires;
      faulty = λ failed clean.
          let early : IsClean (g.S.Store.view c.args.self.now.store) =
          omega (arith, c.put.ensures.quiet.clean) in
          let was = c.args.self.now.faulty failed early in
          omega (arith, was, c.put.ensures.quiet.counts);
    }
