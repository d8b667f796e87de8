use Rattle.std.proofs.Common.{◌∙◌, subst, sym}
use Rattle.desk_database.{specs.Table.IsMemoryOf, proofs.TableRows.{finds_or_same, found_same}}
use Rattle.desk_database.proofs.store_memory.StoreMemoryMemory.settle.Goals as goal

pub returns-clause-kept : goal.returns-clause-kept
returns-clause-kept g c entries stands clean found finds =
    found_same (finds.0 0) c.args.self.now.entries.items found c.args.self.now.sized
    (c.in_ok-settle_all.ensures.durable clean finds.0 finds.1).0 finds.2.0 finds.3
    ∙ sym stands

pub returns-clause-crash : goal.returns-clause-crash
returns-clause-crash g c entries stands clean found finds =
    finds_or_same (g.S.Store.recovers c.args.self.now.store) finds.0
    c.args.self.now.desk.items entries c.args.self.now.entries.items found stands
    c.args.self.now.sized
    (c.settle_all.ensures.crash clean finds.0 finds.1)
    (subst (λ desk. IsMemoryOf finds.0 desk.items found) c.settle_all.ensures.desk finds.2)
    finds.3

pub returns-in_err-settle_all-clause-crash : goal.returns-in_err-settle_all-clause-crash
returns-in_err-settle_all-clause-crash g c entries stands clean found finds =
    finds_or_same (g.S.Store.recovers c.args.self.now.store) finds.0
    c.args.self.now.desk.items entries c.args.self.now.entries.items found stands
    c.args.self.now.sized
    (c.settle_all.ensures.crash clean finds.0 finds.1)
    (subst (λ desk. IsMemoryOf finds.0 desk.items found) c.settle_all.ensures.desk finds.2)
    finds.3
