use Rattle.std.proofs.Common.{◌≡◌, false, true, ◌∙◌, rules, subst, sym}
use Rattle.desk_database.proofs.TableRows.{found_same}
use Rattle.desk_cli.{specs.{MemoryFiles.Opening, StoreFiles.{FindsIn, FindsNow, IsCounted}}, proofs.FoundEntries.{opened_finds, opened_fit, unopened}}
use Rattle.desk_cli.proofs.store_files.StoreFilesFileMemoryMemoryFilesFileMemory.open.Goals as goal

pub returns-in-Ok-clause-opened : goal.returns-in-Ok-clause-opened
returns-in-Ok-clause-opened g c entries stands =
    let image = g.P.MemoryPlaces.image c.args.name.now in
    let memory = c.in-Ok.memory in
    record {
      keeps = record {
        has = stands;
        keeps = λ clean found finds.
            found_same (finds.0 0) memory.entries.items found memory.sized
            ((c.in-Ok.ensures.opened clean).settled finds.0 finds.1).0 finds.2.0 finds.3
            ∙ sym stands;
        whole = λ clean. (c.in-Ok.ensures.opened clean).copied;
      };
      fit = λ clean. opened_fit image memory.store memory.desk.items memory.entries.items
          (c.in-Ok.ensures.opened clean);
      found = λ clean.
          let first : c.args.self.now.is_unopened ≡ true = search rules in
          subst (λ left. FindsNow image left memory.desk.items entries)
          (sym (c.args.self.now.fresh first))
          (subst (FindsIn image memory.desk.items) (sym stands)
          (opened_finds image memory.store memory.desk.items memory.entries.items
          (c.in-Ok.ensures.opened clean) memory.sized));
    }

pub returns-in-Err-clause-unopened : goal.returns-in-Err-clause-unopened
returns-in-Err-clause-unopened g c =
    let first : c.args.self.now.is_unopened ≡ true = search rules in
    let same : c.begin.new.self.refusals ≡ c.args.self.now.refusals = search rules in
    let asked : c.begin.new.self.is_making ≡ false = search rules in
    let fault = c.in-Err.fault in
    unopened g.P.MemoryPlaces.image (λ files. files.is_unopened ≡ true) (λ files. files.is_making)
    (λ files. files.refusals) (λ files. files.left) (λ files. files.closed) Opening
    c.args.self.now _ c.args.name.now
    (c.args.self.now.fresh first) false fault asked
    (subst (λ refusals. IsCounted refusals c.count.new.self fault) same c.count.ensures)
    c.in-Err.ensures.unopened
    c.in-Err.ensures.cause c.in-Err.ensures.spared
