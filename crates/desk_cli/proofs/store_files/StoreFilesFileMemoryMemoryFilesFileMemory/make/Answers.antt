use Rattle.std.proofs.Common.{◌≡◌, true, ◌∙◌, rules, subst, sym}
use Rattle.desk_cli.{specs.{MemoryFiles.Making, StoreFiles.IsCounted}, proofs.FoundEntries.{made_fit, unopened}}
use Rattle.desk_cli.proofs.store_files.StoreFilesFileMemoryMemoryFilesFileMemory.make.Goals as goal

pub returns-in-Ok-clause-made : goal.returns-in-Ok-clause-made
returns-in-Ok-clause-made g c =
    let image = g.P.MemoryPlaces.image c.args.name.now in
    let memory = c.in-Ok.memory in
    record {
      has = sym c.in-Ok.ensures.entries;
      fit = λ clean. made_fit image memory.store (c.in-Ok.ensures.made clean);
      unkept = λ clean found finds.
          let none = (c.in-Ok.ensures.made clean).nothing finds.0 finds.1 in
          let is = sym none.1 ∙ finds.2.1 in absurd cc;
    }

pub returns-in-Err-clause-unmade : goal.returns-in-Err-clause-unmade
returns-in-Err-clause-unmade g c =
    let first : c.args.self.now.is_unopened ≡ true = search rules in
    let same : c.begin.new.self.refusals ≡ c.args.self.now.refusals = search rules in
    let asked : c.begin.new.self.is_making ≡ true = search rules in
    let fault = c.in-Err.fault in
    unopened g.P.MemoryPlaces.image (λ files. files.is_unopened ≡ true) (λ files. files.is_making)
    (λ files. files.refusals) (λ files. files.left) (λ files. files.closed) Making
    c.args.self.now _ c.args.name.now
    (c.args.self.now.fresh first) true fault asked
    (subst (λ refusals. IsCounted refusals c.count.new.self fault) same c.count.ensures)
    c.in-Err.ensures.unmade
    c.in-Err.ensures.cause c.in-Err.ensures.spared
