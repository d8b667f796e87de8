use Rattle.std.proofs.Common.{◌≤◌, sym, ap, subst, ◌∙◌, inl, inr, arith}
use Rattle.sqlite_trees.{specs.{Tree.Trees, View.IsClean}, proofs.Doubt.{clean_of, no_doubt}}
use Rattle.sqlite_store.specs.{FileStore.{view, faults}, Laws.settled_at}
use Rattle.desk_database.{specs.{Table.IsUnfounded, Opening.{WhyUnmade, faults_of, image_of}}, proofs.TableRead.{can_be_founded, finds_rows, from_table, has_entries, has_tables, is_foreign}}
use Rattle.desk_database.proofs.opening.make_files.Goals as goal

pub returns-in-Ok-clause-made : goal.returns-in-Ok-clause-made
returns-in-Ok-clause-made g c clean =
    let store = c.in_ok-store.store in
    let image = image_of g.D.Disk c.args.files in
    let made = c.in-Ok.ensures in
    let early : IsClean (view store) = omega (arith, made.clean) in
    let finds = c.in_ok-store.ensures.given.found (clean_of _ early) in
    let none = made.unfounded clean in
    record {
      unfounded = can_be_founded image (view store).trees finds
          (c.in_ok-store.ensures.given.replays (clean_of _ early)) none;
      fits = c.in_ok-store.ensures.fits (clean_of _ early);
      nothing = λ db may. subst IsUnfounded (sym (made.committed clean db may)) none;
      shielded = made.shield (c.in_ok-store.ensures.given.guarded (clean_of _ early));
    }

pub returns-in-Err-clause-refused : goal.returns-in-Err-clause-refused
returns-in-Err-clause-refused g c =
    let store = c.in_ok-store.store in
    let image = image_of g.D.Disk c.args.files in
    let given = c.in_ok-store.ensures.given in
    let kept = c.in-Err.ensures.kept in
    record {
      cause = λ clean.
          let now : IsClean (view c.in-Err.store) = no_doubt _ clean in
          let early : IsClean (view store) = omega (arith, kept.clean, now) in
          let finds = given.found (clean_of _ early) in
          let counts : faults_of g.D.Disk c.args.files ≤ faults store =
          omega (arith, given.counts (clean_of _ early)) in
          rw c.table_fault.ensures (from_table _ _ _ (view store) _ _ _ (WhyUnmade image)
          c.in-Err.fault counts (given.ready.is_open early)
          (λ foreign. is_foreign image (view store).trees finds
          (foreign (has_tables store given.schema)))
          (λ unfounded. unfounded) (has_entries image (view store).trees finds)
          (c.in-Err.ensures.reason now));
      spared = λ clean db may.
          let now : IsClean (view c.in-Err.store) = no_doubt _ clean in
          let early : IsClean (view store) = omega (arith, kept.clean, now) in
          finds_rows image (view store).trees (given.found (clean_of _ early)) db
          (elim (kept.outcomes now db may) [
            | inl was ↦
                let is =
                settled_at store g.met.D.Disk.seen_may_stay db (given.ready.is_open early) was
                ∙ sym given.ready.clean in
                (ap (λ (t : Trees). t 0) is, ap (λ (t : Trees). t 1) is)
            | inr same ↦ same
          ]);
    }
