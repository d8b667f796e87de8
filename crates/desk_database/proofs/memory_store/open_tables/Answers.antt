use Rattle.std.{proofs.{Common.{le_refl, eq-eqb, true≢false, ◌≡◌, ◌≢◌, [], length, subst, sym, ap, ◌∙◌, inl, rules, arith}, lemmas.List.nil_from_length, Math.Logic.∥∥₁_map}, specs.Vec.vec_len}
use Rattle.sqlite_store.specs.{FileStore.view, Unopened.IsCatalogOf}
use Rattle.desk_database.proofs.{FailLemmas.fails_behind, HeldLemmas.{as_before, opens_spare}, CatalogLemmas.{opened_memory, nothing_back, mid_size, nothing_lists, finds_through, spared_through, can_be_opened, has_some_file}}
use Rattle.desk_database.proofs.memory_store.open_tables.Goals as goal

pub returns-then-is_empty-clause-lacks : goal.returns-then-is_empty-clause-lacks
returns-then-is_empty-clause-lacks g c =
    let none : c.in-Ok.rows.items ≡ [] = nil_from_length _ (search rules) in
    record {
      usable = c.in-Ok.ensures.usable;
      schema = c.read_catalog.ensures.schema ∙ c.requires.schema;
      honest = c.read_catalog.ensures.honest;
      catalog = λ clean. subst (IsCatalogOf c.args.files c.read_catalog.new.self) none
          (c.in-Ok.ensures.ok clean);
      opens = c.read_catalog.ensures.kept;
    }

pub returns-in-Ok-open_numbered-clause-given : goal.returns-in-Ok-open_numbered-clause-given
returns-in-Ok-open_numbered-clause-given g c =
    let old = c.args.files in
    let mid = c.read_catalog.new.self in
    let rows = c.in-Ok.rows.items in
    let made = c.in-Ok-open_numbered.ensures in
    let some : rows ≢ [] = λ none.
    let len : length c.in-Ok.rows.items ≡ 0 = ap length none in
    let zero : vec_len c.in-Ok.rows ≡ 0 = search rules in
    true≢false
    (sym (eq-eqb (vec_len c.in-Ok.rows) 0 zero) ∙ sym c.is_empty.ensures ∙ c.if-is_empty.false)
    in
    let schema = made.schema ∙ c.read_catalog.ensures.schema ∙ c.requires.schema in
    record {
      ready = made.ready;
      schema = schema;
      honest = λ clean. c.read_catalog.ensures.honest (made.honest clean);
      guarded = made.guarded;
      counts = λ clean. omega (
        arith,
        (c.read_catalog.ensures.kept (made.honest clean)).counts,
        (made.kept clean).counts,
      );
      found = λ clean.
          let early = made.honest clean in
          let something = c.requires.something (c.read_catalog.ensures.honest early) in
          let first = c.read_catalog.ensures.kept early in
          let listed = c.in-Ok.ensures.ok early in
          finds_through old mid rows c.requires.size something first listed
          (view c.in-Ok-open_numbered.store).trees
          (opened_memory mid c.in-Ok-open_numbered.store
          (mid_size old mid rows c.requires.size something first listed) schema clean
          (made.kept clean).size made.ready made.numbered (made.found clean)
          (λ nothing. some
          (nothing_lists old mid rows c.requires.size something first listed
          (nothing_back old mid rows c.requires.size something first listed nothing))));
    }

pub returns-in-Ok-clause-lacks : goal.returns-in-Ok-clause-lacks
returns-in-Ok-clause-lacks g c =
    let old = c.args.files in
    let mid = c.read_catalog.new.self in
    let rows = c.in-Ok.rows.items in
    let failed = c.in-Err-open_numbered.ensures in
    let some : rows ≢ [] = λ none.
    let len : length c.in-Ok.rows.items ≡ 0 = ap length none in
    let zero : vec_len c.in-Ok.rows ≡ 0 = search rules in
    true≢false
    (sym (eq-eqb (vec_len c.in-Ok.rows) 0 zero) ∙ sym c.is_empty.ensures ∙ c.if-is_empty.false)
    in
    record {
      honest = λ clean. c.read_catalog.ensures.honest (failed.falls clean);
      cause = λ clean.
          let early = failed.falls clean in
          let something = c.requires.something (c.read_catalog.ensures.honest early) in
          let first = c.read_catalog.ensures.kept early in
          fails_behind _ _ _ _ _ _ _ c.in-Err-open_numbered.error first.counts
          (λ full. ∥∥₁_map full inl)
          (can_be_opened old mid rows c.requires.size something first (c.in-Ok.ensures.ok early)
          (c.read_catalog.ensures.schema ∙ c.requires.schema) some)
          (failed.cause clean);
      spared = λ clean.
          let early = failed.falls clean in
          let something = c.requires.something (c.read_catalog.ensures.honest early) in
          let first = c.read_catalog.ensures.kept early in
          let listed = c.in-Ok.ensures.ok early in
          let kept = failed.unharmed clean in
          record {
            counts = omega (arith, first.counts, kept.counts);
            crash = λ left may.
                spared_through old mid rows c.requires.size something first listed left
                (as_before mid (mid_size old mid rows c.requires.size something first listed) left
                (kept.crash left may));
          };
    }

pub returns-clause-lacks : goal.returns-clause-lacks
returns-clause-lacks g c =
    record {
      honest = c.read_catalog.ensures.honest;
      cause = λ clean.
          fails_behind _ _ _ _ _ _ _ c.in-Err.error (le_refl _) (λ full. ∥∥₁_map full inl)
          (has_some_file c.args.files c.requires.size
          (c.requires.something (c.read_catalog.ensures.honest clean)))
          (c.in-Err.ensures.cause clean);
      spared = λ clean.
          let kept = c.read_catalog.ensures.kept clean in
          record {
            counts = kept.counts;
            crash = λ left may. opens_spare c.args.files c.requires.size left (kept.crash left may);
          };
    }
