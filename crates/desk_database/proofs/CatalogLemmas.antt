-- From the files as they were to the files once their list of objects was read.
use Rattle.std.proofs.{Common.{◌≡◌, ◌≢◌, ◌⊎◌, true, IsTrue, List, [], sym, ap, ap₂, subst, subst₂, ◌∙◌, inl, inr}, Math.{Logic.∥∥₁_map, Path.subst₃}, lemmas.{Bool.cond-true, Grind.not_there}}
use Rattle.sqlite_disk.specs.declared.Disk.{Ghosts}
use Rattle.sqlite_wal.specs.Recovery.{Image}
use Rattle.sqlite_pages.specs.PageMap.{PageMap}
use Rattle.sqlite_pool.specs.{File.{in_use, IsSoundFile}, Opening.IsBlankFile, Stored.{Recovers, RecoversAs}, StoredLaws.{carried, readable, recovers_once, RecoversAs-from}}
use Rattle.sqlite_value.specs.Order.{Row}
use Rattle.sqlite_trees.{specs.{declared.store.Shape.TheVariants.Table, Tree.{Trees, no_trees}}, proofs.Doubt.no_doubt}
use Rattle.sqlite_store.specs.{declared.store.{FileStore.FileStore, open.Unopened.Unopened}, FileStore.{state, view, schema_of, IsReady}, Saved.kept_schema, Db.rows_at, Listing.{file_trees, IsOurs}, Opening.IsEmptyFile, Unopened.{state_of, wanted_by, image, HasFileAs, HasSomeFile, Opens, IsCatalogOf}}
use Rattle.desk_database.{specs.{MemoryTables.{page_size, memory_schema}, Held.{HoldsMemory, HoldsBegun, HoldsNothing, LacksObjects, MayBeMemory, IsKept, IsSpared}, Opening.Finds}, proofs.HeldLemmas.{memory_lists, lists_nothing, sound_is_not_blank, as_before, begun_before, opens_spare}}

begun_as : (a b : Image) (pages : PageMap) → Recovers page_size a pages → Recovers page_size b pages
    → HoldsBegun a → HoldsBegun b
begun_as a b pages found again begun =
    record {
      pages = pages;
      found = again;
      empty = subst (IsEmptyFile page_size) (recovers_once _ _ _ _ begun.found found) begun.empty;
    }

memory_as : (a b : Image) (pages : PageMap) (db : Trees) → Recovers page_size a pages
    → Recovers page_size b pages → HoldsMemory a db → HoldsMemory b db
memory_as a b pages db found again held =
    let same = recovers_once _ _ _ _ held.found found in
    record {
      pages = pages;
      found = again;
      sound = subst (IsOurs page_size true memory_schema) same held.sound;
      reads = held.reads ∙ ap (file_trees page_size memory_schema) same;
    }

module _ {D : Type 0} {g : Ghosts D} (old mid : Unopened D g) (rows : List Row)
    (size : (state_of old).page_size ≡ page_size)
    (something : ¬ IsBlankFile page_size (image old)) (first : Opens old (state_of mid))
    (listed : IsCatalogOf old mid rows) where
  pub mid_size : (state_of mid).page_size ≡ page_size
  mid_size = first.size ∙ size

  found : Recovers page_size (image old) listed.pages
  found = subst (λ n. Recovers n (image old) listed.pages) size listed.found

  again : Recovers page_size (image mid) listed.pages
  again = subst (λ n. Recovers n (image mid) listed.pages) size listed.again

  lists : rows ≡ rows_at page_size (in_use page_size listed.pages) Table 1
  lists = subst (λ n. rows ≡ rows_at n (in_use n listed.pages) Table 1) size listed.lists

  pub still_something : ¬ IsBlankFile page_size (image mid)
  still_something blank = not_there listed.shows.clean.sound (λ sound.
      sound_is_not_blank (image mid) listed.pages again
      (subst₂ IsSoundFile mid_size listed.shows.committed sound) blank)

  pub nothing_back : HoldsNothing (image mid) → HoldsNothing (image old)
  nothing_back (inl blank) = absurd (still_something blank)
  nothing_back (inr begun) = inr (begun_as (image mid) (image old) listed.pages again found begun)

  pub nothing_on : HoldsNothing (image old) → HoldsNothing (image mid)
  nothing_on (inl blank) = absurd (something blank)
  nothing_on (inr begun) = inr (begun_as (image old) (image mid) listed.pages found again begun)

  -- no memory, no row
  pub nothing_lists : HoldsNothing (image old) → rows ≡ []
  nothing_lists (inl blank) = absurd (something blank)
  nothing_lists (inr begun) = lists ∙ lists_nothing (image old) listed.pages begun found

  pub memory_has_rows : (db : Trees) → HoldsMemory (image old) db → rows ≢ []
  unfolding memory_as
  memory_has_rows db held none =
      let here = memory_as (image old) (image old) listed.pages db found found held in
      memory_lists (image old) db here (sym lists ∙ none)

  pub memory_on : (db : Trees) → HoldsMemory (image old) db → HoldsMemory (image mid) db
  memory_on db = memory_as (image old) (image mid) listed.pages db found again

  pub finds_through : (db : Trees) → Finds (image mid) db → Finds (image old) db
  finds_through db finds = record {
    holds = λ held h. finds.holds held (memory_on held h);
    nothing = λ nothing. finds.nothing (nothing_on nothing);
    opened = ∥∥₁_map finds.opened (λ it. elim it [
      | inl nothing ↦ inl (nothing_back nothing)
      | inr held ↦ inr (memory_as (image mid) (image old) listed.pages db again found held)
    ]);
  }

  pub kept_through : (left : Image) → IsKept ((state_of mid).may_leave left) (image mid) left
      → IsKept ((state_of old).may_leave left) (image old) left
  kept_through left kept = record {
    same = λ some. elim (kept.same (λ nothing. some (nothing_back nothing))) [
      | inl was ↦ as_before old size left (first.crash left was)
      | inr alike ↦ inr
          (RecoversAs-from page_size (image old) left listed.pages found
          (carried page_size (image mid) left alike listed.pages again))
    ];
    nothing = λ nothing. elim (kept.nothing (nothing_on nothing)) [
      | inl was ↦ elim nothing [
        | inl blank ↦ absurd (something blank)
        | inr begun ↦ begun_before old size left (first.crash left was) begun
      ]
      | inr held ↦ inr held
    ];
    unread =
        λ some unreadable. absurd (readable page_size (image old) listed.pages found unreadable);
  }

  pub spared_through : (left : Image)
      → (state_of mid).may_leave left ⊎ RecoversAs page_size (image mid) left
      → IsSpared ((state_of old).may_leave left) (image old) left
  spared_through left (inl was) = opens_spare old size left (first.crash left was)
  spared_through left (inr alike) =
      record {
        same = inr
            (RecoversAs-from page_size (image old) left listed.pages found
            (carried page_size (image mid) left alike listed.pages again));
        unread =
            λ unreadable. absurd (readable page_size (image old) listed.pages found unreadable);
      }

  file_of : wanted_by mid ≡ memory_schema → (db : Trees) → HoldsMemory (image old) db
      → HasFileAs mid true
  file_of schema db held =
      let here = memory_on db held in (
        here.pages,
        subst (λ n. Recovers n (image mid) here.pages) (sym mid_size) here.found,
        subst₂ (λ n s. IsOurs n true s here.pages) (sym mid_size) (sym schema) here.sound,
      )

  pub can_be_opened : wanted_by mid ≡ memory_schema → rows ≢ [] → MayBeMemory (image old)
      → HasFileAs mid true
  can_be_opened schema some (inl entries) = file_of schema entries.0 entries.1
  can_be_opened schema some (inr (replay, inl nothing)) = absurd (some (nothing_lists nothing))
  can_be_opened schema some (inr (replay, inr empty)) = file_of schema empty.0 empty.1

  pub can_be_made : rows ≡ [] → MayBeMemory (image old) → HoldsNothing (image mid)
  can_be_made none (inl entries) = absurd (memory_has_rows entries.0 entries.1 none)
  can_be_made none (inr (replay, inl nothing)) = nothing_on nothing
  can_be_made none (inr (replay, inr empty)) = absurd (memory_has_rows empty.0 empty.1 none)

  pub lacks_objects : rows ≡ [] → LacksObjects (image old)
  lacks_objects none = (listed.pages, found, sym lists ∙ none)

-- files to open hold a sound database of some schema
pub has_some_file : {D : Type 0} {g : Ghosts D} (old : Unopened D g)
    → (state_of old).page_size ≡ page_size → ¬ IsBlankFile page_size (image old)
    → MayBeMemory (image old) → HasSomeFile old
has_some_file old size something (inl entries) =
    rw size (entries.1.pages, entries.1.found, (memory_schema, entries.1.sound.file))
has_some_file old size something (inr (replay, inl (inl blank))) = absurd (something blank)
has_some_file old size something (inr (replay, inl (inr begun))) =
    rw size (begun.pages, begun.found, ([], begun.empty.0))
has_some_file old size something (inr (replay, inr empty)) =
    rw size (empty.1.pages, empty.1.found, (memory_schema, empty.1.sound.file))

-- the store that was opened has the memory that the files held
pub opened_memory : {D : Type 0} {g : Ghosts D} (files : Unopened D g) (store : FileStore D g)
    → (state_of files).page_size ≡ page_size → schema_of store ≡ memory_schema
    → IsTrue (state store).is_clean → (state store).page_size ≡ (state_of files).page_size
    → IsReady store → IsTrue (view store).is_numbered
    → Recovers (state_of files).page_size (image files) (state store).committed
    → ¬ HoldsNothing (image files)
    → Finds (image files) (view store).trees
opened_memory files store size schema clean sized ready numbered found something =
    let same = sized ∙ size in
    let pages = (state store).committed in
    let here : Recovers page_size (image files) pages =
    subst (λ n. Recovers n (image files) pages) size found in
    let listing : kept_schema store.saved store.schema.items ≡ memory_schema =
    ap (λ o. kept_schema o store.schema.items) ready.unaltered ∙ schema in
    let reads : (view store).trees ≡ file_trees page_size memory_schema pages =
    ready.clean
    ∙ cond-true _
    (file_trees (state store).page_size (kept_schema store.saved store.schema.items) pages) no_trees
    clean
    ∙ ap₂ (λ n s. file_trees n s pages) same listing in
    record {
      holds = λ db held. reads
          ∙ sym (held.reads
          ∙ ap (file_trees page_size memory_schema) (recovers_once _ _ _ _ held.found here));
      nothing = λ nothing. absurd (something nothing);
      opened = ∥∥₁_map (store.stored (ready.is_open (no_doubt _ clean))) (λ s. inr (record {
        pages = pages;
        found = here;
        sound = subst₃ (λ n b x. IsOurs n b x pages) same numbered listing s.ours;
        reads = reads;
      }));
    }
