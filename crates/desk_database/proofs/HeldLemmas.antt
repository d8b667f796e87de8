-- What the two files hold, before a step of an open and after it.
use Rattle.std.proofs.{Common.{◌≡◌, ◌≢◌, ◌<◌, ℕ, ◌⊎◌, [], refl, sym, subst, ◌∙◌, inl, inr, arith}, Math.Logic.∥∥₁_map}
use Rattle.sqlite_disk.specs.declared.Disk.{Ghosts}
use Rattle.sqlite_wal.specs.{Recovery.{Image, AreWhole}, State.State}
use Rattle.sqlite_pages.specs.PageMap.{PageMap}
use Rattle.sqlite_pool.{specs.{File.{in_use, version_in, IsSoundFile}, Opening.IsBlankFile, Stored.{Recovers, RecoversAs, IsUnreadable}, StoredLaws.{carried, recovers_once, trimmed_whole}}, proofs.{ProbeLemmas.not_blank, ResealLemmas.adopts_of}}
use Rattle.sqlite_trees.specs.{declared.store.Shape.TheVariants.Table, Tree.Trees}
use Rattle.sqlite_store.{specs.{declared.store.open.Unopened.Unopened, Db.{rows_at, roots_of, trees_in}, Listing.{all_trees, file_trees}, Opening.IsEmptyFile, Unopened.{state_of, wanted_by, image, IsUnstarted, IsAsBefore, IsOnTheWay, Creates}}, proofs.{BuildLemmas.new_is_empty, ListingLemmas.{past_version, named_tree}}}
use Rattle.desk_database.specs.{MemoryTables.{page_size, memory_schema}, Held.{HoldsMemory, HoldsBegun, HoldsNothing, HoldsEmptyTables, IsKept, IsSpared, MayBeMemory}, Log.CanReplay}

-- a memory lists its table
pub memory_lists : (image : Image) (db : Trees) (held : HoldsMemory image db)
    → rows_at page_size (in_use page_size held.pages) Table 1 ≢ []
unfolding roots_of
memory_lists image db held none =
    let listed = sym none ∙ (held.sound.numbered refl).listed in cc

pub lists_nothing : (image : Image) (pages : PageMap) (begun : HoldsBegun image)
    → Recovers page_size image pages
    → rows_at page_size (in_use page_size pages) Table 1 ≡ []
lists_nothing image pages begun found =
    subst (λ p. rows_at page_size (in_use page_size p) Table 1 ≡ [])
    (recovers_once _ _ _ _ begun.found found) begun.empty.1

pub sound_is_not_blank : (image : Image) (pages : PageMap) → Recovers page_size image pages
    → IsSoundFile page_size pages
    → ¬ IsBlankFile page_size image
sound_is_not_blank image pages found sound =
    not_blank page_size image pages (adopts_of page_size image pages found) (omega arith) sound
    page_size (omega arith)

pub memory_is_something : (image : Image) (db : Trees) → HoldsMemory image db → ¬ HoldsNothing image
memory_is_something image db held (inl blank) =
    sound_is_not_blank image held.pages held.found held.sound.file.sound blank
memory_is_something image db held (inr begun) =
    memory_lists image db held (lists_nothing image held.pages begun held.found)

begun_carried : (before after : Image) → RecoversAs page_size before after → HoldsBegun before
    → HoldsBegun after
begun_carried before after same begun =
    record {
      pages = begun.pages;
      found = carried page_size before after same begun.pages begun.found;
      empty = begun.empty;
    }

pub memory_carried : (before after : Image) (db : Trees) → RecoversAs page_size before after
    → HoldsMemory before db → HoldsMemory after db
memory_carried before after db same held =
    record {
      pages = held.pages;
      found = carried page_size before after same held.pages held.found;
      sound = held.sound;
      reads = held.reads;
    }

-- a tree that has no row in the pages has none in the file
no_row : (tree : ℕ) → tree < 4294967296 → (pages : PageMap)
    → ((t : ℕ) → trees_in page_size memory_schema (in_use page_size pages) t ≡ [])
    → file_trees page_size memory_schema pages tree ≡ []
no_row tree low pages empty =
    past_version tree low (all_trees page_size memory_schema (in_use page_size pages))
    (version_in pages)
    ∙ named_tree tree low page_size memory_schema (in_use page_size pages) ∙ empty tree

module _ {D : Type 0} {g : Ghosts D} (old : Unopened D g)
    (size : (state_of old).page_size ≡ page_size) where
  pub nothing_of : IsUnstarted old → HoldsNothing (image old)
  nothing_of (inl blank) = inl (subst (λ n. IsBlankFile n (image old)) size blank)
  nothing_of (inr begun) = inr (record {
    pages = begun.0;
    found = subst (λ n. Recovers n (image old) begun.0) size begun.1;
    empty = subst (λ n. IsEmptyFile n begun.0) size begun.2;
  })

  pub unstarted_of : HoldsNothing (image old) → IsUnstarted old
  unstarted_of (inl blank) = inl (subst (λ n. IsBlankFile n (image old)) (sym size) blank)
  unstarted_of (inr begun) = inr (
    begun.pages,
    subst (λ n. Recovers n (image old) begun.pages) (sym size) begun.found,
    subst (λ n. IsEmptyFile n begun.pages) (sym size) begun.empty,
  )

  pub as_before : (left : Image) → IsAsBefore old left
      → (state_of old).may_leave left ⊎ RecoversAs page_size (image old) left
  as_before left it =
      subst (λ n. (state_of old).may_leave left ⊎ RecoversAs n (image old) left) size it.same

  unread_before : (left : Image) → IsAsBefore old left → IsUnreadable page_size (image old)
      → (state_of old).may_leave left
  unread_before left it unreadable =
      it.unread (subst (λ n. IsUnreadable n (image old)) (sym size) unreadable)

  pub begun_before : (left : Image) → IsAsBefore old left → HoldsBegun (image old)
      → (state_of old).may_leave left ⊎ ∥ HoldsNothing left ⊎ HoldsEmptyTables left ∥₁
  begun_before left it begun = elim (as_before left it) [
    | inl was ↦ inl was
    | inr same ↦ inr ∣ inl (inr (begun_carried (image old) left same begun)) ∣₁
  ]

  pub opens_spare : (left : Image) → IsAsBefore old left
      → IsSpared ((state_of old).may_leave left) (image old) left
  opens_spare left it =
      record { same = as_before left it; unread = λ unreadable. unread_before left it unreadable }

  on_the_way : wanted_by old ≡ memory_schema → (left : Image) → IsOnTheWay old left
      → ∥ HoldsNothing left ⊎ HoldsEmptyTables left ∥₁
  on_the_way schema left way = elim (rw (size, schema) at way) [
    | inl blank ↦ ∣ inl (inl blank) ∣₁
    | inr made ↦ elim made.2 [
      | inl new ↦
          let whole : AreWhole page_size made.0 =
          subst (AreWhole page_size) made.1.shows
          (trimmed_whole page_size made.1.stored made.1.whole) in
          ∣ inl (inr
          (record {
            pages = made.0;
            found = made.1;
            empty = new_is_empty page_size made.0 whole new;
          })) ∣₁
      | inr fresh ↦ ∥∥₁_map fresh (λ it. inr (
        file_trees page_size memory_schema made.0,
        record { pages = made.0; found = made.1; sound = it.0; reads = refl },
        (no_row 0 (omega arith) made.0 it.1, no_row 1 (omega arith) made.0 it.1),
      ))
    ]
  ]

  pub creates_keeps : (new : State) → wanted_by old ≡ memory_schema → Creates old new
      → (left : Image) → new.may_leave left
      → IsKept ((state_of old).may_leave left) (image old) left
  creates_keeps new schema creates left may =
      let guarded =
      λ (something : ¬ HoldsNothing (image old)). creates.guarded
      (λ unstarted. something (nothing_of unstarted)) left may in
      record {
        same = λ something. as_before left (guarded something);
        nothing = λ nothing. elim nothing [
          | inl blank ↦ elim
              (creates.blank (subst (λ n. IsBlankFile n (image old)) (sym size) blank) left may) [
                | inl was ↦ inl was
                | inr way ↦ inr (on_the_way schema left way)
              ]
          | inr begun ↦ elim (creates.crash left may) [
            | inl before ↦ begun_before left before begun
            | inr way ↦ inr (on_the_way schema left way)
          ]
        ];
        unread = λ something. unread_before left (guarded something);
      }

-- a making keeps what an open spares
pub spared_is_kept : (Was : Type 0) (before after : Image) → ¬ IsBlankFile page_size before
    → IsSpared Was before after → IsKept Was before after
spared_is_kept Was before after something spared = record {
  same = λ _. spared.same;
  nothing = λ nothing. elim nothing [
    | inl blank ↦ absurd (something blank)
    | inr begun ↦ elim spared.same [
      | inl was ↦ inl was
      | inr same ↦ inr ∣ inl (inr (begun_carried before after same begun)) ∣₁
    ]
  ];
  unread = λ _. spared.unread;
}

-- a log that is not read is none of a memory's
pub can_replay : (image : Image) → MayBeMemory image → CanReplay image.log
can_replay image (inl entries) =
    let found = entries.1.found.found in (found.frames, found.replays)
can_replay image (inr founded) = founded.0
