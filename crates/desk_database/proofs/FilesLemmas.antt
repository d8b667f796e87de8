-- From two files to what an `Unopened` over them shows.
use Rattle.std.proofs.Common.{◌≡◌, ◌≤◌, ◌+◌, IsTrue, refl, sym, ap, ap₂, subst, ◌∙◌, inl, inr, arith, ℕ, Bool, cond, List, [], ◌∷◌}
use Rattle.sqlite_disk.specs.{declared.{Disk.Ghosts, Files.Files}, Events.{Event, replay, settled}, History.MayLeave}
use Rattle.sqlite_wal.{specs.{Files.{seen_image, outcomes}, Reads.{are_clean, AreClean, OnlyReads}, Recovery.Image}, proofs.CleanLemmas.both_clean}
use Rattle.sqlite_pool.specs.{declared.pool.Pool.Pool, Pool.{state, files}}
use Rattle.sqlite_store.specs.{declared.store.open.Unopened.Unopened, Unopened.{state_of, files_of, image}}
use Rattle.desk_database.specs.{Held.{IsKept, IsSpared}, Opening.{OnlyLooks, image_of, faults_of, FindsRows, Leaves}, declared.left.Left.Left}
use Rattle.desk_database.specs.declared.left.Left.TheVariants as left

pool_files : {D : Type 0} {g : Ghosts D} (it : Pool D g)
    → ((state it).faults ≡ g.faults (files it).0 + g.faults (files it).1)
    × ((state it).is_clean ≡ are_clean g (files it).0 (files it).1)
    × ((left : Image) → (state it).may_leave left → outcomes g (files it).0 (files it).1 left)
unfolding state files
pool_files it = (refl, refl, λ left may. may.1)

pub read_image : {D : Type 0} {g : Ghosts D} (old now : Files D) → OnlyReads g old.log now.log
    → OnlyReads g old.db now.db → image_of g old ≡ image_of g now
read_image old now log db =
    ap₂ (λ a b. let i : Image = record { log = a; db = b } in i) (sym log.seen) (sym db.seen)

pub kept_as : (P Q : Type 0) (a b left : Image) → (P → Q) → a ≡ b → IsKept P a left
    → IsKept Q b left
kept_as P Q a b left was same kept =
    subst (λ i. IsKept Q i left) same (record {
      same = λ some. elim (kept.same some) [ inl old ↦ inl (was old) | inr alike ↦ inr alike ];
      nothing = λ nothing. elim (kept.nothing nothing) [
        | inl old ↦ inl (was old)
        | inr held ↦ inr held
      ];
      unread = λ some unreadable. was (kept.unread some unreadable);
    })

pub spared_as : (P Q : Type 0) (a b left : Image) → (P → Q) → a ≡ b → IsSpared P a left
    → IsSpared Q b left
spared_as P Q a b left was same spared =
    subst (λ i. IsSpared Q i left) same (record {
      same = elim spared.same [ inl old ↦ inl (was old) | inr alike ↦ inr alike ];
      unread = λ unreadable. was (spared.unread unreadable);
    })

-- files that were only read are left as they were
pub left_as : {D : Type 0} {g : Ghosts D} (old now : Files D) → OnlyReads g old.log now.log
    → OnlyReads g old.db now.db → (after : Image) → outcomes g now.log now.db after
    → outcomes g old.log old.db after
left_as old now log db after may = (log.crash _ may.0, db.crash _ may.1)

pub looked_spared : {D : Type 0} {g : Ghosts D} (old now : Files D) → OnlyLooks g old now
    → (after : Image) → outcomes g now.log now.db after
    → IsSpared (outcomes g old.log old.db after) (image_of g old) after
looked_spared old now same after may =
    let was = left_as old now same.log same.db after may in
    record { same = inl was; unread = λ unreadable. was }

pub looked_kept : {D : Type 0} {g : Ghosts D} (old now : Files D) → OnlyLooks g old now
    → (after : Image) → outcomes g now.log now.db after
    → IsKept (outcomes g old.log old.db after) (image_of g old) after
looked_kept old now same after may =
    let was = left_as old now same.log same.db after may in
    record { same = λ some. inl was; nothing = λ none. inl was; unread = λ some unreadable. was }

module _ {D : Type 0} {g : Ghosts D} (old now : Files D) (log : OnlyReads g old.log now.log)
    (db : OnlyReads g old.db now.db)
    (fresh : Unopened D g) (made : files_of fresh ≡ (now.log, now.db)) where
  pub now_clean : IsTrue (state_of fresh).is_clean → AreClean g now.log now.db
  now_clean clean =
      sym ((pool_files fresh.pool).1 ∙ ap (λ (f : D × D). are_clean g f.0 f.1) made) ∙ clean

  pub old_clean : IsTrue (state_of fresh).is_clean → AreClean g old.log old.db
  old_clean clean = both_clean _ _ _ _ log.clean db.clean (now_clean clean)

  pub same_image : image fresh ≡ image_of g old
  same_image =
      ap (λ (f : D × D). seen_image g f.0 f.1) made
      ∙ ap₂ (λ a b. let i : Image = record { log = a; db = b } in i) log.seen db.seen

  pub counts_on : faults_of g old ≤ faults_of g now → faults_of g old ≤ (state_of fresh).faults
  counts_on less =
      omega (
        arith,
        less,
        (pool_files fresh.pool).0,
        ap (λ (f : D × D). g.faults f.0 + g.faults f.1) made,
      )

  was_outcome : (left : Image) → (state_of fresh).may_leave left
      → outcomes g old.log old.db left
  was_outcome left was =
      let may = subst (λ (f : D × D). outcomes g f.0 f.1 left) made
      ((pool_files fresh.pool).2 left was) in
      (log.crash _ may.0, db.crash _ may.1)

  pub kept_by_files : (left : Image) → IsKept ((state_of fresh).may_leave left) (image fresh) left
      → IsKept (outcomes g old.log old.db left) (image_of g old) left
  kept_by_files left =
      kept_as _ _ (image fresh) (image_of g old) left (was_outcome left) same_image

  pub spared_by_files : (left : Image)
      → IsSpared ((state_of fresh).may_leave left) (image fresh) left
      → IsSpared (outcomes g old.log old.db left) (image_of g old) left
  spared_by_files left =
      spared_as _ _ (image fresh) (image_of g old) left (was_outcome left) same_image

-- Files that were just opened hold what `S` says, and a crash leaves that.

module _ {D : Type 0} {g : Ghosts D} (P Q : Image → Type 0) (a b : Image)
    (was : (after : Image) → P after → Q after) (same : a ≡ b) where
  pub kept_leaves : (rest : Left D g) → Leaves IsKept P a rest → Leaves IsKept Q b rest
  kept_leaves (left.Files files) leaves =
      λ after may. kept_as (P after) (Q after) a b after (was after) same (leaves after may)
  kept_leaves (left.Unopened files) leaves =
      λ after may. kept_as (P after) (Q after) a b after (was after) same (leaves after may)
  kept_leaves (left.Store store) leaves =
      λ db may. subst (λ i. FindsRows i db) same (leaves db may)

  pub spared_leaves : (rest : Left D g) → Leaves IsSpared P a rest → Leaves IsSpared Q b rest
  spared_leaves (left.Files files) leaves =
      λ after may. spared_as (P after) (Q after) a b after (was after) same (leaves after may)
  spared_leaves (left.Unopened files) leaves =
      λ after may. spared_as (P after) (Q after) a b after (was after) same (leaves after may)
  spared_leaves (left.Store store) leaves =
      λ db may. subst (λ i. FindsRows i db) same (leaves db may)

pub fresh_leaves : (mixes : Bool) (log db : List ℕ) (is_log for_log : Bool) (events : List Event)
    (key : ℕ) (c : List ℕ) → is_log ≡ for_log → events ≡ settled key ∷ []
    → MayLeave mixes (replay (cond is_log log db) events).seen
    (replay (cond is_log log db) events).synced (replay (cond is_log log db) events).steps c
    → c ≡ cond for_log log db
fresh_leaves mixes log db is_log for_log events key c which is may = elim (rw (which, is) at may) [
  | inl same ↦ same
  | inr same ↦ same
]

pub fresh_faults : (log db : List ℕ) (is_log for_log : Bool) (events : List Event) (key : ℕ)
    → is_log ≡ for_log → events ≡ settled key ∷ []
    → (replay (cond is_log log db) events).faults ≡ 0
fresh_faults log db is_log for_log events key which is = rw (which, is) refl
