-- A store that was opened, and the memory in it, or why it is refused.
use Rattle.std.proofs.{Common.{◌≡◌, ◌≤◌, ℕ, IsTrue, refl, sym, ap, subst, ◌∙◌, inl, inr, arith, []}, Math.Logic.∥∥₁_map}
use Rattle.sqlite_disk.specs.{declared.Disk.Ghosts, Disk.MoreFaults}
use Rattle.sqlite_wal.specs.Recovery.{Image}
use Rattle.sqlite_trees.specs.{Tree.Trees, View.View, declared.store.Shape.TheVariants.Table}
use Rattle.sqlite_store.{specs.{declared.store.FileStore.FileStore, FileStore.{view, schema_of}, Db.rows_at, Listing.file_trees}, proofs.ListingLemmas.named_shape}
use Rattle.desk_database.{specs.{declared.{open_fault.OpenFault.OpenFault, memory_file_fault.MemoryFileFault.MemoryFileFault}, TableOpening.{HasReason, IsForeign}, Table.{HasSameRows, HasTables, IsFounded, IsUnfounded}, MemoryTables.{memory_schema, page_size}, Fault.fault_of_table, Held.{CanBeFounded, HasEntries, HoldsUnfounded, MayBeMemory, HoldsMemory}, Log.CanReplay, Opening.{Finds, FindsRows, FailsToOpen}}, proofs.HeldLemmas.{memory_is_something, memory_lists}}
use Rattle.sqlite_pool.specs.{File.in_use, StoredLaws.recovers_once}
use Rattle.sqlite_pages.specs.PageMap.{PageMap}
use Rattle.desk_database.specs.declared.open_fault.OpenFault.TheVariants as table
use Rattle.desk_database.specs.declared.memory_file_fault.MemoryFileFault.TheVariants as fault

pub has_tables : {D : Type 0} {g : Ghosts D} (store : FileStore D g)
    → schema_of store ≡ memory_schema → HasTables (view store)
has_tables store schema = (
  named_shape 0 (omega arith) (schema_of store) ∙ rw schema refl,
  named_shape 1 (omega arith) (schema_of store) ∙ rw schema refl,
)

pub not_both : (trees : Trees) → IsFounded trees → IsUnfounded trees → ⊥
not_both trees founded unfounded =
    let is = sym unfounded.1 ∙ founded.3.1 in absurd (cc)

module _ (image : Image) (trees : Trees) (finds : Finds image trees) where
  pub finds_rows : (db : Trees) → HasSameRows db trees → FindsRows image db
  finds_rows db same = record {
    holds = λ held h.
        let is = finds.holds held h in (
          same.0 ∙ ap (λ (t : Trees). t 0) is,
          same.1 ∙ ap (λ (t : Trees). t 1) is,
        );
    nothing = λ nothing.
        let none = finds.nothing nothing in (same.0 ∙ none.0, same.1 ∙ none.1);
  }

  pub is_foreign : IsForeign trees → ¬ MayBeMemory image
  is_foreign foreign (inl entries) =
      foreign.0 (subst IsFounded (sym (finds.holds entries.0 entries.1)) entries.2)
  is_foreign foreign (inr (replay, inl nothing)) = foreign.1 (finds.nothing nothing)
  is_foreign foreign (inr (replay, inr empty)) =
      foreign.1 (subst IsUnfounded (sym (finds.holds empty.0 empty.1)) empty.2)

  pub has_entries : IsFounded trees → ∥ HasEntries image ∥₁
  has_entries founded = ∥∥₁_map finds.opened (λ it. elim it [
    | inl nothing ↦ absurd (not_both trees founded (finds.nothing nothing))
    | inr held ↦ (trees, held, founded)
  ])

  pub can_be_founded : CanReplay image.log → IsUnfounded trees → ∥ CanBeFounded image ∥₁
  can_be_founded replay unfounded = ∥∥₁_map finds.opened (λ it. elim it [
    | inl nothing ↦ (replay, inl nothing)
    | inr held ↦ (replay, inr (trees, held, unfounded))
  ])

-- what can be founded is no memory yet
pub is_unfounded : (image : Image) → CanBeFounded image → HoldsUnfounded image
is_unfounded image (replay, inl (inl blank)) = (replay, inl blank)
is_unfounded image (replay, inl (inr begun)) =
    (replay, inr (inl (begun.pages, begun.found, begun.empty.1)))
is_unfounded image (replay, inr empty) = (replay, inr (inr empty))

-- why a table is refused, of the files
pub from_table : (a b c : ℕ) (v : View) (F U X : Type 0) (why : MemoryFileFault → Type 0)
    (it : OpenFault) → a ≤ b → IsTrue v.is_open → (F → why fault.Foreign)
    → (U → why fault.Unfounded) → (X → why fault.Founded)
    → HasReason v (MoreFaults b c) F U X it → FailsToOpen a c ⊥ why (fault_of_table it)
from_table a b c v F U X why table.Memory less open_ foreign unfounded founded reason = tt
from_table a b c v F U X why table.Failed less open_ foreign unfounded founded reason =
    omega (arith, reason open_)
from_table a b c v F U X why table.Foreign less open_ foreign unfounded founded reason =
    foreign reason
from_table a b c v F U X why table.Unfounded less open_ foreign unfounded founded reason =
    unfounded reason
from_table a b c v F U X why table.Founded less open_ foreign unfounded founded reason =
    founded reason

-- Files hold one memory, or none yet.

pub one_memory : (image : Image) (db other : Trees) → HoldsMemory image db
    → HoldsMemory image other → db ≡ other
one_memory image db other held beside =
    held.reads
    ∙ ap (file_trees page_size memory_schema) (recovers_once _ _ _ _ held.found beside.found)
    ∙ sym beside.reads

-- what has entries is founded
pub not_unfounded : (image : Image) → HasEntries image → ¬ HoldsUnfounded image
not_unfounded image has (replay, inl blank) =
    memory_is_something image has.0 has.1 (inl blank)
not_unfounded image has (replay, inr (inl lacks)) =
    memory_lists image has.0 has.1
    (subst (λ (p : PageMap). rows_at page_size (in_use page_size p) Table 1 ≡ [])
    (recovers_once _ _ _ _ lacks.1 has.1.found) lacks.2)
not_unfounded image has (replay, inr (inr empty)) =
    not_both has.0 has.2
    (subst IsUnfounded (one_memory image empty.0 has.0 empty.1 has.1) empty.2)

pub not_founded : (image : Image) → CanBeFounded image → ¬ HasEntries image
not_founded image can has = not_unfounded image has (is_unfounded image can)
