-- How the tables are read when a store is opened, what an open writes, and why a store is refused.
use Rattle.std.specs.Prelude.{◌≡◌, ◌≤◌, ◌⊎◌, ℕ, [], false, List, Option, Some, None, IsTrue, ⊤}
use Rattle.sqlite_value.specs.Order.{Row}
use Rattle.sqlite_trees.specs.{Tree.Trees, View.{IsClean, View, doubt}, declared.error.StoreError.{StoreError, TheVariants.{OutOfMemory, Unstorable}}}
use Rattle.desk_memory.specs.Entry.{Entry, are_sized}
use Rattle.desk_database.specs.{declared.open_fault.OpenFault.{OpenFault, TheVariants.{Memory, Failed, Foreign, Unfounded, Founded}}, Rows.{desk_rows, rows_from}, Table.{HasSameRows, IsFounded, IsUnfounded}}

-- nothing but cursors has moved
abbrev pub OnlyReads : View → View → Type 0
OnlyReads old new = (new ≡ record old { cursors = new.cursors }) × (old.is_broken ≡ false)

-- the rows that are left to be read of a table
pub record Reads (old new : View) (rows : List Row) : Type 0 where
  pub same : OnlyReads old new
  pub left : new.cursors 0 ≡ Some rows

-- no entries of the code have these rows
abbrev pub HasNoEntries : List Row → Type 0
HasNoEntries rows =
    (entries : List Entry) → IsTrue (are_sized entries) → rows ≡ rows_from 0 entries → ⊥

-- the rows of the desk of a name, or of none yet
abbrev pub rows_of_desk : Option (List ℕ) → List Row
rows_of_desk None = []
rows_of_desk (Some desk) = desk_rows desk

-- no desk has these rows, and there is a row
abbrev pub HasNoDesk : List Row → Type 0
HasNoDesk rows = (desk : Option (List ℕ)) → rows ≡ rows_of_desk desk → ⊥

-- neither a memory, nor none yet
abbrev pub IsForeign : Trees → Type 0
IsForeign trees = (IsFounded trees → ⊥) × (IsUnfounded trees → ⊥)

-- why a store is refused, where `faulted` says that it counted a fault meanwhile, and the others
-- what it is if it is told to be that
abbrev pub HasReason : View → Type 0 → Type 0 → Type 0 → Type 0 → OpenFault → Type 0
HasReason view faulted foreign unfounded founded Memory = ⊤
HasReason view faulted foreign unfounded founded Failed = IsTrue view.is_open → faulted
HasReason view faulted foreign unfounded founded Foreign = foreign
HasReason view faulted foreign unfounded founded Unfounded = unfounded
HasReason view faulted foreign unfounded founded Founded = founded

abbrev pub open_fault_of : StoreError → OpenFault
open_fault_of OutOfMemory = Memory
open_fault_of Unstorable = Memory
open_fault_of error = Failed

-- a store was read, and perhaps committed with another version: no fault is forgotten, and while it
-- is clean a crash leaves what it left before, or the rows that it had
pub record KeepsRows {S : Type 0} (view : S → View) (faults : S → ℕ)
    (recovers : S → Trees → Type 0) (old new : S) : Type 0 where
  pub clean : doubt (view old).is_clean ≤ doubt (view new).is_clean
  pub counts : faults old ≤ faults new
  pub outcomes : IsClean (view new) → (db : Trees) → recovers new db
      → recovers old db ⊎ HasSameRows db (view old).trees

-- these trees are committed, with nothing else in the log
pub record IsCommitted (trees : Trees) (old new : View) : Type 0 where
  pub trees_are : new.trees ≡ trees
  pub committed : new.committed ≡ trees
  pub shape : new.shape ≡ old.shape
  pub sound : new.is_broken ≡ false
  pub is_open : IsTrue new.is_open
