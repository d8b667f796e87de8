-- A store whose tree 0 is the table of devices, and tree 1 that of the desk.
use Rattle.std.specs.Prelude.{◌≡◌, ◌≤◌, ℕ, [], false, List, Option, Some, None, IsTrue}
use Rattle.sqlite_trees.specs.{Tree.Trees, View.{View, IsClean}, declared.{error.StoreError.{StoreError, TheVariants.{OutOfMemory, Unstorable}}, store.Shape.TheVariants.Table}}
use Rattle.desk_memory.specs.{declared.memory_fault.MemoryFault.{MemoryFault, TheVariants.{Memory, Failed}}, Entry.{Entry, are_sized}}
use Rattle.desk_database.specs.Rows.{desk_rows, rows_from}

-- the memory of this desk, with these entries
abbrev pub IsMemoryOf : Trees → List ℕ → List Entry → Type 0
IsMemoryOf trees desk entries = (trees 0 ≡ rows_from 0 entries) × (trees 1 ≡ desk_rows desk)

-- no desk's yet: neither table has a row
abbrev pub IsUnfounded : Trees → Type 0
IsUnfounded trees = (trees 0 ≡ []) × (trees 1 ≡ [])

-- some desk's, with entries of the code
abbrev pub IsFounded : Trees → Type 0
IsFounded trees =
    (desk : List ℕ) × (entries : List Entry) × IsTrue (are_sized entries)
    × IsMemoryOf trees desk entries

abbrev pub HasSameRows : Trees → Trees → Type 0
HasSameRows trees others = (trees 0 ≡ others 0) × (trees 1 ≡ others 1)

abbrev pub HasTables : View → Type 0
HasTables view = (view.shape 0 ≡ Table) × (view.shape 1 ≡ Table)

-- a store that was just opened
abbrev pub IsOpened : View → Type 0
IsOpened view = IsTrue view.is_open → view.is_broken ≡ false

-- while no call has failed and it is clean, it has the tables of this desk and these entries
pub record HasRows (view : View) (desk : List ℕ) (entries : List Entry) : Type 0 where
  pub tables : HasTables view
  pub sound : view.is_broken ≡ false
  pub rows : IsMemoryOf view.trees desk entries

abbrev pub IsTableOf : Option MemoryFault → View → List ℕ → List Entry → Type 0
IsTableOf fault view desk entries = fault ≡ None → IsClean view → HasRows view desk entries

-- where a call has failed by a fault, the store has counted one
abbrev pub IsFaulty : Option MemoryFault → View → ℕ → Type 0
IsFaulty fault view faults = fault ≡ Some Failed → IsClean view → 1 ≤ faults

-- how a memory tells the error of its store: a row that the store never takes is out of memory
abbrev pub fault_of : StoreError → MemoryFault
fault_of OutOfMemory = Memory
fault_of Unstorable = Memory
fault_of error = Failed

-- the next open may find these entries, of this desk
abbrev pub FindsEntries : (Trees → Type 0) → List ℕ → List Entry → Type 0
FindsEntries recovers desk found =
    (db : Trees) × recovers db × IsMemoryOf db desk found × IsTrue (are_sized found)
