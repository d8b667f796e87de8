-- What a database file and its log hold of a desk's memory.
use Rattle.std.specs.Prelude.{◌≡◌, ◌⊎◌, true, []}
use Rattle.sqlite_wal.specs.Recovery.{Image}
use Rattle.sqlite_pages.specs.PageMap.{PageMap}
use Rattle.sqlite_pool.specs.{File.in_use, Stored.{Recovers, RecoversAs, IsUnreadable}, Opening.IsBlankFile}
use Rattle.sqlite_trees.specs.{Tree.Trees, declared.store.Shape.TheVariants.Table}
use Rattle.sqlite_store.specs.{Db.rows_at, Listing.{IsOurs, file_trees}, Opening.IsEmptyFile}
use Rattle.desk_database.specs.{Table.{IsFounded, IsUnfounded}, Log.CanReplay, MemoryTables.{page_size, memory_schema}}

-- the files recover to a sound database whose objects are the two tables, with these trees
pub record HoldsMemory (image : Image) (db : Trees) : Type 0 where
  pub pages : PageMap
  pub found : Recovers page_size image pages
  pub sound : IsOurs page_size true memory_schema pages
  pub reads : db ≡ file_trees page_size memory_schema pages

-- the files recover to a sound database without an object: a crash cut off the making of the tables
pub record HoldsBegun (image : Image) : Type 0 where
  pub pages : PageMap
  pub found : Recovers page_size image pages
  pub empty : IsEmptyFile page_size pages

-- There are no tables yet. The database file is missing, is empty or has one byte beside a log
-- without a commit, or it is what a crash left of a first page, or it has no object.
abbrev pub HoldsNothing : Image → Type 0
HoldsNothing image = IsBlankFile page_size image ⊎ HoldsBegun image

-- the tables, without a row
abbrev pub HoldsEmptyTables : Image → Type 0
HoldsEmptyTables image = (db : Trees) × HoldsMemory image db × IsUnfounded db

-- the memory of a desk, with its entries
abbrev pub HasEntries : Image → Type 0
HasEntries image = (db : Trees) × HoldsMemory image db × IsFounded db

-- recovery finds a list of objects, and it is empty
abbrev pub LacksObjects : Image → Type 0
LacksObjects image =
    (pages : PageMap) × Recovers page_size image pages
    × (rows_at page_size (in_use page_size pages) Table 1 ≡ [])

-- no desk's memory yet, beside a log that can be read: there is no database, it lists no object, or
-- its tables have no row
abbrev pub HoldsUnfounded : Image → Type 0
HoldsUnfounded image =
    CanReplay image.log
    × (IsBlankFile page_size image ⊎ (LacksObjects image ⊎ HoldsEmptyTables image))

-- the same, where what is there is sound: a memory can be made there
abbrev pub CanBeFounded : Image → Type 0
CanBeFounded image = CanReplay image.log × (HoldsNothing image ⊎ HoldsEmptyTables image)

abbrev pub MayBeMemory : Image → Type 0
MayBeMemory image = HasEntries image ⊎ CanBeFounded image

-- What a crash leaves after an open that failed, or in one: an old outcome, which `Was` says, or
-- the same pages as before. Files that stand for no whole pages stay as they were.
pub record IsSpared (Was : Type 0) (before after : Image) : Type 0 where
  pub same : Was ⊎ RecoversAs page_size before after
  pub unread : IsUnreadable page_size before → Was

-- The same of a making. Where there were no tables it leaves none, or empty ones.
pub record IsKept (Was : Type 0) (before after : Image) : Type 0 where
  pub same : ¬ HoldsNothing before → Was ⊎ RecoversAs page_size before after
  pub nothing : HoldsNothing before → Was ⊎ ∥ HoldsNothing after ⊎ HoldsEmptyTables after ∥₁
  pub unread : ¬ HoldsNothing before → IsUnreadable page_size before → Was
