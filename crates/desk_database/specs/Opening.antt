-- What an open or a making of a memory finds, and why it fails.
use Rattle.std.specs.Prelude.{◌≡◌, ◌⊎◌, ◌≤◌, ℕ, ◌+◌, List, IsTrue, ⊤}
use Rattle.sqlite_disk.specs.{declared.{Disk.Ghosts, Files.Files}, Disk.MoreFaults}
use Rattle.sqlite_wal.specs.{Recovery.Image, Reads.{AreClean, OnlyReads}, Files.{seen_image, outcomes, IsHuge}}
use Rattle.sqlite_trees.specs.Tree.{Trees}
use Rattle.sqlite_store.specs.{FileStore.{view, is_shielded, log_frames, recovers}, declared.store.FileStore.FileStore, Unopened.{state_of, StopsCreating}}
use Rattle.sqlite_store.specs.FileStore as file_store
use Rattle.desk_memory.specs.Entry.{Entry}
use Rattle.desk_database.specs.{Table.{HasSameRows, IsMemoryOf, IsUnfounded}, Log.{with_next_version, CanReplay, FitsLog, FitsMaking, stored_page}, Held.{HoldsMemory, HoldsNothing, HoldsUnfounded, CanBeFounded, HasEntries, MayBeMemory}, declared.{left.Left.Left, memory_file_fault.MemoryFileFault.{MemoryFileFault, TheVariants.{Place, Missing, InUse, HotJournal, Foreign, Disk, Full, OutOfMemory, Unfounded, Founded, OtherLog}}}}
use Rattle.desk_database.specs.declared.left.Left.TheVariants as left

-- the trees are those of the tables that the files held; where there were none, they have no row
pub record Finds (image : Image) (db : Trees) : Type 0 where
  pub holds : (held : Trees) → HoldsMemory image held → db ≡ held
  pub nothing : HoldsNothing image → IsUnfounded db
  pub opened : ∥ HoldsNothing image ⊎ HoldsMemory image db ∥₁

-- the rows are those
pub record FindsRows (image : Image) (db : Trees) : Type 0 where
  pub holds : (held : Trees) → HoldsMemory image held → HasSameRows db held
  pub nothing : HoldsNothing image → IsUnfounded db

-- why files are refused that could be read: of an open, and of a making
abbrev pub WhyUnopened : Image → MemoryFileFault → Type 0
WhyUnopened image Foreign = ¬ MayBeMemory image
WhyUnopened image Unfounded = ∥ HoldsUnfounded image ∥₁
WhyUnopened image OtherLog = ¬ FitsLog image
WhyUnopened image fault = ⊥

abbrev pub WhyUnmade : Image → MemoryFileFault → Type 0
WhyUnmade image Foreign = ¬ MayBeMemory image
WhyUnmade image Founded = ∥ HasEntries image ∥₁
WhyUnmade image OtherLog = ¬ FitsMaking image
WhyUnmade image fault = ⊥

-- why two files are refused that could be read, before they are recovered
abbrev pub WhyUnread : Image → MemoryFileFault → Type 0
WhyUnread image Foreign = ¬ CanReplay image.log
WhyUnread image fault = ⊥

-- Memory ran out, the file system failed between these two counts of faults, a limit of the format
-- was met, or the files are not ones to open or to make a memory in, as `Why` says.
abbrev pub FailsToOpen : ℕ → ℕ → Type 0 → (MemoryFileFault → Type 0) → MemoryFileFault → Type 0
FailsToOpen old new AtLimit Why OutOfMemory = ⊤
FailsToOpen old new AtLimit Why Disk = MoreFaults old new
FailsToOpen old new AtLimit Why Full = AtLimit
FailsToOpen old new AtLimit Why Foreign = Why Foreign
FailsToOpen old new AtLimit Why Unfounded = Why Unfounded
FailsToOpen old new AtLimit Why Founded = Why Founded
FailsToOpen old new AtLimit Why OtherLog = Why OtherLog
FailsToOpen old new AtLimit Why Place = ⊥
FailsToOpen old new AtLimit Why Missing = ⊥
FailsToOpen old new AtLimit Why InUse = ⊥
FailsToOpen old new AtLimit Why HotJournal = ⊥

abbrev pub image_of : {D : Type 0} → Ghosts D → Files D → Image
image_of g files = seen_image g files.log files.db

abbrev pub faults_of : {D : Type 0} → Ghosts D → Files D → ℕ
faults_of g files = g.faults files.log + g.faults files.db

-- two files were only read, and no fault is forgotten
pub record OnlyLooks {D : Type 0} (g : Ghosts D) (old new : Files D) : Type 0 where
  pub log : OnlyReads g old.log new.log
  pub db : OnlyReads g old.db new.db
  pub counts : faults_of g old ≤ faults_of g new

-- two files that were just opened hold this, whatever a crash leaves, and no call of them failed
pub record AreFresh {D : Type 0} (g : Ghosts D) (image : Image) (files : Files D) : Type 0 where
  pub holds : image_of g files ≡ image
  pub leaves : (after : Image) → outcomes g files.log files.db after → after ≡ image
  pub sound : faults_of g files ≡ 0

module _ {D : Type 0} {g : Ghosts D} where
  -- the memory of this desk with these entries was opened over files that had this image
  pub record IsOpenOver (image : Image) (store : FileStore D g) (desk : List ℕ)
      (entries : List Entry) : Type 0 where
    -- its rows are those that the files held
    pub holds : (db : Trees) → HoldsMemory image db → IsMemoryOf db desk entries
    -- and they held nothing else
    pub opened : ∥ HasEntries image ∥₁
    -- their log was of their last opening
    pub fits : FitsLog image
    -- a crash leaves these rows and no others
    pub settled : (db : Trees) → recovers store db → IsMemoryOf db desk entries
    -- this opening is counted by two commits
    pub counts : (held : Trees) → HoldsMemory image held → (db : Trees) → recovers store db
        → db ≡ with_next_version (with_next_version held)
    -- each later read is tested
    pub shielded : is_shielded store
    -- and no page is in the log
    pub copied : log_frames store ≡ 0

  -- a memory without an entry was begun over files that had this image
  pub record IsMadeOver (image : Image) (store : FileStore D g) : Type 0 where
    -- they held no desk's memory
    pub unfounded : ∥ CanBeFounded image ∥₁
    -- their log was of no other opening
    pub fits : FitsMaking image
    -- and a crash leaves none
    pub nothing : (db : Trees) → recovers store db → IsUnfounded db
    pub shielded : is_shielded store

  abbrev pub IsCleanLeft : Left D g → Type 0
  IsCleanLeft (left.Files files) = AreClean g files.log files.db
  IsCleanLeft (left.Unopened files) = IsTrue (state_of files).is_clean
  IsCleanLeft (left.Store store) = IsTrue (view store).is_clean

  -- Why files with this image and this count of faults were refused. A limit of the format that the
  -- store met while its rows were read is among its faults.
  abbrev pub FailsAs :
      (Image → MemoryFileFault → Type 0) → ℕ → Image → Left D g → MemoryFileFault → Type 0
  FailsAs why faults image (left.Files files) =
      FailsToOpen faults (faults_of g files) (IsHuge stored_page (image_of g files)) (why image)
  FailsAs why faults image (left.Unopened files) =
      FailsToOpen faults (state_of files).faults (StopsCreating files) (why image)
  FailsAs why faults image (left.Store store) =
      FailsToOpen faults (file_store.faults store) ⊥ (why image)

  -- What a crash may leave of files that had this image, as `Keeps` says of an open or a making.
  -- `Was` says which outcomes it had before.
  abbrev pub Leaves :
      (Type 0 → Image → Image → Type 0) → (Image → Type 0) → Image → Left D g → Type 0
  Leaves Keeps Was image (left.Files files) =
      (after : Image) → outcomes g files.log files.db after → Keeps (Was after) image after
  Leaves Keeps Was image (left.Unopened files) =
      (after : Image) → (state_of files).may_leave after → Keeps (Was after) image after
  Leaves Keeps Was image (left.Store store) =
      (db : Trees) → recovers store db → FindsRows image db

  -- these files were refused for a cause, and hold what they held, whenever the call is cut off
  pub record IsRefused (why : Image → MemoryFileFault → Type 0)
      (Keeps : Type 0 → Image → Image → Type 0) (files : Files D) (fault : MemoryFileFault)
      (left : Left D g) : Type 0 where
    pub cause : IsCleanLeft left
        → FailsAs why (faults_of g files) (image_of g files) left fault
    pub spared : IsCleanLeft left
        → Leaves Keeps (outcomes g files.log files.db) (image_of g files) left
