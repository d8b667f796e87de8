-- The memories of the file system: what is found in the one that is opened or made.
use Rattle.std.specs.Prelude.{◌≡◌, Bool, true, false, ℕ, List, Option, Some, None, IsTrue, ⊤}
use Rattle.outside_edge.specs.Calls.{Rose}
use Rattle.sqlite_disk.specs.declared.Disk.{Ghosts}
use Rattle.sqlite_wal.specs.{Files.{IsHuge, outcomes}, Recovery.Image}
use Rattle.sqlite_trees.specs.Tree.{Trees}
use Rattle.sqlite_store.specs.FileStore as file_store
use Rattle.sqlite_store.specs.{FileStore.recovers, Unopened.{StopsCreating, state_of}}
use Rattle.desk_memory.specs.Entry.{Entry, are_sized}
use Rattle.desk_database.specs.{Table.{FindsEntries, IsMemoryOf}, Held.{HoldsMemory, IsKept, IsSpared}, Log.stored_page, Opening.{IsCleanLeft, Leaves, WhyUnmade, WhyUnopened, faults_of, image_of}, declared.{left.Left.Left, memory_file_fault.MemoryFileFault.{MemoryFileFault, TheVariants.{Disk, Full, HotJournal, InUse, Missing, OutOfMemory, Place}}}}
use Rattle.desk_database.specs.declared.left.Left.TheVariants as left
use Rattle.desk_cli.specs.{declared.refusals.Refusals.Refusals, MemoryFiles.{Making, Opening, Request, ToldMemories}}

-- it was counted that a path was refused, with a fault of those that come before anything is read
abbrev pub IsCounted : Refusals → Refusals → MemoryFileFault → Type 0
IsCounted old new Missing = Rose old.missing new.missing
IsCounted old new Place = Rose old.places new.places
IsCounted old new InUse = Rose old.locks new.locks
IsCounted old new HotJournal = Rose old.journals new.journals
IsCounted old new fault = ⊤

-- why files that could be read are refused, which have this image
abbrev pub why_of : Request → Image → MemoryFileFault → Type 0
why_of Opening = WhyUnopened
why_of Making = WhyUnmade

-- a memory that files with this image hold is of this desk and has these entries
pub record FindsIn (image : Image) (desk : List ℕ) (entries : List Entry) : Type 0 where
  pub holds : (db : Trees) → HoldsMemory image db → IsMemoryOf db desk entries
  pub sized : IsTrue (are_sized entries)

-- a crash leaves what an open spares, or else what a making keeps
abbrev pub keeps_as : Bool → Type 0 → Image → Image → Type 0
keeps_as false = IsSpared
keeps_as true = IsKept

module _ {D : Type 0} {g : Ghosts D} where
  -- the desk and the entries that are found in what is left of files, now or after a crash
  abbrev pub FindsLeft : Left D g → List ℕ → List Entry → Type 0
  FindsLeft (left.Files files) desk entries =
      (after : Image) × outcomes g files.log files.db after × FindsIn after desk entries
  FindsLeft (left.Unopened files) desk entries =
      (after : Image) × (state_of files).may_leave after × FindsIn after desk entries
  FindsLeft (left.Store store) desk entries = FindsEntries (recovers store) desk entries

  -- before a file was opened they are those of the image at the start
  abbrev pub FindsNow : Image → Option (Left D g) → List ℕ → List Entry → Type 0
  FindsNow start None = FindsIn start
  FindsNow start (Some files) = FindsLeft files

  -- a crash leaves of them what the files held
  abbrev pub LeavesNow : Bool → Image → Option (Left D g) → Type 0
  LeavesNow is_making start None = Unit {0}
  LeavesNow is_making start (Some files) =
      Leaves (keeps_as is_making) (λ after. after ≡ start) start files

  -- where no file was opened nothing was read
  abbrev pub IsHonestNow : Option (Left D g) → Type 0
  IsHonestNow None = Unit {0}
  IsHonestNow (Some files) = IsCleanLeft files

  abbrev pub faults_left : Left D g → ℕ
  faults_left (left.Files files) = faults_of g files
  faults_left (left.Unopened files) = (state_of files).faults
  faults_left (left.Store store) = file_store.faults store

  abbrev pub faults_now : Option (Left D g) → ℕ
  faults_now None = 0
  faults_now (Some files) = faults_left files

  -- they have too many pages, or more would not fit into them
  abbrev pub IsFullLeft : Left D g → Type 0
  IsFullLeft (left.Files files) = IsHuge stored_page (image_of g files)
  IsFullLeft (left.Unopened files) = StopsCreating files
  IsFullLeft (left.Store store) = ⊥

  abbrev pub IsFullNow : Option (Left D g) → Type 0
  IsFullNow None = ⊥
  IsFullNow (Some files) = IsFullLeft files

  -- Files failed, of which this was left before and after: there was a failure, or a limit of the
  -- format was met, and for all faults of what is there it says why. That memory ran out comes with
  -- no cause.
  abbrev pub FailsNow : (MemoryFileFault → Type 0) → Option (Left D g) → Option (Left D g)
      → MemoryFileFault → Type 0
  FailsNow why old new Disk = Rose (faults_now old) (faults_now new)
  FailsNow why old new Full = IsFullNow new
  FailsNow why old new OutOfMemory = ⊤
  FailsNow why old new Missing = ⊤
  FailsNow why old new Place = ⊤
  FailsNow why old new InUse = ⊤
  FailsNow why old new HotJournal = ⊤
  FailsNow why old new fault = why fault

  -- what is told of files whose images these are at the start, by their names: by whether the one
  -- that was asked for was to be made, how often paths were refused, what is left of files that
  -- were, and the memory that was closed
  abbrev pub told_over :
      {F M : Type 0} → (List ℕ → Image) → (F → Type 0) → (F → Bool) → (F → Refusals)
      → (F → Option (Left D g)) → (F → Option M) → ToldMemories F M
  told_over start is_unopened is_making refusals_of left_of closed_of =
      record {
        is_unopened = is_unopened;
        fits = λ asked files name. (fault : MemoryFileFault) → ¬ why_of asked (start name) fault;
        fails = λ asked old new name fault. IsCounted (refusals_of old) (refusals_of new) fault
            × (IsHonestNow (left_of new)
            → FailsNow (why_of asked (start name)) (left_of old) (left_of new) fault);
        finds = λ files name. FindsNow (start name) (left_of files);
        is_unharmed = λ files name. LeavesNow (is_making files) (start name) (left_of files);
        is_honest = λ files. IsHonestNow (left_of files);
        left = closed_of;
      }
