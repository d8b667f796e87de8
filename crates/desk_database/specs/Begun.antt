-- What a step of an open or a making gives, and what it leaves of the files.
use Rattle.std.specs.Prelude.{◌≡◌, ◌≤◌, [], Option, None, Some, IsTrue}
use Rattle.sqlite_disk.specs.declared.{Disk.Ghosts, Files.Files}
use Rattle.sqlite_wal.specs.{Reads.AreClean, Recovery.Image, State.State}
use Rattle.sqlite_store.specs.{declared.{error.OpenError.OpenError, store.{FileStore.FileStore, open.Unopened.Unopened}}, FileStore.{view, state, schema_of, is_shielded, IsReady}, Opening.FailsToOpen, Unopened.{state_of, wanted_by, image, AreUsable, IsCatalogOf, Opens, StopsCreating}}
use Rattle.desk_database.specs.{Held.{IsSpared, MayBeMemory}, Log.CanReplay, Opening.{Finds, faults_of, image_of}, MemoryTables.memory_schema}

module _ {D : Type 0} {g : Ghosts D} where
  -- no fault is forgotten, and this is what each outcome of a crash holds
  pub record Keeps (Kept : Type 0 → Image → Image → Type 0) (old : Unopened D g) (new : State)
      : Type 0 where
    pub counts : (state_of old).faults ≤ new.faults
    pub crash : (left : Image) → new.may_leave left
        → Kept ((state_of old).may_leave left) (image old) left

  -- a store that was opened or made in files
  pub record GivesStore (files : Unopened D g) (store : FileStore D g) : Type 0 where
    pub ready : IsReady store
    pub schema : schema_of store ≡ memory_schema
    pub honest : IsTrue (view store).is_clean → IsTrue (state_of files).is_clean
    pub guarded : IsTrue (view store).is_clean → is_shielded store
    pub counts : IsTrue (view store).is_clean → (state_of files).faults ≤ (state store).faults
    pub found : IsTrue (view store).is_clean → Finds (image files) (view store).trees

  -- files that were refused with an error, though not where they are as `Wanted` says
  pub record Refuses (Kept : Type 0 → Image → Image → Type 0) (Wanted : Type 0)
      (files : Unopened D g) (error : OpenError) (left : Unopened D g) : Type 0 where
    pub honest : IsTrue (state_of left).is_clean → IsTrue (state_of files).is_clean
    pub cause : IsTrue (state_of left).is_clean
        → FailsToOpen (state_of files).faults (state_of left).faults (StopsCreating left) Wanted
        error
    pub spared : IsTrue (state_of left).is_clean → Keeps Kept files (state_of left)

  -- files in which no object was found
  pub record IsBegun (files left : Unopened D g) : Type 0 where
    pub usable : AreUsable left
    pub schema : wanted_by left ≡ memory_schema
    pub honest : IsTrue (state_of left).is_clean → IsTrue (state_of files).is_clean
    pub catalog : IsTrue (state_of left).is_clean → IsCatalogOf files left []
    pub opens : IsTrue (state_of left).is_clean → Opens files (state_of left)

  -- files that were refused with an error, or else in which no object was found
  abbrev pub LacksTables : Unopened D g → Option OpenError → Unopened D g → Type 0
  LacksTables files None left = IsBegun files left
  LacksTables files (Some error) left =
      Refuses IsSpared (MayBeMemory (image files)) files error left

  -- a store over two files, whose log could be read
  pub record IsStoreOver (files : Files D) (store : FileStore D g) : Type 0 where
    pub ready : IsReady store
    pub schema : schema_of store ≡ memory_schema
    pub honest : IsTrue (view store).is_clean → AreClean g files.log files.db
    pub replays : IsTrue (view store).is_clean → CanReplay (g.seen files.log)
    pub guarded : IsTrue (view store).is_clean → is_shielded store
    pub counts : IsTrue (view store).is_clean → faults_of g files ≤ (state store).faults
    pub found : IsTrue (view store).is_clean → Finds (image_of g files) (view store).trees
