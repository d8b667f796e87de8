-- From one step of an open or a making to the next.
use Rattle.std.{proofs.Common.{◌≡◌, ◌≤◌, Bool, false, [], IsTrue, refl, sym, subst, ◌∙◌, true≢false, arith}, specs.Prelude.◌↔◌}
use Rattle.sqlite_disk.specs.declared.{Disk.Ghosts, Files.Files}
use Rattle.sqlite_wal.specs.{Reads.{AreClean, OnlyReads}, Files.outcomes, Recovery.Image}
use Rattle.sqlite_pool.specs.Opening.{IsBlankFile}
use Rattle.sqlite_store.specs.{declared.{error.OpenError.OpenError, store.{FileStore.FileStore, open.Unopened.Unopened}}, FileStore.view, Unopened.{files_of, image, state_of, StopsCreating}}
use Rattle.desk_database.{specs.{Begun.{GivesStore, IsBegun, IsStoreOver, Refuses}, Held.{HoldsNothing, IsKept, IsSpared, LacksObjects, MayBeMemory}, Opening.{FailsToOpen, Finds, faults_of, image_of}, Fault.fault_of_store, Log.CanReplay, declared.memory_file_fault.MemoryFileFault.{MemoryFileFault, TheVariants.Foreign}, MemoryTables.page_size}, proofs.{CatalogLemmas.{can_be_made, finds_through, kept_through, lacks_objects}, FailLemmas.{fails_behind, from_store, wanted_more}, FilesLemmas.{counts_on, now_clean, old_clean, same_image, spared_by_files}, HeldLemmas.{opens_spare, spared_is_kept}}}

module _ {D : Type 0} {g : Ghosts D} where
  pub refused_as : (K : Type 0 → Image → Image → Type 0) (P Q : Type 0) (files : Unopened D g)
      (error : OpenError) (left : Unopened D g) → (IsTrue (state_of files).is_clean → Q → P)
      → Refuses K P files error left → Refuses K Q files error left
  refused_as K P Q files error left so refused = record {
    honest = refused.honest;
    cause = λ clean.
        wanted_more _ _ _ P Q error (so (refused.honest clean)) (refused.cause clean);
    spared = refused.spared;
  }

  pub refused_kept : (P : Type 0) (files : Unopened D g) (error : OpenError) (left : Unopened D g)
      → (IsTrue (state_of files).is_clean → ¬ IsBlankFile page_size (image files))
      → Refuses IsSpared P files error left → Refuses IsKept P files error left
  refused_kept P files error left something refused = record {
    honest = refused.honest;
    cause = refused.cause;
    spared = λ clean.
        let kept = refused.spared clean in
        record {
          counts = kept.counts;
          crash = λ after may. spared_is_kept _ (image files) after
              (something (refused.honest clean)) (kept.crash after may);
        };
  }

  module _ (files mid : Unopened D g) (size : (state_of files).page_size ≡ page_size)
      (something : IsTrue (state_of files).is_clean → ¬ IsBlankFile page_size (image files))
      (begun : IsBegun files mid) where
    pub given_through : (store : FileStore D g) → GivesStore mid store → GivesStore files store
    given_through store given = record {
      ready = given.ready;
      schema = given.schema;
      honest = λ clean. begun.honest (given.honest clean);
      guarded = given.guarded;
      counts = λ clean.
          omega (arith, (begun.opens (given.honest clean)).counts, given.counts clean);
      found = λ clean.
          let early = given.honest clean in
          finds_through files mid [] size (something (begun.honest early)) (begun.opens early)
          (begun.catalog early) (view store).trees (given.found clean);
    }

    pub refused_through : (error : OpenError) (left : Unopened D g)
        → Refuses IsKept (HoldsNothing (image mid)) mid error left
        → Refuses IsKept (MayBeMemory (image files)) files error left
    refused_through error left refused = record {
      honest = λ clean. begun.honest (refused.honest clean);
      cause = λ clean.
          let early = refused.honest clean in
          fails_behind _ _ _ _ _ _ _ error (begun.opens early).counts (λ full. full)
          (can_be_made files mid [] size (something (begun.honest early)) (begun.opens early)
          (begun.catalog early) refl) (refused.cause clean);
      spared = λ clean.
          let early = refused.honest clean in
          let kept = refused.spared clean in
          record {
            counts = omega (arith, (begun.opens early).counts, kept.counts);
            crash = λ after may.
                kept_through files mid [] size (something (begun.honest early)) (begun.opens early)
                (begun.catalog early) after (kept.crash after may);
          };
    }

  -- over the two files that were read
  module _ (old now : Files D) (log : OnlyReads g old.log now.log) (db : OnlyReads g old.db now.db)
      (fresh : Unopened D g) (made : files_of fresh ≡ (now.log, now.db)) where
    pub over_files : (store : FileStore D g) → faults_of g old ≤ faults_of g now
        → (AreClean g now.log now.db → CanReplay (g.seen old.log))
        → GivesStore fresh store → IsStoreOver old store
    over_files store counts replays given = record {
      ready = given.ready;
      schema = given.schema;
      honest = λ clean. old_clean old now log db fresh made (given.honest clean);
      replays = λ clean. replays (now_clean old now log db fresh made (given.honest clean));
      guarded = given.guarded;
      counts = λ clean.
          omega (arith, counts_on old now log db fresh made counts, given.counts clean);
      found = λ clean.
          subst (λ i. Finds i (view store).trees) (same_image old now log db fresh made)
          (given.found clean);
    }

    pub something_on : (is_blank : Bool)
        → (AreClean g now.log now.db
        → (IsTrue is_blank ↔ IsBlankFile page_size (image_of g old)))
        → is_blank ≡ false → IsTrue (state_of fresh).is_clean
        → ¬ IsBlankFile page_size (image fresh)
    something_on is_blank probed off clean blank =
        let same = same_image old now log db fresh made in
        let known = probed (now_clean old now log db fresh made clean) in
        true≢false (sym (known.1 (subst (IsBlankFile page_size) same blank)) ∙ off)

    -- why files were refused that were read before
    pub cause_on : (K : Type 0 → Image → Image → Type 0) (why : MemoryFileFault → Type 0)
        (error : OpenError) (left : Unopened D g) → faults_of g old ≤ faults_of g now
        → (¬ MayBeMemory (image_of g old) → why Foreign)
        → Refuses K (MayBeMemory (image fresh)) fresh error left
        → IsTrue (state_of left).is_clean
        → FailsToOpen (faults_of g old) (state_of left).faults (StopsCreating left) why
        (fault_of_store error)
    cause_on K why error left counts so refused clean =
        from_store _ _ _ _ _ why error (counts_on old now log db fresh made counts)
        (λ none. so (subst (λ i. ¬ MayBeMemory i) (same_image old now log db fresh made) none))
        (refused.cause clean)

    -- files without an object
    pub lacks_on : (left : Unopened D g) → (state_of fresh).page_size ≡ page_size
        → (IsTrue (state_of fresh).is_clean → ¬ IsBlankFile page_size (image fresh))
        → IsBegun fresh left → IsTrue (state_of left).is_clean → LacksObjects (image_of g old)
    lacks_on left size something begun clean =
        subst LacksObjects (same_image old now log db fresh made)
        (lacks_objects fresh left [] size (something (begun.honest clean)) (begun.opens clean)
        (begun.catalog clean) refl)

    pub begun_is_spared : (left : Unopened D g) → (state_of fresh).page_size ≡ page_size
        → IsBegun fresh left → IsTrue (state_of left).is_clean → (after : Image)
        → (state_of left).may_leave after
        → IsSpared (outcomes g old.log old.db after) (image_of g old) after
    begun_is_spared left size begun clean after may =
        spared_by_files old now log db fresh made after
        (opens_spare fresh size after ((begun.opens clean).crash after may))
