-- The entries that are found in a memory, before an open or a making of it and after.
use Rattle.std.proofs.{Common.{◌≡◌, ◌⊎◌, ◌<◌, Bool, true, false, ℕ, List, Option, Some, None, IfSome, IsTrue, refl, sym, subst, ◌∙◌, inl, inr, arith}, lemmas.Grind.not_there}
use Rattle.outside_edge.specs.Calls.{Rose}
use Rattle.sqlite_disk.specs.declared.Disk.{Ghosts}
use Rattle.sqlite_wal.specs.Recovery.{Image}
use Rattle.sqlite_pool.specs.Stored.{RecoversAs}
use Rattle.sqlite_store.specs.declared.store.FileStore.{FileStore}
use Rattle.desk_memory.specs.Entry.{Entry, are_sized}
use Rattle.desk_database.{specs.{Fault.IsOfPath, Held.{HoldsMemory, HoldsNothing}, Opening.{FailsAs, IsCleanLeft, IsMadeOver, IsOpenOver, Leaves, WhyUnmade, WhyUnopened}, MemoryTables.page_size, declared.{left.Left.Left, memory_file_fault.MemoryFileFault.{MemoryFileFault, TheVariants.{Place, Missing, InUse, HotJournal, Foreign, Disk, Full, OutOfMemory, Unfounded, Founded, OtherLog}}}}, proofs.{TableRead.{not_founded, not_unfounded}, HeldLemmas.{memory_carried, memory_is_something}}}
use Rattle.desk_database.specs.Opening as opening
use Rattle.desk_database.specs.declared.left.Left.TheVariants as left
use Rattle.desk_cli.specs.{declared.refusals.Refusals.Refusals, MemoryFiles.{IsUnopened, Request, ToldMemories}, StoreFiles.{FindsIn, FindsLeft, FindsNow, IsFullLeft, FailsNow, IsCounted, IsFullNow, IsHonestNow, LeavesNow, faults_left, faults_now, keeps_as, told_over, why_of}}

module _ {D : Type 0} {g : Ghosts D} (image : Image) (store : FileStore D g) (desk : List ℕ)
    (entries : List Entry) (opened : IsOpenOver image store desk entries) where
  pub opened_fit : (fault : MemoryFileFault) → ¬ WhyUnopened image fault
  opened_fit Foreign why = not_there opened.opened (λ has. why (inl has))
  opened_fit Unfounded why =
      not_there opened.opened (λ has. not_there why (not_unfounded image has))
  opened_fit OtherLog why = why opened.fits
  opened_fit Founded why = why
  opened_fit Place why = why
  opened_fit Missing why = why
  opened_fit InUse why = why
  opened_fit HotJournal why = why
  opened_fit Disk why = why
  opened_fit Full why = why
  opened_fit OutOfMemory why = why

  pub opened_finds : IsTrue (are_sized entries) → FindsIn image desk entries
  opened_finds sized = record { holds = opened.holds; sized = sized }

module _ {D : Type 0} {g : Ghosts D} (image : Image) (store : FileStore D g)
    (made : IsMadeOver image store) where
  pub made_fit : (fault : MemoryFileFault) → ¬ WhyUnmade image fault
  made_fit Foreign why = not_there made.unfounded (λ can. why (inr can))
  made_fit Founded why = not_there made.unfounded (λ can. not_there why (not_founded image can))
  made_fit OtherLog why = why made.fits
  made_fit Unfounded why = why
  made_fit Place why = why
  made_fit Missing why = why
  made_fit InUse why = why
  made_fit HotJournal why = why
  made_fit Disk why = why
  made_fit Full why = why
  made_fit OutOfMemory why = why

same_pages : (is_making : Bool) (Was : Type 0) (before after : Image)
    → keeps_as is_making Was before after → ¬ HoldsNothing before
    → Was ⊎ RecoversAs page_size before after
same_pages false Was before after spared something = spared.same
same_pages true Was before after kept something = kept.same something

kept_finds : (is_making : Bool) (image after : Image) (desk : List ℕ) (entries : List Entry)
    → keeps_as is_making (after ≡ image) image after → FindsIn after desk entries
    → FindsIn image desk entries
kept_finds is_making image after desk entries kept finds =
    record {
      holds = λ db held. elim
          (same_pages is_making (after ≡ image) image after kept
          (memory_is_something image db held)) [
            | inl was ↦ finds.holds db (subst (λ i. HoldsMemory i db) (sym was) held)
            | inr same ↦ finds.holds db (memory_carried image after db same held)
          ];
      sized = finds.sized;
    }

module _ {D : Type 0} {g : Ghosts D} (is_making : Bool) (image : Image) where
  left_finds : (rest : Left D g) (desk : List ℕ) (found : List Entry)
      → Leaves (keeps_as is_making) (λ after. after ≡ image) image rest
      → FindsLeft rest desk found → FindsIn image desk found
  left_finds (left.Files files) desk found leaves finds =
      kept_finds is_making image finds.0 desk found (leaves finds.0 finds.1) finds.2
  left_finds (left.Unopened files) desk found leaves finds =
      kept_finds is_making image finds.0 desk found (leaves finds.0 finds.1) finds.2
  left_finds (left.Store store) desk found leaves finds =
      let rows = leaves finds.0 finds.1 in
      record {
        holds = λ db held.
            let same = rows.holds db held in
            (sym same.0 ∙ finds.2.0, sym same.1 ∙ finds.2.1);
        sized = finds.3;
      }

  now_finds : (now : Option (Left D g)) (desk : List ℕ) (found : List Entry)
      → IfSome now (λ rest. IsCleanLeft rest
      → Leaves (keeps_as is_making) (λ after. after ≡ image) image rest)
      → IsHonestNow now → FindsNow image now desk found → FindsIn image desk found
  now_finds None desk found leaves clean finds = finds
  now_finds (Some rest) desk found leaves clean finds =
      left_finds rest desk found (leaves clean) finds

  now_leaves : (now : Option (Left D g))
      → IfSome now (λ rest. IsCleanLeft rest
      → Leaves (keeps_as is_making) (λ after. after ≡ image) image rest)
      → IsHonestNow now → LeavesNow is_making image now
  now_leaves None leaves clean = tt
  now_leaves (Some rest) leaves clean = leaves clean

module _ {D : Type 0} {g : Ghosts D} (why : Image → MemoryFileFault → Type 0) (image : Image) where
  -- it fails as this says of what is left of the files, and else by a fault of the path
  abbrev FailsBy : Option (Left D g) → MemoryFileFault → Type 0
  FailsBy None fault = IsOfPath fault
  FailsBy (Some rest) fault =
      IsCleanLeft rest
      → opening.FailsToOpen 0 (faults_left rest) (IsFullLeft rest) (why image) fault

  as_left : (rest : Left D g) (fault : MemoryFileFault) → FailsAs why 0 image rest fault
      → opening.FailsToOpen 0 (faults_left rest) (IsFullLeft rest) (why image) fault
  as_left (left.Files files) fault fails = fails
  as_left (left.Unopened files) fault fails = fails
  as_left (left.Store store) fault fails = fails

  fails_by : (now : Option (Left D g)) (fault : MemoryFileFault)
      → (now ≡ None → IsOfPath fault)
      → IfSome now (λ rest. IsCleanLeft rest → FailsAs why 0 image rest fault) → FailsBy now fault
  fails_by None fault path cause = path refl
  fails_by (Some rest) fault path cause = λ clean. as_left rest fault (cause clean)

  -- what is there says why
  unfit : (now : Option (Left D g)) (fault : MemoryFileFault) → (IsOfPath fault → ⊥)
      → ((n : ℕ) (AtLimit : Type 0) → opening.FailsToOpen 0 n AtLimit (why image) fault
      → why image fault)
      → FailsBy now fault → IsHonestNow now → why image fault
  unfit None fault never is fails clean = absurd (never fails)
  unfit (Some rest) fault never is fails clean =
      is (faults_left rest) (IsFullLeft rest) (fails clean)

  failed : (now : Option (Left D g)) → FailsBy now Disk → IsHonestNow now → 0 < faults_now now
  failed None fails clean = absurd fails
  failed (Some rest) fails clean = omega (arith, fails clean)

  full : (now : Option (Left D g)) → FailsBy now Full → IsHonestNow now → IsFullNow now
  full None fails clean = absurd fails
  full (Some rest) fails clean = fails clean

module _ {D : Type 0} {g : Ghosts D} {F M : Type 0} (images : List ℕ → Image)
    (is_unopened : F → Type 0) (is_making : F → Bool) (refusals_of : F → Refusals)
    (left_of : F → Option (Left D g)) (closed_of : F → Option M) (asked : Request) (old new : F)
    (name : List ℕ) (fresh : left_of old ≡ None) where
  abbrev Told : ToldMemories F M
  Told = told_over images is_unopened is_making refusals_of left_of closed_of

  abbrev Why : MemoryFileFault → Type 0
  Why = why_of asked (images name)

  fails_now : (fault : MemoryFileFault)
      → FailsBy (why_of asked) (images name) (left_of new) fault → IsHonestNow (left_of new)
      → FailsNow Why (left_of old) (left_of new) fault
  fails_now Foreign cause =
      unfit (why_of asked) (images name) (left_of new) Foreign (λ never. never) (λ n limit is. is)
      cause
  fails_now Unfounded cause =
      unfit (why_of asked) (images name) (left_of new) Unfounded (λ never. never)
      (λ n limit is. is) cause
  fails_now Founded cause =
      unfit (why_of asked) (images name) (left_of new) Founded (λ never. never) (λ n limit is. is)
      cause
  fails_now OtherLog cause =
      unfit (why_of asked) (images name) (left_of new) OtherLog (λ never. never)
      (λ n limit is. is) cause
  fails_now Disk cause = λ clean.
      subst (λ n. Rose (faults_now n) (faults_now (left_of new))) (sym fresh)
      (inl (failed (why_of asked) (images name) (left_of new) cause clean))
  fails_now Full cause = full (why_of asked) (images name) (left_of new) cause
  fails_now Missing cause = λ clean. tt
  fails_now Place cause = λ clean. tt
  fails_now InUse cause = λ clean. tt
  fails_now HotJournal cause = λ clean. tt
  fails_now OutOfMemory cause = λ clean. tt

  pub unopened : (making : Bool) (fault : MemoryFileFault) → is_making new ≡ making
      → IsCounted (refusals_of old) (refusals_of new) fault
      → (left_of new ≡ None → IsOfPath fault)
      → IfSome (left_of new) (λ rest. IsCleanLeft rest
      → FailsAs (why_of asked) 0 (images name) rest fault)
      → IfSome (left_of new) (λ rest. IsCleanLeft rest
      → Leaves (keeps_as making) (λ after. after ≡ images name) (images name) rest)
      → IsUnopened Told asked old new name fault
  unopened making fault is counted path cause spared = record {
    cause = (
      counted,
      fails_now fault
          (fails_by (why_of asked) (images name) (left_of new) fault path cause),
    );
    spared = λ clean desk found finds.
        subst (λ n. FindsNow (images name) n desk found) (sym fresh)
        (now_finds making (images name) (left_of new) desk found spared clean finds);
    unharmed = λ clean was.
        subst (λ is. LeavesNow is (images name) (left_of new)) (sym is)
        (now_leaves making (images name) (left_of new) spared clean);
  }
