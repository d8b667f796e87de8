-- Answers of `move` and `adopt`.
use Rattle.std.{proofs.Common.{◌≡◌, ◌≤◌, ℕ, List, Option, Some, None, Result, Ok, Err, refl, inl, inr}, specs.Prelude.IfSome}
use Rattle.outside_edge.specs.{Shelf.KeepsFiles, declared.{shelf.Shelf.Ghosts as ShelfGhosts, sink.Sink.Ghosts as SinkGhosts}}
use Rattle.text_scan.specs.declared.fault_at.FaultAt.{FaultAt}
use Rattle.desk_memory.specs.{declared.{memory_fault.MemoryFault.MemoryFault, memory.Memory.Ghosts as MemoryGhosts}, Entry.{Entry, last_in}}
use Rattle.input_files.{specs.{declared.{refusal.Refusal.Refusal, status.Status.{Status, TheVariants.Words}, unfit.Unfit.Unfit}, Reading.{Reaches, Reads, IsUnread}, Row.RowOf, Status.status_of_refusal}, proofs.Complete.refused-words}
use Rattle.desk_cli.{specs.{Adopt.{AdoptNames, Adopts, AdoptsIf, IsAdoptAnswer, first_refused}, Founding.{states_row, FoundNames, FoundsIf, IsRememberAnswer, RememberNames}, MemoryFiles.{ToldMemories, UsesIf, Making}, Move.{Departs, IsMoveAnswer, MoveNames, Moves, departure}, StateFile.NumberedEntries, Status.status_of_unkept}, proofs.NoWords.{notes-words, puts-words, unkept-words, uses-words, lacks-words}}

-- Answers of `found` and `remember`.

founds-words : {F M : Type 0} (told : ToldMemories F M) (m : MemoryGhosts M)
    (desk_of : M → List ℕ) (memories memories_after : F) (names : FoundNames)
    (entries : List Entry) (status : Status)
    → FoundsIf told m desk_of memories memories_after names entries status
    → status ≡ Words → ⊥
founds-words told m desk_of memories memories_after names entries status (inl lacks) is =
    lacks-words told Making memories memories_after names.memory status lacks is
founds-words told m desk_of memories memories_after names entries status (inr founds) is =
    notes-words m founds.opened founds.left _ status founds.notes is

-- the file was refused
pub unread-words : {S F V : Type 0} (s : ShelfGhosts S) (shelf shelf_after : S) (memories : F)
    (name : List ℕ) (rest : V → RowOf NumberedEntries) (refusal : Refusal)
    → Reads s.files s.faults s.misses shelf shelf_after (states_row name) rest (Err refusal)
    → (IsUnread s shelf shelf_after (states_row name) (status_of_refusal refusal)
    × (memories ≡ memories))
    × (status_of_refusal refusal ≡ Words → ⊥)
unread-words s shelf shelf_after memories name rest refusal reads = (
  (record { cause = reads.refusal; order = reads.order }, refl),
  λ is. refused-words (s.files shelf) _ _ (states_row name) (rw is at reads.refusal),
)

pub refused-answer : {S F M V : Type 0} (s : ShelfGhosts S) (told : ToldMemories F M)
    (m : MemoryGhosts M) (desk_of : M → List ℕ) (shelf shelf_after : S) (memories : F)
    (names : RememberNames) (named : Option RememberNames) (rest : V → RowOf NumberedEntries)
    (refusal : Refusal)
    → Some names ≡ named
    → Reads s.files s.faults s.misses shelf shelf_after (states_row names.states) rest (Err refusal)
    → IsRememberAnswer s told m desk_of shelf shelf_after memories memories named
    (status_of_refusal refusal)
refused-answer s told m desk_of shelf shelf_after memories names named rest refusal spells reads =
    let unread = unread-words s shelf shelf_after memories names.states rest refusal reads in
    rw (← spells) (record {
      words = (λ is. absurd (unread.1 is), λ none. absurd (cc none));
      unread = λ is. absurd (unread.1 is);
      answers = inl unread.0;
      kept = reads.kept;
    })

pub remember-answer : {S F M : Type 0} (s : ShelfGhosts S) (told : ToldMemories F M)
    (m : MemoryGhosts M) (desk_of : M → List ℕ) (shelf shelf_after : S)
    (memories memories_after : F) (names : RememberNames) (named : Option RememberNames)
    (states : NumberedEntries) (status : Status)
    → Some names ≡ named
    → Reaches (s.files shelf) (states_row names.states) (Ok states)
    → KeepsFiles s.files s.faults s.misses shelf shelf_after
    → FoundsIf told m desk_of memories memories_after names.found states.entries status
    → IsRememberAnswer s told m desk_of shelf shelf_after memories memories_after named status
remember-answer s told m desk_of shelf shelf_after memories memories_after names named states
    status spells reaches keeps founds =
    let no_words = founds-words told m desk_of memories memories_after names.found states.entries
    status founds in
    rw (← spells) (record {
      words = (λ is. absurd (no_words is), λ none. absurd (cc none));
      unread = λ is. absurd (no_words is);
      answers = inr (states, reaches, founds);
      kept = keeps;
    })

fails-words : (result : Option MemoryFault) (status : Status) (Rest : Type 0)
    → (result ≡ None → status ≡ Words → ⊥)
    → IfSome result (λ fault. (status ≡ status_of_unkept fault) × Rest)
    → status ≡ Words → ⊥
fails-words None status Rest puts fails is = puts refl is
fails-words (Some fault) status Rest puts fails is = unkept-words fault (rw fails.0 at is)

departs-words : {M W : Type 0} (m : MemoryGhosts M) (w : SinkGhosts W) (opened left : M)
    (old new : W) (names : MoveNames) (entries : List Entry)
    (departs : Result (Option Entry) Unfit) (status : Status)
    → Departs m w opened left old new names entries departs status → status ≡ Words → ⊥
departs-words m w opened left old new names entries (Err unfit) status so is = cc (so.0, is)
departs-words m w opened left old new names entries (Ok None) status (same, (inl memory)) is =
    cc (memory.0, is)
departs-words m w opened left old new names entries (Ok None) status (same, (inr puts)) is =
    puts-words w old new _ status puts is
departs-words m w opened left old new names entries (Ok (Some gone)) status (inl memory) is =
    cc (memory.0, is)
departs-words m w opened left old new names entries (Ok (Some gone)) status (inr so) is =
    fails-words so.result status _
    (λ none. puts-words w old new _ status (so.puts none)) so.fails is

pub move-answer : {F M W : Type 0} (told : ToldMemories F M) (m : MemoryGhosts M)
    (desk_of : M → List ℕ) (w : SinkGhosts W) (memories memories_after : F) (old new : W)
    (names : MoveNames) (named : Option MoveNames) (status : Status)
    → Some names ≡ named
    → UsesIf told m desk_of memories memories_after names.memory status (new ≡ old)
    (Moves m w old new names status)
    → w.faults old ≤ w.faults new
    → IsMoveAnswer told m desk_of w memories memories_after old new named status
move-answer told m desk_of w memories memories_after old new names named status spells uses
    counts =
    let no_words = uses-words told m desk_of memories memories_after names.memory status _ _ uses
    (λ desk entries opened left moves. departs-words m w opened left old new names entries
    (departure desk names.desk (last_in entries names.device)) status moves) in
    rw (← spells) (record {
      words = (λ is. absurd (no_words is), λ none. absurd (cc none));
      unread = λ is. absurd (no_words is);
      answers = uses;
      sink_counted = counts;
    })

adopts-words : {M : Type 0} (m : MemoryGhosts M) (opened left : M) (entries lines : List Entry)
    (fault : Option FaultAt) (status : Status)
    → AdoptsIf m opened left entries lines fault status → status ≡ Words → ⊥
adopts-words m opened left entries lines (Some fault) status so is = cc (so.0, is)
adopts-words m opened left entries lines None status (inl memory) is = cc (memory.0, is)
adopts-words m opened left entries lines None status (inr notes) is =
    notes-words m opened left _ status notes is

pub unread-answer : {S F M V : Type 0} (s : ShelfGhosts S) (told : ToldMemories F M)
    (m : MemoryGhosts M) (desk_of : M → List ℕ) (shelf shelf_after : S) (memories : F)
    (names : AdoptNames) (named : Option AdoptNames) (rest : V → RowOf NumberedEntries)
    (refusal : Refusal)
    → Some names ≡ named
    → Reads s.files s.faults s.misses shelf shelf_after (states_row names.lines) rest (Err refusal)
    → IsAdoptAnswer s told m desk_of shelf shelf_after memories memories named
    (status_of_refusal refusal)
unread-answer s told m desk_of shelf shelf_after memories names named rest refusal spells reads =
    let unread = unread-words s shelf shelf_after memories names.lines rest refusal reads in
    rw (← spells) (record {
      words = (λ is. absurd (unread.1 is), λ none. absurd (cc none));
      unread = λ is. absurd (unread.1 is);
      answers = inl unread.0;
      kept = reads.kept;
    })

pub adopt-answer : {S F M : Type 0} (s : ShelfGhosts S) (told : ToldMemories F M)
    (m : MemoryGhosts M) (desk_of : M → List ℕ) (shelf shelf_after : S)
    (memories memories_after : F) (names : AdoptNames) (named : Option AdoptNames)
    (lines : NumberedEntries) (status : Status)
    → Some names ≡ named
    → Reaches (s.files shelf) (states_row names.lines) (Ok lines)
    → KeepsFiles s.files s.faults s.misses shelf shelf_after
    → UsesIf told m desk_of memories memories_after names.memory status (Unit {0})
    (Adopts m lines status)
    → IsAdoptAnswer s told m desk_of shelf shelf_after memories memories_after named status
adopt-answer s told m desk_of shelf shelf_after memories memories_after names named lines status
    spells reaches keeps uses =
    let no_words = uses-words told m desk_of memories memories_after names.memory status _ _ uses
    (λ desk entries opened left adopts. adopts-words m opened left entries lines.entries
    (first_refused desk entries lines) status adopts) in
    rw (← spells) (record {
      words = (λ is. absurd (no_words is), λ none. absurd (cc none));
      unread = λ is. absurd (no_words is);
      answers = inr (lines, reaches, uses);
      kept = keeps;
    })
