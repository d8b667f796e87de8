-- Answers of a desk: after a refusal of its files, and after it met its memory and its lines.
use Rattle.std.proofs.Common.{◌≡◌, ◌≤◌, ℕ, List, Option, Some, None, Ok, Err, refl, inl, inr, arith, rules}
use Rattle.outside_edge.specs.{Shelf.KeepsFiles, declared.{shelf.Shelf.Ghosts as ShelfGhosts, sink.Sink.Ghosts as SinkGhosts, source.Source.Ghosts as SourceGhosts}}
use Rattle.report_verifier.specs.Policy.{PolicyFields}
use Rattle.desk_memory.specs.{Entry.Entry, NoMemory.forgets, declared.{memory_fault.MemoryFault.MemoryFault, memory.Memory.Ghosts as MemoryGhosts}}
use Rattle.verifier_desk.specs.{DeviceKey.DeviceKey, Replies.DeskFields, declared.answer_fault.AnswerFault.AnswerFault, Serving.desk_promise}
use Rattle.input_files.{specs.{declared.{refusal.Refusal.Refusal, status.Status.{Status, TheVariants.{Words, Spent}}}, Reading.{Reaches, Reads}, Row.{RowOf, Ends}, Status.status_of_refusal}, proofs.Complete.{refused-complete, told-complete, refused-words, refused-spent}}
use Rattle.desk_cli.{specs.{Desk.{DeskNames, DeskValues, HasServed, IsDeskAnswer, Meets, ServesFrom, desk_row}, MemoryFiles.ToldMemories, Status.{status_of_served, status_of_unkept, status_of_unopened}}, proofs.{DeskComplete.serves-whole, NoWords.{served-words, uses-words}}}
use Rattle.source_server.{specs.{Serving.Ports, declared.served.Served.Served, Taken.KeepsLimit}, proofs.ServedEnds.keeps_limit}
use Rattle.desk_database.specs.declared.memory_file_fault.MemoryFileFault.{MemoryFileFault}
use Rattle.mem_map.specs.Image.{byte_in}
use Rattle.source_server.specs.declared.served.Served.TheVariants as served
use Rattle.verifier_desk.specs.declared.answer_fault.AnswerFault.TheVariants as fault
use Rattle.desk_cli.proofs.desk.run_desk.Goals as goal

-- How much a desk takes of its source, whatever the source tells.

unkept-spent : (fault : MemoryFault) → status_of_unkept fault ≡ Spent → ⊥
unkept-spent = search rules

unopened-spent : (fault : MemoryFileFault) → status_of_unopened fault ≡ Spent → ⊥
unopened-spent = search rules

module _ {R : Type 0} (r : SourceGhosts R) where
  -- nothing was taken
  untouched : (now : R) (status : Status) → (status ≡ Spent → ⊥)
      → KeepsLimit r now now (status ≡ Spent)
  untouched now status other =
      record { few = omega arith; spent = λ is. absurd (other is) }

  refused-limit : (now : R) (refusal : Refusal)
      → KeepsLimit r now now (status_of_refusal refusal ≡ Spent)
  refused-limit now refusal = untouched now (status_of_refusal refusal) (refused-spent refusal)

  ended-spent : (ended : Served AnswerFault) → status_of_served ended ≡ Spent
      → ended ≡ served.Spent
  ended-spent served.Spent is = refl
  ended-spent served.Done is = absurd (cc is)
  ended-spent served.ReadFault is = absurd (cc is)
  ended-spent served.WriteFault is = absurd (cc is)
  ended-spent (served.Own fault.Memory) is = absurd (cc is)
  ended-spent (served.Own (fault.Unkept unkept)) is = absurd (unkept-spent unkept is)

  served-limit : {M W : Type 0} (m : MemoryGhosts M) (w : SinkGhosts W) (desk : DeskFields)
      (opened left : M) (old new : Ports R W) (status : Status)
      → HasServed r m w desk opened left old new status
      → KeepsLimit r old.source new.source (status ≡ Spent)
  served-limit m w desk opened left old new status has =
      keeps_limit r (desk_promise m w desk (record { memory = opened; sink = old.sink }))
      old.source new.source (record { memory = left; sink = new.sink }) has.ended has.serves
      (λ is. ended-spent has.ended (rw has.answer at is))

  meets-limit : {M W : Type 0} (m : MemoryGhosts M) (w : SinkGhosts W) (values : DeskValues)
      (old new : Ports R W) (status : Status) (desk : List ℕ) (entries : List Entry)
      (opened left : M)
      → Meets r m w values old new status desk entries opened left
      → KeepsLimit r old.source new.source (status ≡ Spent)
  meets-limit m w values old new status desk entries opened left
      (inl ((inl taken), same, silent)) =
      rw silent (untouched old.source status (λ is. cc (taken.answer, is)))
  meets-limit m w values old new status desk entries opened left
      (inl ((inr (inl gone)), same, silent)) =
      rw silent (untouched old.source status (λ is. cc (gone.answer, is)))
  meets-limit m w values old new status desk entries opened left
      (inl ((inr (inr memory)), same, silent)) =
      rw silent (untouched old.source status (λ is. cc (memory, is)))
  meets-limit m w values old new status desk entries opened left (inr (apart, here, has)) =
      served-limit m w _ opened left old new status has

  serves-limit : {F M W : Type 0} (told : ToldMemories F M) (m : MemoryGhosts M)
      (desk_of : M → List ℕ) (w : SinkGhosts W) (values : DeskValues) (memory : Option (List ℕ))
      (memories memories_after : F) (old new : Ports R W) (status : Status)
      → ServesFrom told r m desk_of w values memory memories memories_after old new status
      → KeepsLimit r old.source new.source (status ≡ Spent)
  serves-limit told m desk_of w values None memories memories_after old new status
      (same, (opened, left, has)) =
      served-limit forgets w _ opened left old new status has
  serves-limit told m desk_of w values (Some name) memories memories_after old new status
      (inl (lacks, silent)) =
      rw silent (untouched old.source status
      (λ is. unopened-spent lacks.fault (rw lacks.answer at is)))
  serves-limit told m desk_of w values (Some name) memories memories_after old new status
      (inr opens) =
      meets-limit m w values old new status (desk_of opens.opened) opens.entries opens.opened
      opens.left opens.does

-- the end of its row, once its files have values
abbrev desk_end : List DeviceKey × ((ℕ → Option ℕ) × PolicyFields) → RowOf DeskValues
desk_end values =
    Ends (Ok (record { devices = values.0; image = values.1.0; policy = values.1.1 }))

refused-answer : {S F R M W V : Type 0} (s : ShelfGhosts S) (told : ToldMemories F M)
    (r : SourceGhosts R) (m : MemoryGhosts M) (desk_of : M → List ℕ) (w : SinkGhosts W)
    (shelf shelf_after : S) (memories : F) (ports : Ports R W) (names : DeskNames)
    (named : Option DeskNames) (rest : V → RowOf DeskValues) (refusal : Refusal)
    → Some names ≡ named
    → Reads s.files s.faults s.misses shelf shelf_after (desk_row names) rest (Err refusal)
    → IsDeskAnswer s told r m desk_of w shelf shelf_after memories memories ports ports named
    (status_of_refusal refusal)
refused-answer s told r m desk_of w shelf shelf_after memories ports names named rest refusal
    spells reads =
    let no_words = λ (is : status_of_refusal refusal ≡ Words).
    refused-words (s.files shelf) _ _ (desk_row names) (rw is at reads.refusal) in
    rw (← spells) (record {
      words = (λ is. absurd (no_words is), λ none. absurd (cc none));
      unread = λ is. absurd (no_words is);
      answers = inl (record { cause = reads.refusal; order = reads.order }, refl, refl);
      complete = refused-complete (s.files shelf) (r.left ports.source) _ _ (desk_row names) _ _ _
          reads.order reads.refusal (λ is no_source no_sink serves. inr is);
      limit = refused-limit r ports.source refusal;
      kept = reads.kept;
      source_counted = omega arith;
      sink_counted = omega arith;
    })

has-served-words : {R M W : Type 0} (r : SourceGhosts R) (m : MemoryGhosts M)
    (w : SinkGhosts W) (desk : DeskFields) (opened left : M) (old new : Ports R W)
    (status : Status)
    → HasServed r m w desk opened left old new status → status ≡ Words → ⊥
has-served-words r m w desk opened left old new status served is =
    served-words served.ended (rw served.answer at is)

meets-words : {R M W : Type 0} (r : SourceGhosts R) (m : MemoryGhosts M) (w : SinkGhosts W)
    (values : DeskValues) (old new : Ports R W) (status : Status) (desk : List ℕ)
    (entries : List Entry) (opened left : M)
    → Meets r m w values old new status desk entries opened left → status ≡ Words → ⊥
meets-words r m w values old new status desk entries opened left
    (inl ((inl taken), same, silent)) is =
    cc (taken.answer, is)
meets-words r m w values old new status desk entries opened left
    (inl ((inr (inl gone)), same, silent)) is =
    cc (gone.answer, is)
meets-words r m w values old new status desk entries opened left
    (inl ((inr (inr memory)), same, silent)) is =
    cc (memory, is)
meets-words r m w values old new status desk entries opened left (inr (apart, here, served)) is =
    has-served-words r m w _ opened left old new status served is

serves-words : {F R M W : Type 0} (told : ToldMemories F M) (r : SourceGhosts R)
    (m : MemoryGhosts M) (desk_of : M → List ℕ) (w : SinkGhosts W) (values : DeskValues)
    (memory : Option (List ℕ)) (memories memories_after : F) (old new : Ports R W)
    (status : Status)
    → ServesFrom told r m desk_of w values memory memories memories_after old new status
    → status ≡ Words → ⊥
serves-words told r m desk_of w values None memories memories_after old new status
    (same, (opened, left, served)) is =
    has-served-words r forgets w _ opened left old new status served is
serves-words told r m desk_of w values (Some name) memories memories_after old new status uses is =
    uses-words told m desk_of memories memories_after name status _ _ uses
    (λ desk entries opened left meets.
    meets-words r m w values old new status desk entries opened left meets) is

served-answer : {S F R M W : Type 0} (s : ShelfGhosts S) (told : ToldMemories F M)
    (r : SourceGhosts R) (m : MemoryGhosts M) (desk_of : M → List ℕ) (w : SinkGhosts W)
    (shelf shelf_after : S) (memories memories_after : F) (old new : Ports R W) (names : DeskNames)
    (named : Option DeskNames) (values : DeskValues) (status : Status)
    → Some names ≡ named
    → Reaches (s.files shelf) (desk_row names) (Ok values)
    → KeepsFiles s.files s.faults s.misses shelf shelf_after
    → ServesFrom told r m desk_of w values names.memory memories memories_after old new status
    → r.faults old.source ≤ r.faults new.source
    → w.faults old.sink ≤ w.faults new.sink
    → IsDeskAnswer s told r m desk_of w shelf shelf_after memories memories_after old new named
    status
served-answer s told r m desk_of w shelf shelf_after memories memories_after old new names named
    values status spells reaches keeps serves source_counts sink_counts =
    let no_words = serves-words told r m desk_of w values names.memory memories memories_after
    old new status serves in
    rw (← spells) (record {
      words = (λ is. absurd (no_words is), λ none. absurd (cc none));
      unread = λ is. absurd (no_words is);
      answers = inr (values, reaches, serves);
      complete = told-complete (s.files shelf) (r.left old.source) _ (desk_row names) _ _
          (λ lines is few no_source no_sink may. serves-whole told r m desk_of w values
          names.memory memories memories_after old new status lines serves (may values reaches) is
          few no_source no_sink);
      limit = serves-limit r told m desk_of w values names.memory memories memories_after old new
          status serves;
      kept = keeps;
      source_counted = source_counts;
      sink_counted = sink_counts;
    })

pub returns-in-Ok : goal.returns-in-Ok
returns-in-Ok g c =
    let found = c.in-Ok.values in
    let values : DeskValues = record {
      devices = found.0;
      image = byte_in found.1.0;
      policy = found.1.1;
    } in
    let reads = c.in-Ok.ensures desk_end in
    let served = c.serve_files.ensures in
    served-answer g.S.Shelf g.F.MemoryFiles.told g.R.Source g.M.Memory g.M.EntryMemory.desk_of
    g.W.Sink c.args.shelf.now
    c.read.new.shelf c.args.memories.now c.serve_files.new.memories
    (record { source = c.args.source.now; sink = c.args.sink.now })
    (record { source = c.serve_files.new.source; sink = c.serve_files.new.sink }) _ _ values
    c.serve_files.result c.in-Some.ensures
    (reads.values.reaches (Ok values) (refl {a = Ok values})) reads.kept
    served.served served.source_faults served.sink_faults

pub returns-in-Err : goal.returns-in-Err
returns-in-Err g c =
    rw c.of_refusal.ensures
    (refused-answer g.S.Shelf g.F.MemoryFiles.told g.R.Source g.M.Memory g.M.EntryMemory.desk_of
    g.W.Sink c.args.shelf.now
    c.read.new.shelf c.args.memories.now
    (record { source = c.args.source.now; sink = c.args.sink.now }) _ _ _ c.in-Err.refusal
    c.in-Some.ensures (c.in-Err.ensures desk_end))
