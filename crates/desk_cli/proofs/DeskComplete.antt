-- Where nothing failed or hindered its memory, a desk answers all lines, or memory runs out.
use Rattle.std.{proofs.{Common.{◌≡◌, ◌<◌, ◌+◌, ◌⊎◌, ℕ, List, [], ◌∷◌, length, Option, Some, None, IfSome, refl, ap, ◌∙◌, inl, inr, subst, arith}, lemmas.{Option.same_Some, Bool.cases_Bool}}, specs.Option.is_some}
use Rattle.sha2.specs.Sha256.{sha256}
use Rattle.outside_edge.{specs.{Calls.Rose, declared.{sink.Sink.Ghosts as SinkGhosts, source.Source.Ghosts as SourceGhosts}}, proofs.Counts.never_rises}
use Rattle.desk_memory.specs.{declared.{memory.Memory.Ghosts as MemoryGhosts, memory_fault.MemoryFault.MemoryFault, no_memory.NoMemory.NoMemory}, Entry.{Entry, home_of, last_in}, NoMemory.forgets}
use Rattle.source_server.{specs.{declared.halt.Halt.Halt, Serving.{served_of, Ports}, Taken.most_input}, proofs.ServedEnds.whole_or_stopped}
use Rattle.source_server.specs.declared.halt.Halt.TheVariants as halt
use Rattle.verifier_desk.specs.{declared.answer_fault.AnswerFault.AnswerFault, DeviceKey.{DeviceKey, first_gone}, KeyOwner.KeysStandApart, Replies.DeskFields, Serving.{HasFailed, Outside, desk_promise}}
use Rattle.verifier_desk.specs.declared.answer_fault.AnswerFault.TheVariants as fault
use Rattle.input_files.specs.{declared.status.Status.{Status, TheVariants.{Done, Memory}}}
use Rattle.desk_cli.specs.{Desk.{DeskValues, HasServed, IsTaken, MayServe, Meets, ServesFrom}, MemoryFiles.ToldMemories, Status.{status_of_served, status_of_unkept, status_of_unopened}}

-- all lines were answered, or memory ran out
abbrev pub IsWhole : Status → Type 0
IsWhole status = (status ≡ Done) ⊎ (status ≡ Memory)

-- the memory failed after it was opened
abbrev FailsLater : {M : Type 0} → MemoryGhosts M → M → M → Status → Type 0
FailsLater m opened left status =
    (fault : MemoryFault) × (status ≡ status_of_unkept fault) × HasFailed m opened left fault

stopped-whole : {M W : Type 0} (m : MemoryGhosts M) (w : SinkGhosts W) (desk : DeskFields)
    (first now : Outside M W) (before last : List ℕ) (why : Halt AnswerFault)
    → (desk_promise m w desk first).stopped now before last why
    → ¬ Rose (w.faults first.sink) (w.faults now.sink)
    → (status_of_served (served_of why) ≡ Done) ⊎ (status_of_served (served_of why) ≡ Memory)
    ⊎ FailsLater m first.memory now.memory (status_of_served (served_of why))
stopped-whole m w desk first now before last halt.Write (inl so) no_sink =
    absurd (no_sink so.stopped.0)
stopped-whole m w desk first now before last halt.Write (inr so) no_sink = absurd (cc so.0)
stopped-whole m w desk first now before last (halt.Own fault.Memory) so no_sink = inr (inl refl)
stopped-whole m w desk first now before last (halt.Own (fault.Unkept unkept)) (inl so) no_sink =
    inr (inr (unkept, refl, so.stopped.0))
stopped-whole m w desk first now before last (halt.Own (fault.Unkept unkept)) (inr so) no_sink =
    absurd (cc so.0)

served-whole : {R M W : Type 0} (r : SourceGhosts R) (m : MemoryGhosts M) (w : SinkGhosts W)
    (desk : DeskFields) (opened left : M) (old new : Ports R W) (status : Status)
    (lines : List ℕ)
    → HasServed r m w desk opened left old new status
    → r.left old.source ≡ Some lines
    → length lines < most_input
    → ¬ Rose (r.faults old.source) (r.faults new.source)
    → ¬ Rose (w.faults old.sink) (w.faults new.sink)
    → (status ≡ Done) ⊎ (status ≡ Memory) ⊎ FailsLater m opened left status
served-whole {M = M} {W = W} r m w desk opened left old new status lines has is few no_source
    no_sink =
    let first : Outside M W = record { memory = opened; sink = old.sink } in
    let now : Outside M W = record { memory = left; sink = new.sink } in
    rw has.answer (elim (whole_or_stopped r (desk_promise m w desk first) old.source new.source now
    lines has.ended has.serves is few no_source) [
      | inl done ↦ rw done (inl refl)
      | inr (why, is, (before, last, so)) ↦
          rw is (stopped-whole m w desk first now before last why so no_sink)
    ])

-- a memory that keeps nothing does not fail
never-fails : (opened left : NoMemory) (status : Status)
    → FailsLater forgets opened left status → ⊥
never-fails opened left status (fault, is, (inl lacks)) = lacks.1
never-fails opened left status (fault, is, (inr rose)) = never_rises rose

whole-alone : (opened left : NoMemory) (status : Status)
    → (status ≡ Done) ⊎ (status ≡ Memory) ⊎ FailsLater forgets opened left status
    → IsWhole status
whole-alone opened left status (inl done) = inl done
whole-alone opened left status (inr (inl memory)) = inr memory
whole-alone opened left status (inr (inr fails)) =
    absurd (never-fails opened left status fails)

-- a count that rose did so from 0 on
from-none : (before after : ℕ) → Rose before after → Rose 0 after
from-none before after (inl more) = inl (omega (arith, more))
from-none before after (inr end) = inr end

whole-over : {M : Type 0} (m : MemoryGhosts M) (opened left : M) (status : Status)
    → ¬ Rose 0 (m.faults left)
    → (status ≡ Done) ⊎ (status ≡ Memory) ⊎ FailsLater m opened left status
    → IsWhole status
whole-over m opened left status none (inl done) = inl done
whole-over m opened left status none (inr (inl memory)) = inr memory
whole-over m opened left status none (inr (inr (fault, is, (inl lacks)))) =
    inr (rw (is, lacks.0) refl)
whole-over m opened left status none (inr (inr (fault, is, (inr rose)))) =
    absurd (none (from-none (m.faults opened) (m.faults left) rose))

-- no key is taken where all stand apart
none-taken : (devices : List DeviceKey) (entries : List Entry) (status : Status)
    → KeysStandApart sha256 devices entries → IsTaken devices entries status → ⊥
none-taken devices entries status apart taken =
    taken.first.2 (apart taken.place taken.first.0)

-- a device that is gone is one of them
gone-within : (entries : List Entry) (place : ℕ) (devices : List DeviceKey) (found : ℕ)
    → first_gone entries place devices ≡ Some found → found < place + length devices
gone-within entries place [] found is = absurd (cc is)
gone-within entries place (device ∷ devices) found is =
    elim (cases_Bool (is_some (home_of (last_in entries device.name)).gone)) [
      | inl gone ↦ let same : place ≡ found = same_Some place found (rw gone at is) in
          omega (arith, same)
      | inr here ↦
          let deeper = gone-within entries (place + 1) devices found (rw here at is) in
          omega (arith, deeper)
    ]

-- a place that was found
pub found-as : (told first found : Option ℕ) → told ≡ first → told ≡ found → first ≡ found
found-as told first found one two = cc (one, two)

pub gone-below : (entries : List Entry) (devices : List DeviceKey) (place : ℕ)
    → first_gone entries 0 devices ≡ Some place → place < length devices
gone-below entries devices place is =
    let within = gone-within entries 0 devices place is in omega (arith, within)

none-gone : (place : ℕ) (first : Option ℕ) → first ≡ None → first ≡ Some place → ⊥
none-gone place first none is = cc (none, is)

meets-whole : {R M W : Type 0} (r : SourceGhosts R) (m : MemoryGhosts M) (w : SinkGhosts W)
    (values : DeskValues) (old new : Ports R W) (status : Status) (desk : List ℕ)
    (entries : List Entry) (opened left : M) (lines : List ℕ)
    → Meets r m w values old new status desk entries opened left
    → m.is_honest left
    → (m.is_honest opened → KeysStandApart sha256 values.devices entries
    × (first_gone entries 0 values.devices ≡ None))
    → ¬ Rose 0 (m.faults left)
    → r.left old.source ≡ Some lines
    → length lines < most_input
    → ¬ Rose (r.faults old.source) (r.faults new.source)
    → ¬ Rose (w.faults old.sink) (w.faults new.sink)
    → IsWhole status
meets-whole r m w values old new status desk entries opened left lines
    (inl ((inl taken), same, silent)) honest apart sound is few no_source no_sink =
    absurd (none-taken values.devices entries status (apart (subst m.is_honest same honest)).0
    taken)
meets-whole r m w values old new status desk entries opened left lines
    (inl ((inr (inl gone)), same, silent)) honest apart sound is few no_source no_sink =
    absurd (none-gone gone.place (first_gone entries 0 values.devices)
    (apart (subst m.is_honest same honest)).1 gone.first)
meets-whole r m w values old new status desk entries opened left lines
    (inl ((inr (inr memory)), same, silent)) honest apart sound is few no_source no_sink =
    inr memory
meets-whole r m w values old new status desk entries opened left lines
    (inr (stand, here, served)) honest apart sound is few no_source no_sink =
    whole-over m opened left status sound (served-whole r m w _ opened left old new status lines
    served is few no_source no_sink)

pub serves-whole : {F R M W : Type 0} (told : ToldMemories F M) (r : SourceGhosts R)
    (m : MemoryGhosts M) (desk_of : M → List ℕ) (w : SinkGhosts W) (values : DeskValues)
    (memory : Option (List ℕ))
    (memories memories_after : F) (old new : Ports R W) (status : Status) (lines : List ℕ)
    → ServesFrom told r m desk_of w values memory memories memories_after old new status
    → MayServe told m values.devices memory memories memories_after
    → r.left old.source ≡ Some lines
    → length lines < most_input
    → ¬ Rose (r.faults old.source) (r.faults new.source)
    → ¬ Rose (w.faults old.sink) (w.faults new.sink)
    → IsWhole status
serves-whole told r m desk_of w values None memories memories_after old new status lines
    (same, (opened, left, served)) may is few no_source no_sink =
    whole-alone opened left status (served-whole r forgets w _ opened left old new status lines
    served is few no_source no_sink)
serves-whole told r m desk_of w values (Some name) memories memories_after old new status lines
    (inl (lacks, same)) may is few no_source no_sink =
    inr (lacks.answer ∙ ap status_of_unopened (may.0.free lacks.fault lacks.unopened.cause))
serves-whole told r m desk_of w values (Some name) memories memories_after old new status lines
    (inr opens) may is few no_source no_sink =
    let kept = subst (λ left. IfSome left (λ left. m.is_honest left × ¬ Rose 0 (m.faults left)))
    opens.closed may.0.kept in
    meets-whole r m w values old new status (desk_of opens.opened) opens.entries opens.opened
    opens.left lines opens.does kept.0
    (λ honest. may.1 (desk_of opens.opened) opens.entries (opens.found.found honest)) kept.1 is few
    no_source no_sink
