-- No part of a run answers that the words are no command.
use Rattle.std.proofs.Common.{◌≡◌, ℕ, List, Option, Some, None, inl, inr}
use Rattle.desk_memory.specs.{declared.{memory.Memory.Ghosts as MemoryGhosts, memory_fault.MemoryFault.MemoryFault}, Entry.Entry}
use Rattle.desk_memory.specs.declared.memory_fault.MemoryFault.TheVariants as kept
use Rattle.desk_database.specs.declared.memory_file_fault.MemoryFileFault.{MemoryFileFault}
use Rattle.desk_database.specs.declared.memory_file_fault.MemoryFileFault.TheVariants as opened
use Rattle.source_server.specs.declared.served.Served.{Served}
use Rattle.source_server.specs.declared.served.Served.TheVariants as served
use Rattle.verifier_desk.specs.declared.answer_fault.AnswerFault.{AnswerFault}
use Rattle.verifier_desk.specs.declared.answer_fault.AnswerFault.TheVariants as fault
use Rattle.outside_edge.specs.declared.sink.Sink.{Ghosts as SinkGhosts}
use Rattle.input_files.specs.{declared.status.Status.{Status, TheVariants.Words}}
use Rattle.desk_cli.specs.{MemoryFiles.{LacksMemory, Opening, Request, ToldMemories, UsesIf}, Noting.{NotesAll, status_of_noted}, States.PutsText, Status.{status_of_served, status_of_unkept, status_of_unopened}}

pub unopened-words : (fault : MemoryFileFault) → status_of_unopened fault ≡ Words → ⊥
unopened-words opened.Missing is = cc is
unopened-words opened.Place is = cc is
unopened-words opened.InUse is = cc is
unopened-words opened.HotJournal is = cc is
unopened-words opened.Unfounded is = cc is
unopened-words opened.Founded is = cc is
unopened-words opened.OtherLog is = cc is
unopened-words opened.Foreign is = cc is
unopened-words opened.Disk is = cc is
unopened-words opened.Full is = cc is
unopened-words opened.OutOfMemory is = cc is

pub unkept-words : (fault : MemoryFault) → status_of_unkept fault ≡ Words → ⊥
unkept-words kept.Memory is = cc is
unkept-words kept.Failed is = cc is

pub served-words : (ended : Served AnswerFault) → status_of_served ended ≡ Words → ⊥
served-words served.Done is = cc is
served-words served.Spent is = cc is
served-words served.ReadFault is = cc is
served-words served.WriteFault is = cc is
served-words (served.Own fault.Memory) is = cc is
served-words (served.Own (fault.Unkept unkept)) is = unkept-words unkept is

noted-words : (result : Option MemoryFault) → status_of_noted result ≡ Words → ⊥
noted-words None is = cc is
noted-words (Some fault) is = unkept-words fault is

pub notes-words : {M : Type 0} (m : MemoryGhosts M) (opened left : M) (all : List Entry)
    (status : Status)
    → NotesAll m opened left all status → status ≡ Words → ⊥
notes-words m opened left all status notes is =
    noted-words notes.result (rw notes.answer at is)

pub puts-words : {W : Type 0} (w : SinkGhosts W) (old new : W) (text : List ℕ) (status : Status)
    → PutsText w old new text status → status ≡ Words → ⊥
puts-words w old new text status (inl done) is = cc (done.0, is)
puts-words w old new text status (inr cut) is = cc (cut.0, is)

pub lacks-words : {F M : Type 0} (told : ToldMemories F M) (asked : Request)
    (memories memories_after : F) (name : List ℕ) (status : Status)
    → LacksMemory told asked memories memories_after name status → status ≡ Words → ⊥
lacks-words told asked memories memories_after name status lacks is =
    unopened-words lacks.fault (rw lacks.answer at is)

pub uses-words : {F M : Type 0} (told : ToldMemories F M) (m : MemoryGhosts M)
    (desk_of : M → List ℕ) (memories memories_after : F) (name : List ℕ) (status : Status)
    (Nothing : Type 0) (Does : List ℕ → List Entry → M → M → Type 0)
    → UsesIf told m desk_of memories memories_after name status Nothing Does
    → ((desk : List ℕ) (entries : List Entry) (opened left : M)
    → Does desk entries opened left → status ≡ Words → ⊥)
    → status ≡ Words → ⊥
uses-words told m desk_of memories memories_after name status Nothing Does (inl lacks) does =
    lacks-words told Opening memories memories_after name status lacks.0
uses-words told m desk_of memories memories_after name status Nothing Does (inr uses) does =
    does _ uses.entries uses.opened uses.left uses.does
