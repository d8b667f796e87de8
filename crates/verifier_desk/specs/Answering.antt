-- What answering one line does to a desk's memory.
use Rattle.std.specs.Prelude.{◌≡◌, ◌≤◌, ℕ, Bool, true, false, List, Result, Ok, Err, None, IsTrue}
use Rattle.desk_memory.specs.{declared.{memory.Memory.Ghosts, memory_fault.MemoryFault.MemoryFault}, Entry.{Entry, Note, with_note}}
use Rattle.verifier_desk.specs.{declared.{answer_fault.AnswerFault.{AnswerFault, TheVariants.{Memory, Unkept}}, desk.Desk.Desk}, Desk.DeskStandsFor, DeskLine.{DeskLine, DeviceLine}, Noted.{noted_of, with_noted}, Replies.{DeskFields, gives_report, reply_to}, Reply.ReplyFields, Standing.with_said, Serving.HasFailed}

-- whatever the memory does: it is no more honest, and a crash leaves no more than before
pub record OnlyNotes {M : Type 0} (m : Ghosts M) (old new : M) : Type 0 where
  pub honest : m.is_honest new → m.is_honest old
  pub crash : (found : List Entry) → m.may_leave new found → m.may_leave old found
  pub counted : m.faults old ≤ m.faults new

-- the state of a device was noted, if it is new
abbrev pub NotesIf : {M : Type 0} → Ghosts M → M → M → Bool → Note
    → Result Unit MemoryFault → Type 0
NotesIf m old new false note result = (new ≡ old) × (result ≡ Ok tt)
NotesIf m old new true note (Ok done) =
    (entries : List Entry) → m.stands old entries → m.stands new (with_note entries note)
NotesIf m old new true note (Err fault) = HasFailed m old new fault

-- the reply to what a line says, and what was noted of it; or why it was not answered
abbrev pub Answers : {M : Type 0} → Ghosts M → M → M → Desk → DeskFields
    → (List ℕ → List DeviceLine) → DeskLine → Result ReplyFields AnswerFault → Type 0
Answers m old new desk fields lines said (Ok reply) =
    (reply.text ≡ reply_to fields lines said)
    × DeskStandsFor desk fields (with_said said lines)
    × ((entries : List Entry) → m.stands old entries
    → m.stands new (with_noted (noted_of fields lines said) entries))
    × (reply.is_noted ≡ false → (new ≡ old) × (noted_of fields lines said ≡ None))
Answers m old new desk fields lines said (Err Memory) =
    (new ≡ old) × IsTrue (gives_report fields lines said)
Answers m old new desk fields lines said (Err (Unkept fault)) = HasFailed m old new fault
