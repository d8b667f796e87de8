-- What a desk that serves a source puts into a sink, and what a crash leaves of its memory.
use Rattle.std.specs.Prelude.{◌≡◌, ◌⊎◌, ◌++◌, ℕ, List, [], ◌∷◌, IsTrue}
use Rattle.outside_edge.specs.{Calls.Rose, Sink.Takes, declared.sink.Sink.Ghosts as SinkGhosts}
use Rattle.source_server.specs.{declared.halt.Halt.{Halt, TheVariants.{Write, Own}}, LineCut.{all_lines, whole_lines}, Lines.StopsAmong, Responder.Promise}
use Rattle.desk_memory.specs.{declared.{memory.Memory.Ghosts as MemoryGhosts, memory_fault.MemoryFault.MemoryFault}, Entry.Entry, Kept.IsKept}
use Rattle.desk_memory.specs.declared.memory_fault.MemoryFault.TheVariants as refused
use Rattle.verifier_desk.specs.{declared.answer_fault.AnswerFault.{AnswerFault, TheVariants.{Memory, Unkept}}, DeskLine.desk_line_of, Noted.entries_after, Replies.{DeskFields, gives_report, lines_said, replies}}

-- a memory has these entries, whatever crash leaves them and no others, and its file alone has them
pub record Keeps {M : Type 0} (m : MemoryGhosts M) (now : M) (entries : List Entry)
    : Type 0 where
  pub has : m.stands now entries
  pub keeps : m.is_honest now → IsKept m.may_leave now entries
  pub whole : m.is_honest now → m.is_whole now

-- a call of the memory has failed, or was refused memory
abbrev pub HasFailed : {M : Type 0} → MemoryGhosts M → M → M → MemoryFault → Type 0
HasFailed m old new fault =
    ((fault ≡ refused.Memory) × m.lacks) ⊎ Rose (m.faults old) (m.faults new)

-- the outside of a desk: its memory, and where its replies go
pub record Outside (M W : Type 0) : Type 0 where
  pub memory : M
  pub sink : W

-- entries that are those after a beginning of these lines, the replies to which begin with this
-- text: so after it comes every line that had a reply, in whole or in part
pub record IsBeginning (fields : DeskFields) (lines : List (List ℕ)) (text : List ℕ)
    (found : List Entry) : Type 0 where
  pub later : List (List ℕ)
  pub kept : List (List ℕ)
  pub parts : lines ≡ later ++ kept
  pub entries : found ≡ entries_after fields kept
  pub more : List ℕ
  pub answered : replies fields kept ≡ text ++ more

-- this text was put of the replies to these lines, and no crash takes back what it says
pub record HasPut {M W : Type 0} (m : MemoryGhosts M) (w : SinkGhosts W)
    (first now : Outside M W) (fields : DeskFields) (lines : List (List ℕ)) (text : List ℕ)
    : Type 0 where
  pub put : Takes w.stands first.sink now.sink text
  pub answered : m.is_honest now.memory → (found : List Entry) → m.may_leave now.memory found
      → IsBeginning fields lines text found

-- the replies to all these lines were put, and the memory keeps what they say
pub record HasAnswered {M W : Type 0} (m : MemoryGhosts M) (w : SinkGhosts W)
    (first now : Outside M W) (fields : DeskFields) (lines : List (List ℕ)) : Type 0 where
  pub put : Takes w.stands first.sink now.sink (replies fields lines)
  pub keeps : Keeps m now.memory (entries_after fields lines)

-- It stopped at the newest of these lines: the sink failed, the memory's file is whole, and the
-- replies begin with what was put; the memory failed, and the replies to a beginning of the lines
-- were put, none in part; or there was no memory for that line, which gives a report, and those
-- before it were answered.
abbrev pub StopsAt : {M W : Type 0} → MemoryGhosts M → SinkGhosts W → Outside M W → Outside M W
    → DeskFields → List (List ℕ) → Halt AnswerFault → Type 0
StopsAt m w first now fields lines Write =
    Rose (w.faults first.sink) (w.faults now.sink)
    × (m.is_honest now.memory → m.is_whole now.memory)
    × ((text : List ℕ) × (more : List ℕ) × (replies fields lines ≡ text ++ more)
    × HasPut m w first now fields lines text)
StopsAt m w first now fields lines (Own (Unkept fault)) =
    HasFailed m first.memory now.memory fault
    × ((later : List (List ℕ)) × (done : List (List ℕ)) × (lines ≡ later ++ done)
    × HasPut m w first now fields lines (replies fields done))
StopsAt m w first now fields [] (Own Memory) = ⊥
StopsAt m w first now fields (line ∷ earlier) (Own Memory) =
    IsTrue (gives_report fields (lines_said fields earlier) (desk_line_of fields.devices line))
    × HasAnswered m w first now fields earlier

-- What a desk's outside is, behind bytes that a source gave: all lines that are whole were
-- answered, at the end all lines; or it stopped at one of them, or had no memory to begin with.
abbrev pub desk_promise : {M W : Type 0} → MemoryGhosts M → SinkGhosts W → DeskFields
    → Outside M W → Promise (Outside M W) AnswerFault
desk_promise m w fields first =
    record {
      answered = λ now bytes. HasAnswered m w first now fields (whole_lines bytes);
      ended = λ now bytes. HasAnswered m w first now fields (all_lines bytes);
      stopped = λ now before last why.
          StopsAmong (λ lines. StopsAt m w first now fields lines why) (all_lines (before ++ last))
          (whole_lines before)
          ⊎ ((why ≡ Own Memory) × (before ++ last ≡ []) × HasAnswered m w first now fields []);
    }
