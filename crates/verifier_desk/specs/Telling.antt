-- Within a serving: replies that are held back until the memory has settled.
use Rattle.std.specs.Prelude.{◌≡◌, ◌≤◌, ◌++◌, ℕ, false, List, Result, OnOk, IfErr}
use Rattle.outside_edge.specs.declared.sink.Sink.{Ghosts as SinkGhosts}
use Rattle.source_server.specs.{declared.halt.Halt.{Halt, TheVariants.Own}, Lines.LinePromise, Responder.Moment}
use Rattle.desk_memory.specs.declared.memory.Memory.{Ghosts as MemoryGhosts}
use Rattle.verifier_desk.specs.{declared.{answer_fault.AnswerFault.{AnswerFault, TheVariants.Memory}, desk.Desk.Desk, desk_responder.DeskResponder.DeskResponder}, Desk.DeskStandsFor, Noted.entries_after, Replies.{DeskFields, lines_said, replies}, Serving.{HasAnswered, HasPut, Keeps, Outside, StopsAt}, Withheld.{Withheld, nothing_withheld}}

-- whatever came between: the memory is no more honest, and no count has fallen
pub record Grows {M W : Type 0} (m : MemoryGhosts M) (w : SinkGhosts W)
    (old new : Outside M W) : Type 0 where
  pub honest : m.is_honest new.memory → m.is_honest old.memory
  pub memory_rises : m.faults old.memory ≤ m.faults new.memory
  pub sink_rises : w.faults old.sink ≤ w.faults new.sink

-- the replies to these lines were put or are held back, and what they say was noted
pub record Told {M W : Type 0} (m : MemoryGhosts M) (w : SinkGhosts W) (first now : Outside M W)
    (withheld : Withheld) (fields : DeskFields) (lines : List (List ℕ)) : Type 0 where
  pub later : List (List ℕ)
  pub done : List (List ℕ)
  pub parts : lines ≡ later ++ done
  pub has_put : HasPut m w first now fields lines (replies fields done)
  pub held : replies fields lines ≡ replies fields done ++ withheld.replies
  pub has : m.stands now.memory (entries_after fields lines)
  pub settled : withheld.is_noted ≡ false → Keeps m now.memory (entries_after fields lines)
  pub grows : Grows m w first now

-- the sink or the memory failed
abbrev pub FailsAt : {M W : Type 0} → MemoryGhosts M → SinkGhosts W → Outside M W → Outside M W
    → DeskFields → List (List ℕ) → Halt AnswerFault → Type 0
FailsAt m w first now fields lines (Own Memory) = ⊥
FailsAt m w first now fields lines why = StopsAt m w first now fields lines why

-- what was held back of the replies to these lines was put
pub record PutsHeld {M W : Type 0} (m : MemoryGhosts M) (w : SinkGhosts W)
    (first now : Outside M W) (fields : DeskFields) (lines : List (List ℕ))
    (result : Result Unit (Halt AnswerFault)) : Type 0 where
  pub all : OnOk result (Told m w first now nothing_withheld fields lines)
  pub fails : IfErr result (λ why. FailsAt m w first now fields lines why)

-- the replies to these lines were put or are held back, and the desk stands for them
pub record TellsLines {M W : Type 0} (m : MemoryGhosts M) (w : SinkGhosts W)
    (first now : Outside M W) (withheld : Withheld) (fields : DeskFields) (desk : Desk)
    (lines : List (List ℕ)) : Type 0 where
  pub told : Told m w first now withheld fields lines
  pub stands : DeskStandsFor desk fields (lines_said fields lines)

-- whom a desk serves, and how its outside stood at first
pub record DeskStart (M W : Type 0) : Type 0 where
  pub fields : DeskFields
  pub first : Outside M W

abbrev pub outside_at : {M W : Type 0} → Moment (DeskResponder M) W → Outside M W
outside_at now = record { memory = now.responder.memory; sink = now.edge }

-- what a desk promises of lines
abbrev pub lines_promise : {M W : Type 0} → MemoryGhosts M → SinkGhosts W → DeskStart M W
    → LinePromise (Moment (DeskResponder M) W) AnswerFault
lines_promise m w start =
    record {
      told = λ now lines. TellsLines m w start.first (outside_at now) now.responder.withheld
          start.fields now.responder.desk lines;
      answered = λ now lines. HasAnswered m w start.first (outside_at now) start.fields lines;
      stopped = λ now lines why. StopsAt m w start.first (outside_at now) start.fields lines why;
    }
