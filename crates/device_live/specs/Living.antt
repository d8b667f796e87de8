-- A device that lives as the code has it, and what a call answers of a line.
use Rattle.std.specs.{Prelude.{◌≡◌, ◌≤◌, ◌-◌, ◌++◌, ℕ, List, Some, Result, Ok, Err}, declared.alloc.AllocError.AllocError}
use Rattle.device_types.specs.{Address.Bytes, declared.event.Event.Event, TraceFlag.Flag}
use Rattle.hmac_core.specs.Hash.{Hash}
use Rattle.outside_edge.specs.{Calls.Rose, Sink.{Takes, TakesPrefix}, declared.sink.Sink.Ghosts as SinkGhosts}
use Rattle.play_script.specs.Script.{events_in as events_said, TimedEvent, events_of}
use Rattle.text_scan.specs.{declared.{fault_kind.FaultKind.FaultKind, word_fault.WordFault.WordFault}}
use Rattle.text_scan.specs.declared.word_fault.WordFault.TheVariants as words
use Rattle.source_server.specs.{declared.halt.Halt.{Halt, TheVariants.{Write, Own}}}
use Rattle.device_trace.specs.Start.{Start}
use Rattle.device_core.specs.{Device.LiveStandsFor, declared.live.Live.Live}
use Rattle.device_live.specs.{declared.{line_fault.LineFault.LineFault, live_line.LiveLine.LiveLine as ReadLine, living.Living.Living}, Answer.{Answer, or_refusal}, Life.{Life, events_in, lines_since, play_lived, with_happening}, LiveLine.{LiveLine, Happens, Run, Registers, Memory, MOST_SHOWN, MOST_STEPS}}
use Rattle.device_live.specs.declared.line_fault.LineFault.TheVariants as fault
use Rattle.device_live.specs.declared.live_line.LiveLine.TheVariants as read

-- what was read of a line says this
abbrev pub line_in : ReadLine → LiveLine
line_in (read.Happens step happening) = Happens step (events_said happening)
line_in (read.Run steps) = Run steps
line_in read.Registers = Registers
line_in (read.Memory place count) = Memory place count

-- it asks for no more steps and bytes than there may be
abbrev pub IsWithin : ReadLine → Type 0
IsWithin (read.Happens step happening) = Unit {0}
IsWithin (read.Run steps) = steps ≤ MOST_STEPS
IsWithin read.Registers = Unit {0}
IsWithin (read.Memory place count) = count ≤ MOST_SHOWN

-- what is kept of the events are those of the steps to come
abbrev pub KeepsToCome : List TimedEvent → Life → Type 0
KeepsToCome kept life =
    (step : ℕ) → life.steps ≤ step → events_of kept step ≡ events_in life step

-- it has come to the play of its life, and keeps what is still to come
pub record LivingStandsFor {D G : Type 0} (hash : Hash D) (flag : Flag G) (living : Living D G)
    (start : Start) (life : Life) : Type 0 where
  pub live : Live D G
  pub there : living.live ≡ Some live
  pub stands : LiveStandsFor hash flag live start (play_lived life)
  pub to_come : KeepsToCome living.to_come.events life
  pub latest : living.latest ≡ life.script.greatest
  pub greatest : living.to_come.greatest ≡ life.script.greatest

-- what came of the playing of a life on to so many steps: their lines were put
abbrev pub PlaysOn : {D G S E : Type 0} → Hash D → Flag G → (S → Bytes → Type 0) → S → S
    → Start → Life → ℕ → Result (Live D G) E → Type 0
PlaysOn hash flag stands old new start life steps (Ok live) =
    LiveStandsFor hash flag live start (play_lived (record life { steps = steps }))
    × Takes stands old new (lines_since start (events_in life) life.steps (steps - life.steps))
PlaysOn hash flag stands old new start life steps (Err error) =
    TakesPrefix stands old new (lines_since start (events_in life) life.steps (steps - life.steps))

-- what came of a device that goes on to so many steps: it lives on from there
abbrev pub LivesOn : {D G S E : Type 0} → Hash D → Flag G → (S → Bytes → Type 0) → S → S
    → Living D G → Start → Life → ℕ → Result Unit E → Type 0
LivesOn hash flag stands old new living start life steps (Ok tt) =
    LivingStandsFor hash flag living start (record life { steps = steps })
    × Takes stands old new (lines_since start (events_in life) life.steps (steps - life.steps))
LivesOn hash flag stands old new living start life steps (Err error) =
    TakesPrefix stands old new (lines_since start (events_in life) life.steps (steps - life.steps))

-- what came of a happening: it was taken, or it has this fault, and nothing has changed
abbrev pub TakesHappening : {D G : Type 0} → Hash D → Flag G → Living D G → Start → Life → ℕ
    → List Event → Result Unit WordFault → Type 0
TakesHappening hash flag living start life step events (Ok tt) =
    (later : Life) × (with_happening life step events ≡ Ok later)
    × LivingStandsFor hash flag living start later
TakesHappening hash flag living start life step events (Err (words.Kind kind)) =
    (with_happening life step events ≡ Err kind) × LivingStandsFor hash flag living start life
TakesHappening hash flag living start life step events (Err (words.Memory error)) = Unit {0}

-- What came of a line that is answered so: the answer was put, and the device lives on; it has this
-- fault, and nothing has changed; a prefix of the answer was put, and the sink has failed; or there
-- was no memory, and nothing was put.
abbrev pub AnswersSo : {D G S : Type 0} → Hash D → Flag G → SinkGhosts S → S → S
    → Living D G → Start → Life → Result Unit LineFault → Result Answer FaultKind → Type 0
AnswersSo hash flag w old new living start life (Ok tt) (Ok answer) =
    LivingStandsFor hash flag living start answer.life
    × Takes w.stands old new (answer.told ++ answer.line)
AnswersSo hash flag w old new living start life (Ok tt) (Err kind) = ⊥
AnswersSo hash flag w old new living start life (Err (fault.Kind other)) (Ok answer) = ⊥
AnswersSo hash flag w old new living start life (Err (fault.Kind other)) (Err kind) =
    (other ≡ kind) × LivingStandsFor hash flag living start life × (new ≡ old)
AnswersSo hash flag w old new living start life (Err (fault.Write failed)) (Ok answer) =
    TakesPrefix w.stands old new (answer.told ++ answer.line)
    × Rose (w.faults old) (w.faults new)
AnswersSo hash flag w old new living start life (Err (fault.Write failed)) (Err kind) = ⊥
AnswersSo hash flag w old new living start life (Err (fault.Memory error)) said = new ≡ old

-- and of one with a number, whose fault is told
abbrev pub AnswersNumbered : {D G S : Type 0} → Hash D → Flag G → SinkGhosts S → S → S
    → Living D G → Start → Life → Result Answer FaultKind → Result Unit (Halt AllocError) → Type 0
AnswersNumbered hash flag w old new living start life answer (Ok tt) =
    let said : Answer = or_refusal life living.lines answer in
    LivingStandsFor hash flag living start said.life
    × Takes w.stands old new (said.told ++ said.line)
AnswersNumbered hash flag w old new living start life answer (Err Write) =
    let said : Answer = or_refusal life living.lines answer in
    TakesPrefix w.stands old new (said.told ++ said.line) × Rose (w.faults old) (w.faults new)
AnswersNumbered hash flag w old new living start life answer (Err (Own error)) = new ≡ old
