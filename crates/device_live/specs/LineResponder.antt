-- What a device that lives promises of lines, behind a buffer in front of a sink.
use Rattle.std.specs.{Prelude.{◌≡◌, ◌≤◌, ℕ, List, [], ◌∷◌, length}, declared.alloc.AllocError.AllocError}
use Rattle.device_types.specs.TraceFlag.{Flag}
use Rattle.hmac_core.specs.Hash.{Hash}
use Rattle.outside_edge.specs.{Buffer.{Buffer, BufferStandsFor}, Calls.Rose, Sink.{Takes, TakesPrefix}, declared.sink.Sink.Ghosts as SinkGhosts}
use Rattle.source_server.specs.{Lines.LinePromise, Responder.Moment, Taken.most_input, declared.halt.Halt.{Halt, TheVariants.{Write, Own}}}
use Rattle.device_trace.specs.Start.{Start}
use Rattle.device_live.specs.{declared.living.Living.Living, Conversation.talk_of, Living.LivingStandsFor}

-- what it is powered on with, and the buffer before its first answer
pub record LiveStart (W : Type 0) : Type 0 where
  pub start : Start
  pub first : Buffer W

-- a buffer as a sink
abbrev pub buffer_sink : {W : Type 0} → SinkGhosts W → SinkGhosts (Buffer W)
buffer_sink w =
    record { stands = BufferStandsFor w.stands; faults = λ buffer. w.faults buffer.sink }

-- no more than an input has bytes
abbrev pub AreFew : List (List ℕ) → Type 0
AreFew lines = length lines ≤ most_input

-- it is where its lines have led it, and what is due to them went into the buffer
pub record HasTold {D G W : Type 0} (hash : Hash D) (flag : Flag G) (w : SinkGhosts W)
    (at : LiveStart W) (now : Moment (Living D G) (Buffer W)) (lines : List (List ℕ))
    : Type 0 where
  pub stands : LivingStandsFor hash flag now.responder at.start (talk_of at.start lines).life
  pub number : now.responder.lines ≡ length lines
  pub put : Takes (BufferStandsFor w.stands) at.first now.edge (talk_of at.start lines).text
  pub rises : w.faults at.first.sink ≤ w.faults now.edge.sink

-- it stopped at the newest line: the sink failed within its answer, or there was no memory for it,
-- and what is due to those before it went into the buffer
abbrev pub StopsTold : {D G W : Type 0} → SinkGhosts W → LiveStart W
    → Moment (Living D G) (Buffer W) → List (List ℕ) → Halt AllocError → Type 0
StopsTold w at now lines Write =
    TakesPrefix (BufferStandsFor w.stands) at.first now.edge (talk_of at.start lines).text
    × Rose (w.faults at.first.sink) (w.faults now.edge.sink)
StopsTold w at now [] (Own error) = ⊥
StopsTold w at now (line ∷ earlier) (Own error) =
    Takes (BufferStandsFor w.stands) at.first now.edge (talk_of at.start earlier).text

-- its count of lines holds those of an input
abbrev pub live_promise : {D G W : Type 0} → Hash D → Flag G → SinkGhosts W → LiveStart W
    → LinePromise (Moment (Living D G) (Buffer W)) AllocError
live_promise hash flag w at =
    record {
      told = λ now lines. AreFew lines → HasTold hash flag w at now lines;
      answered = λ now lines. AreFew lines
          → HasTold hash flag w at now lines × (now.edge.waiting ≡ []);
      stopped = λ now lines why. AreFew lines → StopsTold w at now lines why;
    }
