-- A debugger that stands where its session stands.
use Rattle.std.specs.Prelude.{◌≡◌, ℕ, List, Option, Result, Some}
use Rattle.hmac_core.specs.Hash.{Hash}
use Rattle.outside_edge.specs.declared.sink.Sink.{Ghosts as SinkGhosts}
use Rattle.debug_link.specs.{Conversation.{Answer, HaveCome, count_of}, Writing.{Answers, PacketSink}, declared.{answer_fault.AnswerFault.AnswerFault, connection.Connection.Connection}}
use Rattle.debug_session.specs.{Place.{Run, view_of}, Session.{Session, reply}, Sight.View}
use Rattle.debug_walk.specs.{Copies.{TrackStandsFor, played_run}, declared.walk.Walk.Walk}
use Rattle.device_debug.specs.{Going.StandsAt, declared.{debugger.Debugger.Debugger, run_debugger.RunDebugger.RunDebugger}}

-- the run that it goes through
abbrev pub run_at : {D : Type 0} → Hash D → Debugger D → Run
run_at hash debugger = played_run hash debugger.track.run

abbrev pub view_in : {D : Type 0} → Hash D → Debugger D → View
view_in hash debugger = view_of (run_at hash debugger)

pub record DebuggerStandsFor {D : Type 0} (hash : Hash D) (debugger : Debugger D)
    (session : Session) : Type 0 where
  pub halted : Walk D
  pub halted_is : debugger.halted ≡ Some halted
  pub stands : StandsAt hash (run_at hash debugger) session.place halted
  pub track : TrackStandsFor hash debugger.track (run_at hash debugger)
  pub stops : debugger.stops ≡ session.stops
  pub stop : debugger.stop ≡ session.stop

-- a session with the run that it is of, which no answer changes
pub record RunSession : Type 0 where
  pub run : Run
  pub session : Session

abbrev pub in_run : Run → Answer Session → Answer RunSession
in_run run answer =
    record {
      session = record { run = run; session = answer.session };
      packets = answer.packets;
      connection = answer.connection;
    }

abbrev pub run_reply : Option ℕ → RunSession → List ℕ → Answer RunSession
run_reply interrupt now body =
    in_run now.run (reply (view_of now.run) interrupt now.session body)

abbrev pub StandsInRun : {D I : Type 0} → Hash D → RunDebugger D I → RunSession → Type 0
StandsInRun hash it now =
    (run_at hash it.debugger ≡ now.run) × DebuggerStandsFor hash it.debugger now.session

-- wherever a debugger's session stands, this is answered, and the run stays as it is
pub record Gives {D W : Type 0} (hash : Hash D) (w : SinkGhosts W)
    (packets packets_new : PacketSink W) (old new : Debugger D) (answer : Session → Answer Session)
    (result : Result Connection AnswerFault) : Type 0 where
  pub answers : (session : Session)
      → DebuggerStandsFor hash old session
      → Answers (DebuggerStandsFor hash) w packets packets_new new (answer session) result
  pub same_run : new.track.run ≡ old.track.run

-- wherever it stands, this is answered, where an interrupt that has come ends it so, or none does
pub record MayGive {D W : Type 0} (hash : Hash D) (w : SinkGhosts W) (left left_new : Option ℕ)
    (packets packets_new : PacketSink W) (old new : Debugger D)
    (answer : Option ℕ → Session → Answer Session) (result : Result Connection AnswerFault)
    : Type 0 where
  pub answers : (session : Session)
      → DebuggerStandsFor hash old session
      → (interrupt : Option ℕ) × HaveCome (count_of interrupt) left left_new
      × Answers (DebuggerStandsFor hash) w packets packets_new new (answer interrupt session) result
  pub same_run : new.track.run ≡ old.track.run
