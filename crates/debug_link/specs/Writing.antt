-- Packets that are put into a sink.
use Rattle.std.specs.Prelude.{◌≡◌, ◌≤◌, ℕ, List, Result, OnErr, OnOk, IfOk, IfErr}
use Rattle.outside_edge.specs.{Calls.Rose, Sink.{Takes, TakesPrefix}, declared.sink.Sink.Ghosts as SinkGhosts}
use Rattle.debug_link.specs.{Conversation.{Answer, last_packet}, Packet.packets_of, declared.{answer_fault.AnswerFault.{AnswerFault, TheVariants.Write}, connection.Connection.Connection}}

-- A sink behind packets, and the last packet that was put, as its bytes: none at first.
pub record PacketSink (W : Type 0) : Type 0 where
  pub sink : W
  pub last : List ℕ

-- the packets of these bodies were put
pub record HasPut {W : Type 0} (w : SinkGhosts W) (old new : PacketSink W)
    (bodies : List (List ℕ)) : Type 0 where
  pub takes : Takes w.stands old.sink new.sink (packets_of bodies)
  pub last : new.last ≡ last_packet old.last bodies

-- they were, or a prefix of them
pub record PutsPackets {W V E : Type 0} (w : SinkGhosts W) (old new : PacketSink W)
    (bodies : List (List ℕ)) (result : Result V E) : Type 0 where
  pub all : OnOk result (HasPut w old new bodies)
  pub prefix : OnErr result (TakesPrefix w.stands old.sink new.sink (packets_of bodies))

-- a packet's body was answered: the packets were put, and the answerer stands where the answer says
pub record HasAnswered {T Session W : Type 0} (stands : T → Session → Type 0)
    (w : SinkGhosts W) (old new : PacketSink W) (answerer : T) (answer : Answer Session)
    (connection : Connection) : Type 0 where
  pub connection_is : connection ≡ answer.connection
  pub stood : stands answerer answer.session
  pub puts : HasPut w old new answer.packets

-- it was, or a prefix of the packets was put
pub record Answers {T Session W : Type 0} (stands : T → Session → Type 0)
    (w : SinkGhosts W) (old new : PacketSink W) (answerer : T) (answer : Answer Session)
    (result : Result Connection AnswerFault) : Type 0 where
  pub all : IfOk result (HasAnswered stands w old new answerer answer)
  pub prefix : OnErr result (TakesPrefix w.stands old.sink new.sink (packets_of answer.packets))

-- a call that fails to write has counted a fault of the sink
pub record CountsWriteFaults {W V : Type 0} (faults : W → ℕ) (old new : W)
    (result : Result V AnswerFault) : Type 0 where
  pub failed : IfErr result (λ fault. fault ≡ Write → Rose (faults old) (faults new))
  pub counted : faults old ≤ faults new
