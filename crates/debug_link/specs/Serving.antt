-- What is put into a sink of the bytes that a source gives, and why it ends.
use Rattle.std.specs.Prelude.{◌≡◌, ◌≤◌, ◌++◌, ℕ, false, List, Option, Result, Ok, Err, OnErr, IfOk, IsTrue}
use Rattle.outside_edge.specs.{Calls.Rose, Sink.{Takes, TakesPrefix}, declared.sink.Sink.Ghosts as SinkGhosts}
use Rattle.source_server.specs.{declared.halt.Halt.{Halt, TheVariants.{Write, Own}}, Responder.{Moment, Promise}}
use Rattle.debug_link.specs.{Conversation.{Answer, HaveCome, MayCome, OfSomeTalk, Talk, is_closed}, Reading.ReaderStandsFor, Writing.PacketSink, declared.{answer_fault.AnswerFault.AnswerFault, connection.Connection.Connection, packet_reader.PacketReader.PacketReader, packet_responder.PacketResponder.PacketResponder, talk_end.TalkEnd.{TalkEnd, TheVariants.{Closed, Memory}}}}
use Rattle.debug_link.specs.declared.answer_fault.AnswerFault.TheVariants as fault
use Rattle.debug_link.specs.declared.connection.Connection.TheVariants as connection

-- a conversation was put, and is not over
abbrev pub PutsTalk : {W Session : Type 0} → SinkGhosts W → W → W → Talk Session → Type 0
PutsTalk w old new talk = Takes w.stands old new talk.put × (talk.is_over ≡ false)

-- the debugger has ended it, and it was put; or the sink failed or memory ran out, and a prefix of
-- it was put
abbrev pub StopsTalk : {W Session : Type 0} → SinkGhosts W → W → W → Talk Session
    → Halt TalkEnd → Type 0
StopsTalk w old new talk (Own Closed) =
    Takes w.stands old new talk.put × IsTrue talk.is_over
StopsTalk w old new talk (Own Memory) = TakesPrefix w.stands old new talk.put
StopsTalk w old new talk Write =
    TakesPrefix w.stands old new talk.put × Rose (w.faults old) (w.faults new)

-- where a session and the sink stood at first, and how many interrupts come yet, if that is told
pub record TalkStart (Session W : Type 0) : Type 0 where
  pub session : Session
  pub sink : W
  pub left : Option ℕ

-- What a sink has taken, behind bytes that a source gave: their conversation, from where the
-- answerer's session stood, with no more interrupts than come.
abbrev pub talk_promise : {W Session Interrupt : Type 0} → SinkGhosts W
    → (Option Interrupt → Session → List ℕ → Answer Session) → TalkStart Session W
    → Promise W TalkEnd
talk_promise w reply start =
    record {
      answered = λ now bytes.
          OfSomeTalk reply start.session (MayCome start.left) bytes (PutsTalk w start.sink now);
      ended = λ now bytes.
          OfSomeTalk reply start.session (MayCome start.left) bytes (PutsTalk w start.sink now);
      stopped = λ now before last why.
          OfSomeTalk reply start.session (MayCome start.left) (before ++ last)
          (λ talk. StopsTalk w start.sink now talk why);
    }

-- within a serving, who takes part: the reader of packets, the answerer, and the packets' sink
pub record Parties (T W : Type 0) : Type 0 where
  pub reader : PacketReader
  pub answerer : T
  pub packets : PacketSink W

-- they stand for a conversation so far, which was put since the sink stood so
pub record TalkStandsFor {T Session W : Type 0} (stands : T → Session → Type 0)
    (w : SinkGhosts W) (first : W) (parties : Parties T W) (talk : Talk Session) : Type 0 where
  pub reads : ReaderStandsFor parties.reader talk.link
  pub session : stands parties.answerer talk.session
  pub last : parties.packets.last ≡ talk.last
  pub put : Takes w.stands first parties.packets.sink talk.put

-- they go on to this conversation, or a prefix of it was put
pub record GoesOnTo {T Session W : Type 0} (stands : T → Session → Type 0) (w : SinkGhosts W)
    (first : W) (parties : Parties T W) (talk : Talk Session)
    (result : Result Connection AnswerFault) : Type 0 where
  pub all : IfOk result (λ connection.
      (is_closed connection ≡ talk.is_over) × TalkStandsFor stands w first parties talk)
  pub prefix : OnErr result (TakesPrefix w.stands first parties.packets.sink talk.put)

-- what comes of a piece, for whoever serves the source
abbrev pub came_of : Result Connection AnswerFault → Result Unit (Halt TalkEnd)
came_of (Ok connection.Open) = Ok tt
came_of (Ok connection.Closed) = Err (Own Closed)
came_of (Err fault.Write) = Err Write
came_of (Err fault.Memory) = Err (Own Memory)

abbrev pub parties_at : {T W : Type 0} → Moment (PacketResponder T) (PacketSink W) → Parties T W
parties_at now =
    record {
      reader = now.responder.reader;
      answerer = now.responder.answerer;
      packets = now.edge;
    }

-- the parties stand for the conversation of these bytes, which goes on
pub record StandsBehind {T Session W : Type 0} (stands : T → Session → Type 0)
    (w : SinkGhosts W) (first : W) (parties : Parties T W) (talk : Talk Session) : Type 0 where
  pub talks : TalkStandsFor stands w first parties talk
  pub goes_on : talk.is_over ≡ false
  pub rises : w.faults first ≤ w.faults parties.packets.sink

-- what is promised of the parties
abbrev pub parties_promise : {T Session Interrupt W : Type 0} → (T → Session → Type 0)
    → (T → Option ℕ) → SinkGhosts W → (Option Interrupt → Session → List ℕ → Answer Session)
    → TalkStart Session W → Promise (Moment (PacketResponder T) (PacketSink W)) TalkEnd
parties_promise stands left w reply start =
    let talk = talk_promise w reply start in
    record {
      answered = λ now bytes. OfSomeTalk reply start.session
          (λ count. HaveCome count start.left (left now.responder.answerer)) bytes
          (StandsBehind stands w start.sink (parties_at now));
      ended = λ now bytes. talk.ended now.edge.sink bytes;
      stopped = λ now before last why. talk.stopped now.edge.sink before last why;
    }
