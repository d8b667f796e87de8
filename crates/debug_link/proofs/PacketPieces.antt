-- What comes of a piece of packets, for whoever serves the source.
use Rattle.std.{proofs.{Common.{◌≡◌, ◌++◌, ℕ, List, [], Ok, Err, refl, sym, arith}, lemmas.List.append-nil}, specs.Prelude.{Option, Result}}
use Rattle.outside_edge.{specs.declared.sink.Sink.Ghosts as SinkGhosts, proofs.Counts.rose_since}
use Rattle.source_server.specs.Responder.{Answers, Moment}
use Rattle.debug_link.{specs.{Conversation.{Answer, HaveCome, OfSomeTalk, Talk, conversation, first_talk, interrupts_of}, Link.Between, Reading.ReaderStandsFor, Serving.{GoesOnTo, StandsBehind, TalkStart, came_of, parties_at, parties_promise}, Writing.{CountsWriteFaults, PacketSink}, declared.{answer_fault.AnswerFault.AnswerFault, connection.Connection.{Connection, TheVariants.{Open, Closed}}, packet_responder.PacketResponder.PacketResponder}}, proofs.{Interrupts.{came-both, may-come, none-came}, Parties.GoesOnBy, Talks.{bytes_both, inputs_both}}}
use Rattle.debug_link.specs.declared.answer_fault.AnswerFault.TheVariants as fault

module _ {T Session Interrupt W : Type 0} (stands : T → Session → Type 0) (left : T → Option ℕ)
    (w : SinkGhosts W) (reply : Option Interrupt → Session → List ℕ → Answer Session) where
  -- before the first byte
  pub first_stands : (session : Session) (answerer : T)
      (first : Moment (PacketResponder T) (PacketSink W))
      → ReaderStandsFor first.responder.reader Between
      → first.responder.answerer ≡ answerer → stands answerer session → first.edge.last ≡ []
      → OfSomeTalk reply session
      (λ (count : ℕ). HaveCome count (left answerer) (left first.responder.answerer)) []
      (StandsBehind stands w first.edge.sink (parties_at first))
  first_stands session answerer first reads same stood last = (
    [],
    refl,
    rw same (none-came (left answerer)),
    record {
      talks = record {
        reads = reads;
        session = rw same stood;
        last = last;
        put = λ before holds. rw (append-nil before) holds;
      };
      goes_on = refl;
      rises = omega arith;
    },
  )

  -- as many interrupts have come since the first byte
  abbrev CameSince : TalkStart Session W → Moment (PacketResponder T) (PacketSink W) → ℕ → Type 0
  CameSince start now count = HaveCome count start.left (left now.responder.answerer)

  -- the parties stand behind these bytes
  abbrev Behind : TalkStart Session W → Moment (PacketResponder T) (PacketSink W) → List ℕ
      → Type 0
  Behind start now bytes =
      OfSomeTalk reply start.session (CameSince start now) bytes
      (StandsBehind stands w start.sink (parties_at now))

  -- the conversation up to the end of a piece
  came_behind : (start : TalkStart Session W)
      (old new : Moment (PacketResponder T) (PacketSink W)) (before piece : List ℕ)
      (result : Result Connection AnswerFault)
      → Behind start old before
      → GoesOnBy stands left w reply (parties_at old) (parties_at new) piece result
      → OfSomeTalk reply start.session (CameSince start new) (before ++ piece)
      (λ (talk : Talk Session). GoesOnTo stands w start.sink (parties_at new) talk result)
  came_behind start old new before piece result so goes =
      let end =
      goes (conversation reply start.session so.0) start.sink so.3.goes_on so.3.talks in (
        so.0 ++ end.0,
        bytes_both so.0 end.0 before piece so.1 end.1,
        came-both so.0 end.0 start.left (left old.responder.answerer)
            (left new.responder.answerer) so.2 end.2,
        rw (inputs_both reply (first_talk start.session) so.0 end.0) end.3,
      )

  pub piece_came : (start : TalkStart Session W)
      (old new : Moment (PacketResponder T) (PacketSink W)) (before piece : List ℕ)
      (result : Result Connection AnswerFault)
      → Behind start old before
      → GoesOnBy stands left w reply (parties_at old) (parties_at new) piece result
      → CountsWriteFaults w.faults old.edge.sink new.edge.sink result
      → Answers (parties_promise stands left w reply start) new before piece (came_of result)
  piece_came start old new before piece (Ok Open) so goes counts =
      let end = came_behind start old new before piece (Ok Open) so goes in
      record {
        goes_on = (
          end.0,
          end.1,
          end.2,
          record {
            talks = end.3.all.1;
            goes_on = sym end.3.all.0;
            rises = omega (arith, so.3.rises, counts.counted);
          },
        );
        stops = tt;
      }
  piece_came start old new before piece (Ok Closed) so goes counts =
      let end = came_behind start old new before piece (Ok Closed) so goes in
      record {
        goes_on = tt;
        stops = (
          end.0,
          end.1,
          may-come (interrupts_of end.0) start.left (left new.responder.answerer) end.2,
          (end.3.all.1.put, sym end.3.all.0),
        );
      }
  piece_came start old new before piece (Err fault.Write) so goes counts =
      let end = came_behind start old new before piece (Err fault.Write) so goes in
      record {
        goes_on = tt;
        stops = (
          end.0,
          end.1,
          may-come (interrupts_of end.0) start.left (left new.responder.answerer) end.2,
          (
            end.3.prefix,
            rose_since (w.faults start.sink) (w.faults old.edge.sink) (w.faults new.edge.sink)
                so.3.rises (counts.failed refl),
          ),
        );
      }
  piece_came start old new before piece (Err fault.Memory) so goes counts =
      let end = came_behind start old new before piece (Err fault.Memory) so goes in
      record {
        goes_on = tt;
        stops = (
          end.0,
          end.1,
          may-come (interrupts_of end.0) start.left (left new.responder.answerer) end.2,
          end.3.prefix,
        );
      }
