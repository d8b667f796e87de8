-- How those who take part in a serving go on with a conversation, byte after byte.
use Rattle.std.{proofs.{Common.{◌≡◌, ◌∙◌, ◌++◌, ◌+◌, ◌<◌, ℕ, true, false, List, [], ◌∷◌, Bool, Option, Some, None, Result, Ok, Err, IsErr, refl, ap, sym, subst, ⊎_elim}, lemmas.{Bool.{cases_Bool, false≢true}, List.{append-nil, take_more}}}, specs.Prelude.{is_some, length, nat_lt, slice_index, take}}
use Rattle.outside_edge.{specs.{Sink.{Takes, TakesPrefix}, declared.sink.Sink.Ghosts as SinkGhosts}, proofs.SinkLemmas.{prefix_after, prefix_of_more, takes_both}}
use Rattle.debug_link.{specs.{Conversation.{LONGEST_BODY, Answer, HaveCome, Input, Talk, answer_to, talk_after_message, input_bytes, count_of, interrupts_of, mark_of, with_mark, with_answer, talk_with_byte, talk_with_inputs}, HeldBody.{HeldBody, short_body}, Link.{Message, Silence, Again, Damage, Whole, link_after, message_of}, Packet.{packet_of, packets_of}, Reading.{KeepsBody, ReaderStandsFor, heard_of}, Serving.{GoesOnTo, Parties, TalkStandsFor}, Writing.{Answers, PacketSink}, declared.{answer_fault.AnswerFault.AnswerFault, connection.Connection.{Connection, TheVariants.{Open, Closed}}, packet_reader.Heard.Heard}}, proofs.{Interrupts.{came-both, came-one, came-quiet, none-came}, Talks.{answered_more, bytes_both, closed_inputs, inputs_both, inputs_more, open_byte, quiet, quiet_bytes}}}
use Rattle.debug_link.specs.declared.packet_reader.Heard.TheVariants as heard

abbrev is_whole : Heard → Bool
is_whole heard.Silence = false
is_whole heard.Again = false
is_whole heard.Damage = false
is_whole heard.Whole = true

module _ {T Session W : Type 0} (stands : T → Session → Type 0) (w : SinkGhosts W) where
  -- the mark that is due was put
  pub mark_put : (first : W) (old new : Parties T W) (talk : Talk Session) (byte : ℕ)
      → TalkStandsFor stands w first old talk
      → Takes w.stands old.packets.sink new.packets.sink
      (mark_of old.packets.last (message_of talk.link byte))
      → ReaderStandsFor new.reader (link_after talk.link byte)
      → new.answerer ≡ old.answerer → new.packets.last ≡ old.packets.last
      → TalkStandsFor stands w first new (with_mark talk byte)
  mark_put first old new talk byte so put reads answerer last =
      let message : Message = message_of talk.link byte in
      let Due : List ℕ → Type 0 =
      λ (one : List ℕ). Takes w.stands old.packets.sink new.packets.sink (mark_of one message) in
      record {
        reads = reads;
        session = rw answerer so.session;
        last = last ∙ so.last;
        put = takes_both w.stands first old.packets.sink new.packets.sink talk.put
            (mark_of talk.last message) so.put (subst Due so.last put);
      }

  -- the answer to a whole packet
  answer_put : (first : W) (old new : Parties T W) (talk : Talk Session) (answer : Answer Session)
      (result : Result Connection AnswerFault)
      → TalkStandsFor stands w first old talk
      → ReaderStandsFor new.reader talk.link
      → Answers stands w old.packets new.packets new.answerer answer result
      → GoesOnTo stands w first new (with_answer talk answer) result
  answer_put first old new talk answer (Ok connection) so reads put =
      record {
        all = (
          rw put.all.connection_is refl,
          record {
            reads = reads;
            session = put.all.stood;
            last = put.all.puts.last ∙ rw so.last refl;
            put = takes_both w.stands first old.packets.sink new.packets.sink talk.put
                (packets_of answer.packets) so.put put.all.puts.takes;
          },
        );
        prefix = tt;
      }
  answer_put first old new talk answer (Err fault) so reads put =
      record {
        all = tt;
        prefix = prefix_after w.stands first old.packets.sink new.packets.sink talk.put
            (packets_of answer.packets) so.put put.prefix;
      }

module _ {T Session W : Type 0} (stands : T → Session → Type 0) (w : SinkGhosts W)
    (reply : Session → List ℕ → Answer Session) where
  -- the mark that is due could not be put
  pub mark_failed : (first : W) (old new : Parties T W) (talk : Talk Session) (byte : ℕ)
      (result : Result Connection AnswerFault)
      → talk.is_over ≡ false → TalkStandsFor stands w first old talk
      → TakesPrefix w.stands old.packets.sink new.packets.sink
      (mark_of old.packets.last (message_of talk.link byte))
      → IsErr result
      → GoesOnTo stands w first new (talk_with_byte reply talk byte) result
  mark_failed first old new talk byte (Ok connection) still so prefix is = absurd (false≢true is)
  mark_failed first old new talk byte (Err fault) still so prefix is =
      let message : Message = message_of talk.link byte in
      let mark : List ℕ = mark_of talk.last message in
      let rest = answered_more reply (with_mark talk byte) message in
      let Due : List ℕ → Type 0 =
      λ last. TakesPrefix w.stands old.packets.sink new.packets.sink (mark_of last message) in
      record {
        all = tt;
        prefix = rw (open_byte reply talk byte still, rest.1)
            (prefix_of_more w.stands first new.packets.sink (talk.put ++ mark) rest.0
            (prefix_after w.stands first old.packets.sink new.packets.sink talk.put mark so.put
            (subst Due so.last prefix)));
      }

  -- nothing more is due
  nothing_due : (talk : Talk Session) (message : Message) → (heard_of message ≡ heard.Whole → ⊥)
      → talk_after_message reply talk message ≡ talk
  nothing_due talk Silence other = refl
  nothing_due talk Again other = refl
  nothing_due talk Damage other = refl
  nothing_due talk (Whole body) other = absurd (other refl)

  pub byte_marked : (first : W) (new : Parties T W) (talk : Talk Session) (byte : ℕ)
      → talk.is_over ≡ false → TalkStandsFor stands w first new (with_mark talk byte)
      → (heard_of (message_of talk.link byte) ≡ heard.Whole → ⊥)
      → GoesOnTo stands w first new (talk_with_byte reply talk byte) (Ok Open)
  byte_marked first new talk byte still so other =
      let same = open_byte reply talk byte still
      ∙ nothing_due (with_mark talk byte) (message_of talk.link byte) other in
      rw same (record { all = (sym still, so); prefix = tt })

  -- a body that is too long
  short_is : (bytes : List ℕ) → nat_lt LONGEST_BODY (length bytes) ≡ false
      → short_body bytes ≡ Some bytes
  short_is bytes short = rw short refl

  long_body : (session : Session) (bytes : List ℕ) → None ≡ short_body bytes
      → answer_to reply session bytes
      ≡ record { session = session; packets = [] ∷ []; connection = Open }
  long_body session bytes none =
      ⊎_elim
      (λ long. rw long refl)
      (λ short. absurd (false≢true (ap is_some (none ∙ short_is bytes short))))
      (cases_Bool (nat_lt LONGEST_BODY (length bytes)))

  one_packet : packets_of ([] ∷ []) ≡ packet_of []
  unfolding packets_of
  one_packet = append-nil (packet_of [])

  pub long_failed : (old new : PacketSink W) (answerer : T) (session : Session) (bytes : List ℕ)
      (result : Result Connection AnswerFault)
      → None ≡ short_body bytes → TakesPrefix w.stands old.sink new.sink (packet_of [])
      → IsErr result
      → Answers stands w old new answerer (answer_to reply session bytes) result
  long_failed old new answerer session bytes (Ok connection) none prefix is =
      absurd (false≢true is)
  long_failed old new answerer session bytes (Err fault) none prefix is =
      rw (long_body session bytes none) (record { all = tt; prefix = rw one_packet prefix })

  pub long_put : (old new : PacketSink W) (answerer : T) (session : Session) (bytes : List ℕ)
      → stands answerer session → None ≡ short_body bytes
      → Takes w.stands old.sink new.sink (packet_of []) → new.last ≡ packet_of []
      → Answers stands w old new answerer (answer_to reply session bytes) (Ok Open)
  long_put old new answerer session bytes stood none put last =
      rw (long_body session bytes none)
      (record {
        all = record {
          connection_is = refl;
          stood = stood;
          puts = record { takes = rw one_packet put; last = last };
        };
        prefix = tt;
      })

module _ {T Session Interrupt W : Type 0} (stands : T → Session → Type 0) (left : T → Option ℕ)
    (w : SinkGhosts W) (reply : Option Interrupt → Session → List ℕ → Answer Session) where
  -- as many interrupts have come from one moment to another
  abbrev Came : ℕ → Parties T W → Parties T W → Type 0
  Came count old new = HaveCome count (left old.answerer) (left new.answerer)

  -- the answer to a whole packet, where something interrupts it or nothing does
  abbrev AnswersSo : Parties T W → Parties T W → Option (List ℕ) → Result Connection AnswerFault
      → Type 0
  AnswersSo old new body result =
      (session : Session) (bytes : List ℕ) → stands old.answerer session
      → body ≡ short_body bytes
      → (interrupt : Option Interrupt) × Came (count_of interrupt) old new
      × Answers stands w old.packets new.packets new.answerer
      (answer_to (reply interrupt) session bytes) result

  whole_answered : (first : W) (old new : Parties T W) (talk : Talk Session) (message : Message)
      (body : Option (List ℕ)) (result : Result Connection AnswerFault)
      → TalkStandsFor stands w first old talk
      → ReaderStandsFor new.reader talk.link
      → heard_of message ≡ heard.Whole → KeepsBody old.reader message
      → body ≡ old.reader.body.bytes
      → AnswersSo old new body result
      → (interrupt : Option Interrupt) × Came (count_of interrupt) old new
      × GoesOnTo stands w first new (talk_after_message (reply interrupt) talk message) result
  whole_answered first old new talk (Whole bytes) body result so reads is kept held answers =
      let told =
      answers talk.session bytes so.session (held ∙ ap (λ (one : HeldBody). one.bytes) kept) in (
        told.0,
        told.1,
        answer_put stands w first old new talk (answer_to (reply told.0) talk.session bytes) result
            so reads told.2,
      )
  whole_answered first old new talk Silence body result so reads is kept held answers =
      absurd (false≢true (ap is_whole is))
  whole_answered first old new talk Again body result so reads is kept held answers =
      absurd (false≢true (ap is_whole is))
  whole_answered first old new talk Damage body result so reads is kept held answers =
      absurd (false≢true (ap is_whole is))

  pub byte_answered : (first : W) (old new : Parties T W) (talk : Talk Session) (byte : ℕ)
      (body : Option (List ℕ)) (result : Result Connection AnswerFault)
      → talk.is_over ≡ false → TalkStandsFor stands w first old (with_mark talk byte)
      → ReaderStandsFor new.reader (link_after talk.link byte)
      → heard_of (message_of talk.link byte) ≡ heard.Whole
      → KeepsBody old.reader (message_of talk.link byte)
      → body ≡ old.reader.body.bytes
      → AnswersSo old new body result
      → (interrupt : Option Interrupt) × Came (count_of interrupt) old new
      × GoesOnTo stands w first new (talk_with_byte (reply interrupt) talk byte) result
  byte_answered first old new talk byte body result still so reads is kept held answers =
      let told =
      whole_answered first old new (with_mark talk byte)
      (message_of talk.link byte) body result so
      reads is kept held answers in
      (told.0, told.1, rw (open_byte (reply told.0) talk byte still) told.2)

  -- how they go on by a byte, whatever they stood for while the connection is open
  abbrev pub GoesOnAt : Parties T W → Parties T W → ℕ → Result Connection AnswerFault → Type 0
  GoesOnAt old new byte result =
      (talk : Talk Session) (first : W) → talk.is_over ≡ false
      → TalkStandsFor stands w first old talk
      → (interrupt : Option Interrupt) × Came (count_of interrupt) old new
      × GoesOnTo stands w first new (talk_with_byte (reply interrupt) talk byte) result

  -- and by bytes
  abbrev pub GoesOnBy : Parties T W → Parties T W → List ℕ → Result Connection AnswerFault → Type 0
  GoesOnBy old new bytes result =
      (talk : Talk Session) (first : W) → talk.is_over ≡ false
      → TalkStandsFor stands w first old talk
      → (inputs : List (Input Interrupt)) × (input_bytes inputs ≡ bytes)
      × Came (interrupts_of inputs) old new
      × GoesOnTo stands w first new (talk_with_inputs reply talk inputs) result

  pub by_none : (now : Parties T W) → GoesOnBy now now [] (Ok Open)
  by_none now talk first still so =
      ([], refl, none-came (left now.answerer), record { all = (sym still, so); prefix = tt })

  by_one : (old new : Parties T W) (byte : ℕ) (result : Result Connection AnswerFault)
      → GoesOnAt old new byte result → GoesOnBy old new (byte ∷ []) result
  by_one old new byte result goes talk first still so =
      let end = goes talk first still so in (
        record { byte = byte; interrupt = end.0 } ∷ [],
        refl,
        came-one byte end.0 (left old.answerer) (left new.answerer) end.1,
        end.2,
      )

  by_more : (old mid new : Parties T W) (one two : List ℕ)
      (result : Result Connection AnswerFault)
      → GoesOnBy old mid one (Ok Open) → GoesOnBy mid new two result
      → GoesOnBy old new (one ++ two) result
  by_more old mid new one two result before next talk first still so =
      let between = before talk first still so in
      let now : Talk Session = talk_with_inputs reply talk between.0 in
      let end = next now first (sym between.3.all.0) between.3.all.1 in (
        between.0 ++ end.0,
        bytes_both between.0 end.0 one two between.1 end.1,
        came-both between.0 end.0 (left old.answerer) (left mid.answerer) (left new.answerer)
            between.2 end.2,
        rw (inputs_both reply talk between.0 end.0) end.3,
      )

  -- behind the end no byte counts
  pub by_closed : (old new : Parties T W) (bytes rest : List ℕ)
      → GoesOnBy old new bytes (Ok Closed) → GoesOnBy old new (bytes ++ rest) (Ok Closed)
  by_closed old new bytes rest by talk first still so =
      let end = by talk first still so in
      let now : Talk Session = talk_with_inputs reply talk end.0 in (
        end.0 ++ quiet rest,
        bytes_both end.0 (quiet rest) bytes rest end.1 (quiet_bytes Interrupt rest),
        came-quiet end.0 rest (left old.answerer) (left new.answerer) end.2,
        rw (
          inputs_both reply talk end.0 (quiet rest),
          closed_inputs reply now (quiet rest) (sym end.3.all.0),
        ) end.3,
      )

  pub by_failed : (old new : Parties T W) (bytes rest : List ℕ) (fault : AnswerFault)
      (result : Result Connection AnswerFault)
      → IsErr result → GoesOnBy old new bytes (Err fault) → GoesOnBy old new (bytes ++ rest) result
  by_failed old new bytes rest fault (Ok connection) is by talk first still so =
      absurd (false≢true is)
  by_failed old new bytes rest fault (Err other) is by talk first still so =
      let end = by talk first still so in
      let now : Talk Session = talk_with_inputs reply talk end.0 in
      let more = inputs_more reply now (quiet rest) in (
        end.0 ++ quiet rest,
        bytes_both end.0 (quiet rest) bytes rest end.1 (quiet_bytes Interrupt rest),
        came-quiet end.0 rest (left old.answerer) (left new.answerer) end.2,
        record {
          all = tt;
          prefix = rw (inputs_both reply talk end.0 (quiet rest), more.1)
              (prefix_of_more w.stands first new.packets.sink now.put more.0 end.3.prefix);
        },
      )

  -- one byte of a piece more
  pub by_byte : (old mid new : Parties T W) (piece : List ℕ) (at byte : ℕ)
      (result : Result Connection AnswerFault)
      → at < length piece → byte ≡ slice_index piece at
      → GoesOnBy old mid (take at piece) (Ok Open) → GoesOnAt mid new byte result
      → GoesOnBy old new (take (at + 1) piece) result
  by_byte old mid new piece at byte result within is before next =
      rw (take_more piece at 0 within, ← is)
      (by_more old mid new (take at piece) (byte ∷ []) result before
      (by_one mid new byte result next))
